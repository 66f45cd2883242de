-- Texts that are sent one after another.
use Rattle.std.proofs.Common.{◌≡◌, ◌≤◌, ◌+◌, ◌++◌, ℕ, List, [], ◌∷◌, take, length, None, Some, Ok, Err, Result, refl, sym, ap, ◌∙◌, arith, append_assoc, zero, suc, map, Option, append-nil, suc-add}
use Rattle.std.proofs.Math.Seq.{take-length}
use Rattle.std.proofs.Common.{get_or, ◌<◌, Bor, subst, OnErr}
use Rattle.std.specs.List.{concat}
use Rattle.std.specs.declared.option.Option.{Option}
use Rattle.sync_port.specs.States.{FaultCounted, IfBoth, IfKnown}
use Rattle.sync_port.proofs.CallerLemmas.{both_alone}
use Rattle.sync_port.specs.Ports.{SinkContents, SinkState, Flushes, SinkFaults}
use Rattle.sync_port.specs.Sending.{Sends}
use Rattle.treesync.specs.Ends.{PrintsAll, Says, SaysLine}
use Rattle.sync_port.specs.declared.faults.SinkFailed.{SinkFailed}

take-nil : (n : ℕ) → take {A = ℕ} n [] ≡ []
take-nil zero = refl
take-nil (suc n) = refl

-- the first bytes of the first text are the first of both
pub first_of_both : (x y : List ℕ) (n : ℕ) → (k : ℕ) × (take k (x ++ y) ≡ take n x)
first_of_both [] y n = (0, sym (take-nil n))
first_of_both (b ∷ x) y zero = (0, refl)
first_of_both (b ∷ x) y (suc n) = let rest = first_of_both x y n in (suc rest.0, ap (λ l. b ∷ l) rest.1)

-- the whole first text and the first bytes of the second are the first of both
pub first_beyond : (x y : List ℕ) (n : ℕ) → (k : ℕ) × (take k (x ++ y) ≡ x ++ take n y)
first_beyond [] y n = (n, refl)
first_beyond (b ∷ x) y n = let rest = first_beyond x y n in (suc rest.0, ap (λ l. b ∷ l) rest.1)

-- the second text follows the first
pub sends_on : (a b c : Option SinkContents) (x y : List ℕ) (first : Unit {0}) (result : Result (Unit {0}) SinkFailed) →
    IfBoth a b (Sends {T = Unit {0}} x (Ok first)) → IfBoth b c (Sends y result) → IfBoth a c (Sends (x ++ y) result)
sends_on None None c x y first result h g = whether c g
  where
    whether : (c : Option SinkContents) → IfBoth None c (Sends y result) → IfBoth None c (Sends (x ++ y) result)
    whether None g = tt
    whether (Some k) g = absurd g
sends_on None (Some b) c x y first result h g = absurd h
sends_on (Some a) None c x y first result h g = absurd h
sends_on (Some a) (Some b) None x y first result h g = absurd g
sends_on (Some a) (Some b) (Some c) x y first (Ok second) h g = (g.0 ∙ ap (λ l. l ++ y) h.0 ∙ append_assoc a.written x y, g.1 ∙ h.1)
sends_on (Some a) (Some b) (Some c) x y first (Err failed) h g =
    let first = first_beyond x y g.0.0 in
    ((first.0, g.0.1 ∙ ap (λ l. l ++ take g.0.0 y) h.0 ∙ append_assoc a.written x (take g.0.0 y) ∙ ap (λ l. a.written ++ l) (sym first.1)), g.1 ∙ h.1)

-- where the first text failed, the first bytes of both were sent
pub sends_stop : (a b : Option SinkContents) (x y : List ℕ) (failed : SinkFailed) →
    IfBoth a b (Sends {T = Unit {0}} x (Err failed)) → IfBoth a b (Sends {T = Unit {0}} (x ++ y) (Err failed))
sends_stop None None x y failed h = tt
sends_stop None (Some b) x y failed h = absurd h
sends_stop (Some a) None x y failed h = absurd h
sends_stop (Some a) (Some b) x y failed h =
    let first = first_of_both x y h.0.0 in
    ((first.0, h.0.1 ∙ ap (λ l. a.written ++ l) (sym first.1)), h.1)

-- ---- a list of texts

-- the first n texts, joined
abbrev pub joined : List (Bor (List ℕ)) → ℕ → List ℕ
joined texts n = concat (map (λ text. text.now) (take n texts))

whole_joined : (texts : List (Bor (List ℕ))) (n : ℕ) → length texts ≤ n → joined texts n ≡ concat (map (λ text. text.now) texts)
whole_joined [] zero h = refl
whole_joined [] (suc n) h = refl
whole_joined (t ∷ texts) zero h = absurd (omega arith)
whole_joined (t ∷ texts) (suc n) h = ap (λ l. t.now ++ l) (whole_joined texts n (omega arith))

joined_more : (texts : List (Bor (List ℕ))) (n : ℕ) (d : Bor (List ℕ)) → n < length texts → joined texts (n + 1) ≡ joined texts n ++ (get_or texts n d).now
joined_more [] n d h = absurd (omega arith)
joined_more (t ∷ texts) zero d h = append-nil t.now
joined_more (t ∷ texts) (suc n) d h = rw suc-add (ap (λ l. t.now ++ l) (joined_more texts n d (omega arith)) ∙ sym (append_assoc t.now (joined texts n) (get_or texts n d).now))

-- what is after the first n texts
joined_rest : (texts : List (Bor (List ℕ))) (n : ℕ) → (rest : List ℕ) × (concat (map (λ text. text.now) texts) ≡ joined texts n ++ rest)
joined_rest texts zero = (concat (map (λ text. text.now) texts), refl)
joined_rest [] (suc n) = ([], refl)
joined_rest (t ∷ texts) (suc n) = let rest = joined_rest texts n in (rest.0, ap (λ l. t.now ++ l) rest.1 ∙ sym (append_assoc t.now (joined texts n) rest.0))

none_sent : (a : Option SinkContents) → IfBoth a a (Sends {T = Unit {0}} [] (Ok tt))
none_sent None = tt
none_sent (Some m) = (sym (append-nil m.written), refl)

pub begins : (a : Option SinkContents) (texts : List (Bor (List ℕ))) → IfBoth a a (Sends {T = Unit {0}} (joined texts 0) (Ok tt))
begins a texts = none_sent a

pub goes_on : (a b c : Option SinkContents) (texts : List (Bor (List ℕ))) (n : ℕ) (d : Bor (List ℕ)) → n < length texts →
    IfBoth a b (Sends {T = Unit {0}} (joined texts n) (Ok tt)) → IfBoth b c (Sends {T = Unit {0}} (get_or texts n d).now (Ok tt)) → IfBoth a c (Sends {T = Unit {0}} (joined texts (n + 1)) (Ok tt))
goes_on a b c texts n d h first second =
    subst (λ sent. IfBoth a c (Sends {T = Unit {0}} sent (Ok tt))) (sym (joined_more texts n d h)) (sends_on a b c (joined texts n) (get_or texts n d).now tt (Ok tt) first second)

pub stops : (a b c : Option SinkContents) (texts : List (Bor (List ℕ))) (n : ℕ) (d : Bor (List ℕ)) (failed : SinkFailed) → n < length texts →
    IfBoth a b (Sends {T = Unit {0}} (joined texts n) (Ok tt)) → IfBoth b c (Sends {T = Unit {0}} (get_or texts n d).now (Err failed)) → IfBoth a c (Sends {T = Unit {0}} (concat (map (λ text. text.now) texts)) (Err failed))
stops a b c texts n d failed h first second =
    let rest = joined_rest texts (n + 1) in
    let sent = subst (λ t. IfBoth a c (Sends {T = Unit {0}} t (Err failed))) (sym (joined_more texts n d h)) (sends_on a b c (joined texts n) (get_or texts n d).now tt (Err failed) first second) in
    subst (λ t. IfBoth a c (Sends {T = Unit {0}} t (Err failed))) (sym rest.1) (sends_stop a c (joined texts (n + 1)) rest.0 failed sent)

pub ends : (a b : Option SinkContents) (texts : List (Bor (List ℕ))) (n : ℕ) → length texts ≤ n → IfBoth a b (Sends {T = Unit {0}} (joined texts n) (Ok tt)) → IfBoth a b (Sends {T = Unit {0}} (concat (map (λ text. text.now) texts)) (Ok tt))
ends a b texts n h sent = subst (λ t. IfBoth a b (Sends {T = Unit {0}} t (Ok tt))) (whole_joined texts n h) sent

-- ---- a line that ends with a path

pub line_sent : (a b c d : Option SinkContents) (prefix path end : List ℕ) (first second : Unit {0}) (result : Result (Unit {0}) SinkFailed) →
    IfBoth a b (Sends {T = Unit {0}} prefix (Ok first)) → IfBoth b c (Sends {T = Unit {0}} path (Ok second)) → IfBoth c d (Sends end result) → IfBoth a d (Sends (prefix ++ (path ++ end)) result)
line_sent a b c d prefix path end first second result h g k = sends_on a b d prefix (path ++ end) first result h (sends_on b c d path end second result g k)

pub path_stops : (a b c : Option SinkContents) (prefix path end : List ℕ) (first : Unit {0}) (failed : SinkFailed) →
    IfBoth a b (Sends {T = Unit {0}} prefix (Ok first)) → IfBoth b c (Sends {T = Unit {0}} path (Err failed)) → IfBoth a c (Sends {T = Unit {0}} (prefix ++ (path ++ end)) (Err failed))
path_stops a b c prefix path end first failed h g = sends_on a b c prefix (path ++ end) first (Err failed) h (sends_stop b c path end failed g)

-- ---- printing, and saying one line

-- what was sent and then flushed
pub flushes : (a b c : Option SinkContents) (text : List ℕ) (first : Unit {0}) (result : Result (Unit {0}) SinkFailed) →
    IfBoth a b (Sends {T = Unit {0}} text (Ok first)) → IfBoth b c (Flushes result) → IfBoth a c (PrintsAll text result)
flushes None None None text first result h g = tt
flushes None None (Some k) text first result h g = absurd g
flushes None (Some b) c text first result h g = absurd h
flushes (Some a) None c text first result h g = absurd h
flushes (Some a) (Some b) None text first result h g = absurd g
flushes (Some a) (Some b) (Some c) text first (Ok done) h g = (g.0 ∙ h.0, g.1 ∙ ap length (sym g.0))
flushes (Some a) (Some b) (Some c) text first (Err failed) h g = (length text, ap (λ w. w.written) g ∙ h.0 ∙ ap (λ l. a.written ++ l) (sym (take-length text)))

-- a line that was sent, or its first bytes where a fault was counted
says_line : (a b : Option SinkContents) (line : List ℕ) (counted : Type 0) (result : Result (Unit {0}) SinkFailed) →
    OnErr result counted → IfBoth a b (Sends line result) → IfBoth a b (SaysLine line counted)
says_line None None line counted result c h = tt
says_line None (Some b) line counted result c h = absurd h
says_line (Some a) None line counted result c h = absurd h
says_line (Some a) (Some b) line counted (Ok done) c h = record { part = (length line, h.0 ∙ ap (λ l. a.written ++ l) (sym (take-length line))); whole = λ quiet. h.0 }
says_line (Some a) (Some b) line counted (Err failed) c h = record { part = h.0; whole = λ quiet. absurd (quiet c) }

pub says : (before now : SinkState) (line : List ℕ) (result : Result (Unit {0}) SinkFailed) → SinkFaults result before now → IfKnown before now (Sends line result) → Says line before now
says before now line result faults h = says_line before.contents now.contents line (FaultCounted before now) result faults.failed h

-- nothing was said
pub says_nothing : (state : SinkState) → Says [] state state
says_nothing state = both_alone (SaysLine [] (FaultCounted state state)) state.contents (λ m. record { part = (0, sym (append-nil m.written)); whole = λ quiet. sym (append-nil m.written) })
