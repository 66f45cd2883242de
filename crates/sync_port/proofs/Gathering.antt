-- Gathering a text, and sending what was gathered.
use Rattle.std.proofs.Common.{◌≡◌, ◌<◌, ◌≤◌, ℕ, suc, List, [], ◌∷◌, ◌+◌, ◌++◌, take, drop, length, None, Some, Ok, Err, Option, Result, IsErr, refl, subst, ap, ◌∙◌, sym, add-one, drop-cons, length-drop, take-append-drop, arith, append-nil}
use Rattle.std.proofs.lemmas.List.{append_assoc, at_drop_all}
use Rattle.std.proofs.lemmas.Option.{get_or_from_slice_get}
use Rattle.std.proofs.Math.Seq.{take-append_seam}
use Rattle.std.specs.List.{slice_get}
use Rattle.sync_path.specs.Escapes.{escaped}
use Rattle.sync_path.specs.Paths.{path_text}
use Rattle.sync_port.specs.States.{IfBoth}
use Rattle.sync_port.specs.Ports.{SinkContents}
use Rattle.sync_port.specs.Sending.{Sends, Passes, Gathers}
use Rattle.sync_port.specs.declared.faults.SinkFailed.{SinkFailed}
use Rattle.sync_port.proofs.Known.{both_more, both_then}

-- ---- what is passed on

-- nothing was sent yet
passes_none : (a : Option SinkContents) (bytes : List ℕ) → IfBoth a a (Passes bytes bytes)
passes_none None bytes = grind arith
passes_none (Some m) bytes = ([], sym (append-nil m.written), refl, refl)

pub nothing_sent : (a : Option SinkContents) (whole gathered left : List ℕ) → gathered ≡ [] → whole ≡ left → IfBoth a a (Passes whole (gathered ++ left))
nothing_sent a whole gathered left empty same = subst (λ t. IfBoth a a (Passes whole t)) (same ∙ ap (λ t. t ++ left) (sym empty)) (passes_none a whole)

passes_then : (a b c : List ℕ) (m k j : SinkContents) → Passes a b m k → Passes b c k j → Passes a c m j
passes_then a b c m k j p q = (
  p.0 ++ q.0,
  q.1 ∙ ap (λ t. t ++ q.0) p.1 ∙ append_assoc m.written p.0 q.0,
  p.2 ∙ ap (λ t. p.0 ++ t) q.2 ∙ sym (append_assoc p.0 q.0 c),
  q.3 ∙ p.3,
)

passes_after : (a b more : List ℕ) (m k : SinkContents) → Passes a b m k → Passes (a ++ more) (b ++ more) m k
passes_after a b more m k p = (p.0, p.1, ap (λ t. t ++ more) p.2 ∙ append_assoc p.0 b more, p.3)

-- what a call on the way answers
abbrev pub Answer : Type 0
Answer = Result (Unit {0}) SinkFailed

-- what `send` does, as what is passed on
sent_all : (bytes : List ℕ) (done : Unit {0}) (m k : SinkContents) → Sends bytes (Ok done) m k → Passes bytes [] m k
sent_all bytes done m k s = (bytes, s.0, sym (append-nil bytes), s.1)

sent_some : (bytes : List ℕ) (failed : SinkFailed) (m k : SinkContents) → Sends {T = Unit {0}} bytes (Err failed) m k → (rest : List ℕ) × Passes bytes rest m k
sent_some bytes failed m k s = (drop s.0.0 bytes, (take s.0.0 bytes, s.0.1, sym (take-append-drop s.0.0 bytes), s.1))

sends_err : (bytes rest : List ℕ) (result : Answer) (m k : SinkContents) → IsErr result → Passes bytes rest m k → Sends bytes result m k
sends_err bytes rest (Ok done) m k e p = absurd (cc)
sends_err bytes rest (Err failed) m k e p =
    ((length p.0, p.1 ∙ ap (λ t. m.written ++ t) (sym (take-append_seam p.0 rest) ∙ ap (take (length p.0)) (sym p.2))), p.3)

gathers_err : (before text now rest : List ℕ) (result : Answer) (m k : SinkContents) → IsErr result → Passes (before ++ text) rest m k → Gathers before text now result m k
gathers_err before text now rest (Ok done) m k e p = absurd (cc)
gathers_err before text now rest (Err failed) m k e p = (rest, p)

-- ---- one more text

-- what was gathered could not be sent
pub block_refused : (old new : Option SinkContents) (sent before text now : List ℕ) (failed : SinkFailed) (result : Answer) →
    IfBoth old new (Sends {T = Unit {0}} sent (Err failed)) → sent ≡ before → IsErr result → IfBoth old new (Gathers before text now result)
block_refused old new sent before text now failed result h same e =
    both_more old new h (λ m k s. let p = sent_some sent failed m k s in
    gathers_err before text now (p.0 ++ text) result m k e (subst (λ b. Passes (b ++ text) (p.0 ++ text) m k) same (passes_after sent p.0 text m k p.1)))

-- what was gathered was sent, and then a long text
pub block_and_text : (old mid new : Option SinkContents) (first second before text now : List ℕ) (done : Unit {0}) (result : Answer) →
    IfBoth old mid (Sends first (Ok done)) → IfBoth mid new (Sends second result) → first ≡ before → second ≡ text → now ≡ [] → IfBoth old new (Gathers before text now result)
block_and_text old mid new first second before text now done result h w same alike empty =
    both_then old mid new h w (λ m k j s t.
    subst (λ b. Gathers b text now result m j) same (subst (λ x. Gathers first x now result m j) alike (ends m k j s result t)))
  where
    flushes : (m k : SinkContents) → Sends first (Ok done) m k → Passes (first ++ second) second m k
    flushes m k s = passes_after first [] second m k (sent_all first done m k s)

    ends : (m k j : SinkContents) → Sends first (Ok done) m k → (result : Answer) → Sends second result k j → Gathers first second now result m j
    ends m k j s (Ok x) t = passes_then (first ++ second) second now m k j (flushes m k s) (subst (λ r. Passes second r k j) (sym empty) (sent_all second x k j t))
    ends m k j s (Err failed) t = let p = sent_some second failed k j t in (p.0, passes_then (first ++ second) second p.0 m k j (flushes m k s) p.1)

-- ---- a whole text, part by part

-- what is passed on of a part is passed on of what was left
goes_on : (gathered left part more rest : List ℕ) (k j : SinkContents) → left ≡ part ++ more → Passes (gathered ++ part) rest k j → Passes (gathered ++ left) (rest ++ more) k j
goes_on gathered left part more rest k j same q =
    subst (λ t. Passes t (rest ++ more) k j) (append_assoc gathered part more ∙ ap (λ t. gathered ++ t) (sym same)) (passes_after (gathered ++ part) rest more k j q)

-- one more part was gathered
pub part_gathered : (old mid new : Option SinkContents) (whole gathered left part more now : List ℕ) (done : Unit {0}) →
    IfBoth old mid (Passes whole (gathered ++ left)) → IfBoth mid new (Gathers gathered part now (Ok done)) → left ≡ part ++ more → IfBoth old new (Passes whole (now ++ more))
part_gathered old mid new whole gathered left part more now done h w same =
    both_then old mid new h w (λ m k j p q. passes_then whole (gathered ++ left) (now ++ more) m k j p (goes_on gathered left part more now k j same q))

-- a part was refused
part_refused : (old mid new : Option SinkContents) (whole gathered left part more now : List ℕ) (failed : SinkFailed) →
    IfBoth old mid (Passes whole (gathered ++ left)) → IfBoth mid new (Gathers {T = Unit {0}} gathered part now (Err failed)) → left ≡ part ++ more →
    IfBoth old new (λ m j. (rest : List ℕ) × Passes whole rest m j)
part_refused old mid new whole gathered left part more now failed h w same =
    both_then old mid new h w (λ m k j p q. (q.0 ++ more, passes_then whole (gathered ++ left) (q.0 ++ more) m k j p (goes_on gathered left part more q.0 k j same q.1)))

pub piece_refused : (old mid new : Option SinkContents) (before text gathered left part more now then : List ℕ) (failed : SinkFailed) (result : Answer) →
    IfBoth old mid (Passes (before ++ text) (gathered ++ left)) → IfBoth mid new (Gathers {T = Unit {0}} gathered part now (Err failed)) → left ≡ part ++ more → IsErr result →
    IfBoth old new (Gathers before text then result)
piece_refused old mid new before text gathered left part more now then failed result h w same e =
    both_more old new (part_refused old mid new (before ++ text) gathered left part more now failed h w same) (λ m k p. gathers_err before text then p.0 result m k e p.1)

pub name_refused : (old mid new : Option SinkContents) (whole gathered left part more now : List ℕ) (failed : SinkFailed) (result : Answer) →
    IfBoth old mid (Passes whole (gathered ++ left)) → IfBoth mid new (Gathers {T = Unit {0}} gathered part now (Err failed)) → left ≡ part ++ more → IsErr result →
    IfBoth old new (Sends whole result)
name_refused old mid new whole gathered left part more now failed result h w same e =
    both_more old new (part_refused old mid new whole gathered left part more now failed h w same) (λ m k p. sends_err whole p.0 result m k e p.1)

-- the last block was sent, or refused
pub last_block : (old mid new : Option SinkContents) (whole gathered sent : List ℕ) (result : Answer) →
    IfBoth old mid (Passes whole gathered) → IfBoth mid new (Sends sent result) → sent ≡ gathered → IfBoth old new (Sends whole result)
last_block old mid new whole gathered sent result h w same =
    both_then old mid new h w (λ m k j p s. ends m k j (subst (λ b. Passes whole b m k) (sym same) p) result s)
  where
    ends : (m k j : SinkContents) → Passes whole sent m k → (result : Answer) → Sends sent result k j → Sends whole result m j
    ends m k j p (Ok done) s = let q = passes_then whole sent [] m k j p (sent_all sent done k j s) in
        (q.1 ∙ ap (λ t. m.written ++ t) (sym (append-nil q.0) ∙ sym q.2), q.3)
    ends m k j p (Err failed) s = let t = sent_some sent failed k j s in sends_err whole t.0 (Err failed) m j refl (passes_then whole sent t.0 m k j p t.1)

-- ---- the text of a path, name by name

-- the text of the names after the first
abbrev pub text_after : List (List ℕ) → List ℕ
text_after [] = []
text_after (name ∷ names) = 47 ∷ (escaped name ++ text_after names)

text_first : (name : List ℕ) (names : List (List ℕ)) → path_text (name ∷ names) ≡ escaped name ++ text_after names
text_first name [] = sym (append-nil (escaped name))
text_first name (next ∷ names) = ap (λ t. escaped name ++ (47 ∷ t)) (text_first next names)

pub text_at_first : (names : List (List ℕ)) (name : List ℕ) → slice_get names 0 ≡ Some name → path_text names ≡ escaped name ++ text_after (drop 1 names)
text_at_first [] name h = absurd (cc)
text_at_first (first ∷ names) name h =
    text_first first names ∙ ap (λ n. escaped n ++ text_after names) (get_or_from_slice_get (first ∷ names) 0 name name h)

pub text_at : (names : List (List ℕ)) (place : ℕ) (name : List ℕ) → place < length names → slice_get names place ≡ Some name →
    text_after (drop place names) ≡ 47 ∷ (escaped name ++ text_after (drop (place + 1) names))
text_at names place name h is =
    ap text_after (drop-cons names place name h)
    ∙ ap (λ n. 47 ∷ (escaped n ++ text_after (drop (suc place) names))) (get_or_from_slice_get names place name name is)
    ∙ ap (λ n. 47 ∷ (escaped name ++ text_after (drop n names))) (sym (add-one place))

pub no_text_past : (names : List (List ℕ)) (place : ℕ) → length names ≤ place → text_after (drop place names) ≡ []
no_text_past names place h = at_drop_all text_after names place h

-- the text after the first name begins with the mark
begins_marked : (names : List (List ℕ)) → 0 < length names → text_after names ≡ 47 ∷ drop 1 (text_after names)
begins_marked [] h = absurd (omega arith)
begins_marked (name ∷ names) h = refl

pub text_marked : (names : List (List ℕ)) (place : ℕ) → place < length names → text_after (drop place names) ≡ 47 ∷ drop 1 (text_after (drop place names))
text_marked names place h = begins_marked (drop place names) (omega (arith, length-drop place names))
