-- One command, call by call, and the first line and the end line.
use Rattle.std.proofs.Common.{◌≡◌, ◌≤◌, ◌⊎◌, inl, inr, ℕ, ◌+◌, List, [], ◌∷◌, ◌++◌, length, take, Option, Ok, Err, refl, sym, ap, subst, ◌∙◌, arith, append_assoc, append-nil, length-append}
use Rattle.std.proofs.Math.Seq.{take-length}
use Rattle.std.specs.Prelude.{⊤}
use Rattle.std.proofs.lemmas.Grind.{flat_map-append}
use Rattle.sync_command.specs.declared.values.Version.{Version}
use Rattle.sync_command.specs.Changes.{Change}
use Rattle.sync_command.specs.Maps.{Store, store, stored}
use Rattle.sync_port.specs.States.{IfBoth}
use Rattle.sync_port.specs.Ports.{SinkContents, Flushes}
use Rattle.sync_port.specs.Sending.{Sends}
use Rattle.sync_port.specs.declared.faults.SinkFailed.{SinkFailed}
use Rattle.sync_port.proofs.CallerLemmas.{both_alone, both_more, both_then}
use Rattle.tree_port.specs.Calls.{Puts}
use Rattle.tree_port.specs.declared.faults.TreeFault.{TreeFault}
use Rattle.tree_port.specs.declared.faults.TreeFault.TheVariants.{Failed, Denied, Memory}
use Rattle.record_core.specs.declared.faults.RecordFault.{RecordFault}
use Rattle.record_core.specs.Texts.{end_line_of, first_line, line_of, lines_of, open_text}
use Rattle.record_core.specs.Recording.{AfterLines, Begins, CarriesOut, Closes, Covers, GoesOn, InFirst, IsCut, IsPartDone, IsRecorded, IsWritten, LeavesOpen, WritesLine}

-- what is known of both, by the contents alone
abbrev pub BothHeld : Option SinkContents → Option SinkContents → Option Store → Option Store → (SinkContents → SinkContents → Store → Store → Type 0) → Type 0
BothHeld x y t u P = IfBoth x y (λ v w. IfBoth t u (λ m n. P v w m n))

-- ---- texts and maps of a list with more

pub text_more : (version : Version) (cs ds : List Change) → open_text version (cs ++ ds) ≡ open_text version cs ++ lines_of ds
text_more version cs ds = ap (λ t. first_line version ++ t) (flat_map-append line_of cs ds) ∙ sym (append_assoc (first_line version) (lines_of cs) (lines_of ds))

pub stored_more : (m : Store) (cs ds : List Change) → stored m (cs ++ ds) ≡ stored (stored m cs) ds
stored_more m [] ds = refl
stored_more m (c ∷ cs) ds = stored_more (store m c.node c.new) cs ds

-- the text with one line more
pub text_one : (version : Version) (cs : List Change) (c : Change) → open_text version (cs ++ c ∷ []) ≡ open_text version cs ++ line_of c
text_one version cs c = text_more version cs (c ∷ []) ∙ ap (λ l. open_text version cs ++ l) (append-nil (line_of c))

-- ---- one step, where both are known

covers_on : (version : Version) (cs : List Change) (w x y : SinkContents) (more : List ℕ) → x.written ≡ w.written ++ open_text version cs →
    y.written ≡ x.written ++ more → (y.flushed ≡ x.flushed) ⊎ (y.flushed ≡ length y.written) → Covers version cs w x → Covers version cs w y
covers_on version cs w x y more is gained f (inl none) = inl none
covers_on version cs w x y more is gained (inl same) (inr h) = inr (subst (λ k. length (w.written ++ open_text version cs) ≤ k) (sym same) h)
covers_on version cs w x y more is gained (inr all) (inr h) = inr (longer (length (w.written ++ open_text version cs)) (length more) y.flushed
    (all ∙ ap length (gained ∙ ap (λ t. t ++ more) is) ∙ length-append (w.written ++ open_text version cs) more))
  where
    longer : (a b k : ℕ) → k ≡ a + b → a ≤ k
    longer a b k e = omega arith

step_done : (c : Change) (x y : SinkContents) (n : Store) → IsWritten (line_of c) x y →
    (version : Version) (done : List Change) (w : SinkContents) (m : Store) → IsRecorded version done w x m n → IsRecorded version (done ++ c ∷ []) w y m (store n c.node c.new)
step_done c x y n is version done w m r = record {
  gained = whole;
  flushed = inr (subst (λ k. length (w.written ++ open_text version (done ++ c ∷ [])) ≤ k) (sym (is.flushed ∙ ap length whole)) (same_size _));
  tree = ap (λ o. store o c.node c.new) r.tree ∙ sym (stored_more m done (c ∷ []));
}
  where
    same_size : (k : ℕ) → k ≤ k
    same_size k = omega arith

    whole : y.written ≡ w.written ++ open_text version (done ++ c ∷ [])
    whole = is.gained ∙ ap (λ t. t ++ line_of c) r.gained ∙ append_assoc w.written (open_text version done) (line_of c) ∙ ap (λ t. w.written ++ t) (sym (text_one version done c))

step_cut : (c : Change) (x y : SinkContents) (n : Store) → IsCut (line_of c) x y →
    (version : Version) (done : List Change) (w : SinkContents) (m : Store) → IsRecorded version done w x m n → (rest : List Change) → LeavesOpen version (done ++ (c ∷ [] ++ rest)) w y m n
step_cut c x y n is version done w m r rest =
    AfterLines done (c ∷ rest) is.size refl (is.gained ∙ ap (λ t. t ++ take is.size (line_of c)) r.gained ∙ append_assoc w.written (open_text version done) (take is.size (line_of c)))
    (covers_on version done w x y (take is.size (line_of c)) r.gained is.gained is.flushed r.flushed) r.tree

-- recorded as a whole, with more to come
pub stays_open : (version : Version) (cs rest : List Change) (w x : SinkContents) (m n : Store) → IsRecorded version cs w x m n → LeavesOpen version (cs ++ rest) w x m n
stays_open version cs rest w x m n r = AfterLines cs rest 0 refl (r.gained ∙ ap (λ t. w.written ++ t) (sym (append-nil (open_text version cs)))) r.flushed r.tree

-- ---- the exits of one command

abbrev pub Refused : Change → RecordFault → SinkContents → SinkContents → Store → Store → Type 0
Refused c fault = GoesOn {T = Unit {0}} (c ∷ []) (Err fault)

-- nothing was written
pub at_start : (c : Change) (a : Option SinkContents) (t : Option Store) (fault : RecordFault) → BothHeld a a t t (Refused c fault)
at_start c a t fault = both_alone (λ x y. IfBoth t t (Refused c fault x y)) a
    (λ x. both_alone (Refused c fault x x) t (λ n version done w m is rest. stays_open version done (c ∷ rest) w x m n is))

-- the line was refused
pub at_line : (c : Change) (line : List ℕ) (a b : Option SinkContents) (t : Option Store) (failed : SinkFailed) (fault : RecordFault) →
    line ≡ line_of c → IfBoth a b (WritesLine {T = Unit {0}} line (Err failed)) → BothHeld a b t t (Refused c fault)
at_line c line a b t failed fault is gained =
    both_more a b gained (λ x y h. both_alone (Refused c fault x y) t (λ n. step_cut c x y n (subst (λ l. IsCut l x y) is h)))

-- the tree's call was done
pub changed : (c : Change) (line : List ℕ) (a d : Option SinkContents) (t u : Option Store) (s s' : Unit {0}) → line ≡ line_of c →
    IfBoth a d (WritesLine {T = Unit {0}} line (Ok s)) → IfBoth t u (Puts {T = Unit {0}} ⊤ c.node c.new (Ok s')) → BothHeld a d t u (GoesOn {T = Unit {0}} (c ∷ []) (Ok s'))
changed c line a d t u s s' same_line is puts =
    both_more a d is (λ x y h. both_more t u puts (λ n o p version done w m k.
    subst (IsRecorded version (done ++ c ∷ []) w y m) (sym p.1) (step_done c x y n (subst (λ l. IsWritten l x y) same_line h) version done w m k)))

whole_cut : (c : Change) (x y : SinkContents) → IsWritten (line_of c) x y → IsCut (line_of c) x y
whole_cut c x y h = record { size = length (line_of c); gained = h.gained ∙ ap (λ l. x.written ++ l) (sym (take-length (line_of c))); flushed = inr h.flushed }

-- the tree's call was refused
pub refused : (c : Change) (line : List ℕ) (a d : Option SinkContents) (t u : Option Store) (s : Unit {0}) (e : TreeFault) (fault : RecordFault) → line ≡ line_of c →
    IfBoth a d (WritesLine {T = Unit {0}} line (Ok s)) → IfBoth t u (Puts {T = Unit {0}} ⊤ c.node c.new (Err e)) → BothHeld a d t u (Refused c fault)
refused c line a d t u s e fault same_line is puts =
    both_more a d is (λ x y h. both_more t u puts (λ n o p. go x y n o (subst (λ l. IsWritten l x y) same_line h) e p))
  where
    stays : (x y : SinkContents) (n o : Store) → IsWritten (line_of c) x y → o ≡ n → Refused c fault x y n o
    stays x y n o h p version done w m k rest = subst (LeavesOpen version (done ++ (c ∷ rest)) w y m) (sym p) (step_cut c x y n (whole_cut c x y h) version done w m k rest)

    done_so : (x y : SinkContents) (n o : Store) → IsWritten (line_of c) x y → o ≡ store n c.node c.new → Refused c fault x y n o
    done_so x y n o h p version done w m k rest =
        subst (λ cs. LeavesOpen version cs w y m o) (append_assoc done (c ∷ []) rest)
        (subst (LeavesOpen version ((done ++ c ∷ []) ++ rest) w y m) (sym p) (stays_open version (done ++ c ∷ []) rest w y m (store n c.node c.new) (step_done c x y n h version done w m k)))

    go : (x y : SinkContents) (n o : Store) → IsWritten (line_of c) x y → (e : TreeFault) → Puts {T = Unit {0}} ⊤ c.node c.new (Err e) n o → Refused c fault x y n o
    go x y n o h Failed (inl p) = stays x y n o h p
    go x y n o h Failed (inr p) = done_so x y n o h p.1
    go x y n o h Denied p = stays x y n o h p.1
    go x y n o h Memory p = stays x y n o h p

-- ---- the tree alone

-- all of these commands are a first part of them
pub whole_done : (cs : List Change) (m n : Store) → n ≡ stored m cs → IsPartDone cs m n
whole_done cs m n h = record { done = cs; rest = []; all = sym (append-nil cs); tree = h }

-- the commands of a first part, where more was still to come
pub part_of : (cs rest : List Change) (m n : Store) → n ≡ stored m cs → IsPartDone (cs ++ rest) m n
part_of cs rest m n h = record { done = cs; rest = rest; all = refl; tree = h }

-- after some commands a first part of others, where more was still to come
pub part_after : (cs ds rest whole : List Change) (m n o : Store) → (cs ++ ds) ++ rest ≡ whole → n ≡ stored m cs → IsPartDone ds n o → IsPartDone whole m o
part_after cs ds rest whole m n o e p h = record {
  done = cs ++ h.done;
  rest = h.rest ++ rest;
  all = sym e ∙ ap (λ l. (cs ++ l) ++ rest) h.all ∙ ap (λ l. l ++ rest) (sym (append_assoc cs h.done h.rest)) ∙ append_assoc (cs ++ h.done) h.rest rest;
  tree = h.tree ∙ ap (λ z. stored z h.done) p ∙ sym (stored_more m cs h.done);
}

-- nothing was done
pub none_done : (cs : List Change) (t : Option Store) (fault : RecordFault) → IfBoth t t (CarriesOut {T = Unit {0}} cs (Err fault))
none_done cs t fault = both_alone (CarriesOut {T = Unit {0}} cs (Err fault)) t (λ m. part_of [] cs m m refl)

-- the tree's call was done
pub one_done : (c : Change) (t u : Option Store) (s s' : Unit {0}) → IfBoth t u (Puts {T = Unit {0}} ⊤ c.node c.new (Ok s)) → IfBoth t u (CarriesOut {T = Unit {0}} (c ∷ []) (Ok s'))
one_done c t u s s' puts = both_more t u puts (λ m n p. p.1)

-- the tree's call was refused
pub one_refused : (c : Change) (t u : Option Store) (e : TreeFault) (fault : RecordFault) → IfBoth t u (Puts {T = Unit {0}} ⊤ c.node c.new (Err e)) → IfBoth t u (CarriesOut {T = Unit {0}} (c ∷ []) (Err fault))
one_refused c t u e fault puts = both_more t u puts (λ m n p. go m n e p)
  where
    go : (m n : Store) (e : TreeFault) → Puts {T = Unit {0}} ⊤ c.node c.new (Err e) m n → IsPartDone (c ∷ []) m n
    go m n Failed (inl p) = part_of [] (c ∷ []) m n p
    go m n Failed (inr p) = part_of (c ∷ []) [] m n p.1
    go m n Denied p = part_of [] (c ∷ []) m n p.1
    go m n Memory p = part_of [] (c ∷ []) m n p

-- ---- a line, call by call

pub cut_at_flush : (line : List ℕ) (a b d : Option SinkContents) (s : Unit {0}) (failed : SinkFailed) →
    IfBoth a b (Sends {T = Unit {0}} line (Ok s)) → IfBoth b d (Flushes {T = Unit {0}} (Err failed)) → IfBoth a d (WritesLine {T = Unit {0}} line (Err failed))
cut_at_flush line a b d s failed p q = both_then a b d p q (λ x z y h k. record {
  size = length line;
  gained = ap (λ o. o.written) k ∙ h.0 ∙ ap (λ l. x.written ++ l) (sym (take-length line));
  flushed = inl (ap (λ o. o.flushed) k ∙ h.1);
})

-- ---- the first line and the end line

pub begins : (version : Version) (line : List ℕ) (a b : Option SinkContents) (s : Unit {0}) → line ≡ first_line version → IfBoth a b (WritesLine {T = Unit {0}} line (Ok s)) → IfBoth a b (Begins {T = Unit {0}} version (Ok s))
begins version line a b s is gained = both_more a b gained (λ w x h m. record {
  gained = h.gained ∙ ap (λ l. w.written ++ l) (is ∙ sym (append-nil (first_line version)));
  flushed = inl refl;
  tree = refl;
})

pub begins_refused : (version : Version) (line : List ℕ) (a b : Option SinkContents) (failed : SinkFailed) (fault : RecordFault) → line ≡ first_line version →
    IfBoth a b (WritesLine {T = Unit {0}} line (Err failed)) → IfBoth a b (Begins {T = Unit {0}} version (Err fault))
begins_refused version line a b failed fault is gained = both_more a b gained (λ w x h cs m. InFirst h.size (h.gained ∙ ap (λ l. w.written ++ take h.size l) is) refl)

pub closes : (count : ℕ) (line : List ℕ) (a b : Option SinkContents) (s : Unit {0}) → ((cs : List Change) → length cs ≡ count → line ≡ end_line_of cs) →
    IfBoth a b (WritesLine {T = Unit {0}} line (Ok s)) → IfBoth a b (Closes {T = Unit {0}} count (Ok s))
closes count line a b s is gained = both_more a b gained (λ x y h version cs w m n few r. record {
  gained = h.gained ∙ ap (λ t. t ++ line) r.gained ∙ append_assoc w.written (open_text version cs) line ∙ ap (λ l. w.written ++ (open_text version cs ++ l)) (is cs few);
  flushed = h.flushed;
  tree = r.tree;
})

pub closing_refused : (count : ℕ) (line : List ℕ) (a b : Option SinkContents) (failed : SinkFailed) (fault : RecordFault) → ((cs : List Change) → length cs ≡ count → line ≡ end_line_of cs) →
    IfBoth a b (WritesLine {T = Unit {0}} line (Err failed)) → IfBoth a b (Closes {T = Unit {0}} count (Err fault))
closing_refused count line a b failed fault is gained = both_more a b gained (λ x y h version cs w m n few r.
    AfterLines cs [] h.size (sym (append-nil cs))
    (h.gained ∙ ap (λ t. t ++ take h.size line) r.gained ∙ append_assoc w.written (open_text version cs) (take h.size line) ∙ ap (λ l. w.written ++ (open_text version cs ++ take h.size l)) (is cs few))
    (covers_on version cs w x y (take h.size line) r.gained h.gained h.flushed r.flushed) r.tree)

pub closing_unwritten : (count : ℕ) (a : Option SinkContents) (fault : RecordFault) → IfBoth a a (Closes {T = Unit {0}} count (Err fault))
closing_unwritten count a fault = both_alone (Closes {T = Unit {0}} count (Err fault)) a (λ x version cs w m n few r. subst (λ l. LeavesOpen version l w x m n) (append-nil cs) (stays_open version cs [] w x m n r))
