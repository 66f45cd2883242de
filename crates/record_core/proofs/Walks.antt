-- The walk over the steps of an operation.
use Rattle.std.proofs.Common.{◌≡◌, ◌≤◌, ◌<◌, ℕ, suc, zero, List, [], ◌∷◌, ◌++◌, length, get_or, take, drop, Option, Some, None, Ok, Err, refl, sym, ap, subst, ◌∙◌, arith, append_assoc, append-nil}
use Rattle.std.proofs.Math.Seq.{take-length, take-suc}
use Rattle.std.specs.Prelude.{Result, map}
use Rattle.sync_command.specs.Changes.{Change}
use Rattle.sync_command.specs.Maps.{Store, at, stored}
use Rattle.sync_command.specs.Trees.{Holding, put, result_of}
use Rattle.sync_command.specs.Values.{is_empty}
use Rattle.sync_command.specs.declared.values.Value.TheVariants.{Empty}
use Rattle.sync_command.proofs.CallerLemmas.{at-stored}
use Rattle.sync_port.specs.States.{IfBoth}
use Rattle.sync_port.specs.Ports.{SinkContents, SinkState}
use Rattle.sync_port.proofs.CallerLemmas.{both_alone, both_more, both_then}
use Rattle.tree_port.specs.States.{Counts, IfHeld, IfTreeKnown, NoneFell, TreeState}
use Rattle.record_core.specs.declared.faults.RecordFault.{RecordFault}
use Rattle.record_core.specs.declared.steps.Step.{Step}
use Rattle.record_core.specs.declared.steps.Step.TheVariants.{Give, Make, Clear}
use Rattle.record_core.specs.Changing.{CanChange, CanRecord}
use Rattle.record_core.specs.Recording.{CarriesOut, Ends, GoesOn, HasCause, IfBothKnown, IsRecorded, LeavesOpen}
use Rattle.record_core.specs.Steps.{AreSteady, CanStep, CanWalk, IsFull, IsSame, change_of, changes_of}
use Rattle.record_core.proofs.OneCommand.{BothHeld, part_after, part_of, stays_open, stored_more}

-- ---- parts of a recording one after another

pub goes_on : (cs ds : List Change) (x y z : SinkContents) (m n o : Store) (r : Result (Unit {0}) RecordFault) → GoesOn {T = Unit {0}} cs (Ok tt) x y m n → GoesOn ds r y z n o → GoesOn (cs ++ ds) r x z m o
goes_on cs ds x y z m n o r f g version done w k is = go r (g version (done ++ cs) w k (f version done w k is))
  where
    go : (r : Result (Unit {0}) RecordFault) → Ends version (done ++ cs) ds r w z k o → Ends version done (cs ++ ds) r w z k o
    go (Ok t) h = subst (λ l. IsRecorded version l w z k o) (append_assoc done cs ds) h
    go (Err e) h = λ rest. subst (λ l. LeavesOpen version l w z k o) (append_assoc done cs (ds ++ rest) ∙ ap (λ l. done ++ l) (sym (append_assoc cs ds rest))) (h rest)

-- cut short in a part, whatever follows in it
pub cut_in_part : (cs ds : List Change) (x y : SinkContents) (m n : Store) (fault : RecordFault) → GoesOn {T = Unit {0}} cs (Err fault) x y m n → GoesOn {T = Unit {0}} (cs ++ ds) (Err fault) x y m n
cut_in_part cs ds x y m n fault f version done w k is rest = subst (λ l. LeavesOpen version (done ++ l) w y k n) (sym (append_assoc cs ds rest)) (f version done w k is (ds ++ rest))

-- a part that was recorded, and then nothing more
pub cut_after_part : (cs ds : List Change) (x y : SinkContents) (m n : Store) (fault : RecordFault) → GoesOn {T = Unit {0}} cs (Ok tt) x y m n → GoesOn {T = Unit {0}} (cs ++ ds) (Err fault) x y m n
cut_after_part cs ds x y m n fault f version done w k is rest =
    subst (λ l. LeavesOpen version l w y k n) (append_assoc done cs (ds ++ rest) ∙ ap (λ l. done ++ l) (sym (append_assoc cs ds rest)))
    (stays_open version (done ++ cs) (ds ++ rest) w y k n (f version done w k is))

nothing_done : (x : SinkContents) (n : Store) → GoesOn {T = Unit {0}} [] (Ok tt) x x n n
nothing_done x n version done w m is = subst (λ l. IsRecorded version l w x m n) (sym (append-nil done)) is

-- ---- counts

pub fell_on : (a b d : Counts) → NoneFell a b → NoneFell b d → NoneFell a d
fell_on a b d x y = record {
  faults = omega (arith, x.faults, y.faults);
  denials = omega (arith, x.denials, y.denials);
  out_of_memory = omega (arith, x.out_of_memory, y.out_of_memory);
  changes = omega (arith, x.changes, y.changes);
}

pub none_fell : (a : Counts) → NoneFell a a
none_fell a = record { faults = omega arith; denials = omega arith; out_of_memory = omega arith; changes = omega arith }

-- ---- the next step

-- the commands of the first k steps
abbrev pub first_of : List Step → ℕ → Store → List Change
first_of steps k m = changes_of (at m) (take k steps)

-- these steps were recorded
pub record IsWalked (steps : List Step) (k : ℕ) (a b : SinkState) (t u : TreeState) : Type 0 where
  pub sink_later : a.faults ≤ b.faults
  pub sink_quiet : b.faults ≡ a.faults
  pub tree_later : NoneFell t.counts u.counts
  pub tree : IfTreeKnown t u (λ m n. n ≡ stored m (first_of steps k m))
  pub both : IfBothKnown a b t u (λ x y m n. GoesOn {T = Unit {0}} (first_of steps k m) (Ok tt) x y m n)

pub walk_begins : (steps : List Step) (a : SinkState) (t : TreeState) → IsWalked steps 0 a a t t
walk_begins steps a t = record {
  sink_later = omega arith;
  sink_quiet = refl;
  tree_later = none_fell t.counts;
  tree = both_alone (λ m n. n ≡ m) t.contents (λ m. refl);
  both = both_alone (λ x y. IfTreeKnown t t (λ m n. GoesOn {T = Unit {0}} [] (Ok tt) x y m n)) a.contents (λ x. both_alone (λ m n. GoesOn {T = Unit {0}} [] (Ok tt) x x m n) t.contents (λ n. nothing_done x n));
}

steady_at : (t u : Holding) (steps : List Step) (k : ℕ) (s : Step) → k < length steps → s ≡ get_or steps k s → AreSteady t u steps → IsFull t s × IsSame t (result_of u (changes_of t (take k steps))) s
steady_at t u [] k s low is h = absurd (omega arith)
steady_at t u (x ∷ steps) zero s low is h = subst (λ y. IsFull t y × IsSame t u y) (sym is) (h.0, h.1)
steady_at t u (x ∷ steps) (suc k) s low is h = steady_at t (put u (change_of t x).node (change_of t x).new) steps k s (omega arith) is h.2

can_at : (t u : Holding) (steps : List Step) (k : ℕ) (s : Step) → k < length steps → s ≡ get_or steps k s → CanRecord u (changes_of t steps)
    → CanChange (change_of t s).old (change_of t s).new (result_of u (changes_of t (take k steps))) (change_of t s).node
can_at t u [] k s low is h = absurd (omega arith)
can_at t u (x ∷ steps) zero s low is h = subst (λ y. CanChange (change_of t y).old (change_of t y).new u (change_of t y).node) (sym is) h.0
can_at t u (x ∷ steps) (suc k) s low is h = can_at t (put u (change_of t x).node (change_of t x).new) steps k s (omega arith) is h.1

-- from what holds of both to what holds of the later one, and of the earlier one
pub held_later : {P : Store → Type 0} {Q R : Store → Store → Type 0} (t u : Option Store) → IfHeld t P → IfBoth t u Q → ((m n : Store) → P m → Q m n → R m n) → IfBoth t u R
held_later None None p q f = tt
held_later None (Some n) p q f = absurd q
held_later (Some m) None p q f = absurd q
held_later (Some m) (Some n) p q f = f m n p q

pub held_right : {P : Store → Type 0} {Q : Store → Store → Type 0} (t u : Option Store) → IfBoth t u Q → ((m n : Store) → Q m n → P n) → IfHeld u P
held_right None None q f = tt
held_right None (Some n) q f = absurd q
held_right (Some m) None q f = absurd q
held_right (Some m) (Some n) q f = f m n q

pub held_left : {P Q : Store → Type 0} {R : Store → Store → Type 0} (t u : Option Store) → IfBoth t u R → IfHeld u Q → ((m n : Store) → R m n → Q n → P m) → IfHeld t P
held_left None None r q f = tt
held_left None (Some n) r q f = absurd r
held_left (Some m) None r q f = absurd r
held_left (Some m) (Some n) r q f = f m n r q

full_from : (t u : Holding) (s : Step) → IsFull t s → IsSame t u s → IsFull u s
full_from t u (Give c) full same = tt
full_from t u (Make n target) full same = ap is_empty same ∙ full
full_from t u (Clear n) full same = ap is_empty same ∙ full

same_change : (t u : Holding) (s : Step) → IsSame t u s → change_of u s ≡ change_of t s
same_change t u (Give c) same = refl
same_change t u (Make n target) same = ap (λ v. record { node = target; old = Empty; new = v }) same
same_change t u (Clear n) same = ap (λ v. record { node = n; old = v; new = Empty }) same

-- at the next step the tree holds what it held there
pub steady_next : (steps : List Step) (k : ℕ) (s : Step) (a b : SinkState) (t u : TreeState) → IfHeld t.contents (λ m. CanWalk m steps) → IsWalked steps k a b t u → k < length steps → s ≡ get_or steps k s
    → IfBoth t.contents u.contents (λ m n. IsFull (at m) s × IsSame (at m) (at n) s)
steady_next steps k s a b t u can w low is = held_later t.contents u.contents can w.tree (λ m n c e.
    let f = steady_at (at m) (at m) steps k s low is c.steady in
    (f.0, subst (λ h. IsSame (at m) h s) (sym (ap at e ∙ at-stored m (first_of steps k m))) f.1))

-- what holds of both
pub both_and : {P Q R : Store → Store → Type 0} (t u : Option Store) → IfBoth t u P → IfBoth t u Q → ((m n : Store) → P m n → Q m n → R m n) → IfBoth t u R
both_and None None p q f = tt
both_and None (Some n) p q f = absurd p
both_and (Some m) None p q f = absurd p
both_and (Some m) (Some n) p q f = f m n p q

pub can_next : (steps : List Step) (k : ℕ) (s : Step) (a b : SinkState) (t u : TreeState) → IfHeld t.contents (λ m. CanWalk m steps) → IsWalked steps k a b t u → k < length steps → s ≡ get_or steps k s → IfHeld u.contents (λ n. CanStep (at n) s)
can_next steps k s a b t u can w low is =
    held_right t.contents u.contents
    (both_and {P = λ m n. (n ≡ stored m (first_of steps k m)) × CanWalk m steps} t.contents u.contents (held_later t.contents u.contents can w.tree (λ m n h e. (e, h))) (steady_next steps k s a b t u can w low is)
    (λ m n e f. record {
      full = full_from (at m) (at n) s f.0 f.1;
      can = subst (λ d. CanChange d.old d.new (at n) d.node) (sym (same_change (at m) (at n) s f.1))
          (subst (λ y. CanChange (change_of (at m) s).old (change_of (at m) s).new y (change_of (at m) s).node) (sym (ap at e.0 ∙ at-stored m (first_of steps k m)))
          (can_at (at m) (at m) steps k s low is e.1.can));
    }))
    (λ m n h. h)

-- the command of the next step is that at the start
abbrev SameNext : Step → Store → Store → Type 0
SameNext s m n = change_of (at n) s ≡ change_of (at m) s

same_next : (steps : List Step) (k : ℕ) (s : Step) (a b : SinkState) (t u : TreeState) → IfHeld t.contents (λ m. CanWalk m steps) → IsWalked steps k a b t u → k < length steps → s ≡ get_or steps k s → IfBoth t.contents u.contents (SameNext s)
same_next steps k s a b t u can w low is = both_more t.contents u.contents (steady_next steps k s a b t u can w low is) (λ m n f. same_change (at m) (at n) s f.1)

-- ---- one step more

map-append : (f : Step → Change) (xs ys : List Step) → map f (xs ++ ys) ≡ map f xs ++ map f ys
map-append f [] ys = refl
map-append f (x ∷ xs) ys = ap (λ l. f x ∷ l) (map-append f xs ys)

pub first_more : (steps : List Step) (k : ℕ) (s : Step) (m : Store) → k < length steps → s ≡ get_or steps k s → first_of steps (suc k) m ≡ first_of steps k m ++ change_of (at m) s ∷ []
first_more steps k s m low is = ap (map (change_of (at m))) (take-suc steps k s low ∙ ap (λ x. take k steps ++ x ∷ []) (sym is)) ∙ map-append (change_of (at m)) (take k steps) (s ∷ [])

pub first_all : (steps : List Step) (m : Store) → first_of steps (length steps) m ≡ changes_of (at m) steps
first_all steps m = ap (map (change_of (at m))) (take-length steps)

both_parts : (steps : List Step) (k : ℕ) → take k steps ++ drop k steps ≡ steps
both_parts steps zero = refl
both_parts [] (suc k) = refl
both_parts (c ∷ cs) (suc k) = ap (λ l. c ∷ l) (both_parts cs k)

-- what is still to be recorded
pub rest_of : (steps : List Step) (k : ℕ) (m : Store) → first_of steps k m ++ changes_of (at m) (drop k steps) ≡ changes_of (at m) steps
rest_of steps k m = sym (map-append (change_of (at m)) (take k steps) (drop k steps)) ∙ ap (map (change_of (at m))) (both_parts steps k)

pub walk_on : (steps : List Step) (k j : ℕ) (s : Step) (a b d : SinkState) (t u v : TreeState) → j ≡ suc k → IfHeld t.contents (λ m. CanWalk m steps) → k < length steps → s ≡ get_or steps k s
    → IsWalked steps k a b t u → HasCause {T = Unit {0}} (Ok tt) b d u v → IfTreeKnown u v (λ n o. o ≡ stored n (change_of (at n) s ∷ [])) → IfBothKnown b d u v (λ x y n o. GoesOn {T = Unit {0}} (change_of (at n) s ∷ []) (Ok tt) x y n o) → IsWalked steps j a d t v
walk_on steps k j s a b d t u v e can low is w cause tree both = subst (λ j. IsWalked steps j a d t v) (sym e) (record {
  sink_later = omega (arith, w.sink_later, cause.sink_later);
  sink_quiet = cause.sink_quiet ∙ w.sink_quiet;
  tree_later = fell_on t.counts u.counts v.counts w.tree_later cause.tree_later;
  tree = both_then t.contents u.contents v.contents (both_and {R = λ m n. (n ≡ stored m (first_of steps k m)) × SameNext s m n} t.contents u.contents w.tree same (λ m n p q. (p, q))) tree
      (λ m n o p q. q ∙ ap (λ n. stored n (change_of (at n) s ∷ [])) p.0 ∙ ap (λ c. stored (stored m (first_of steps k m)) (c ∷ [])) (ap (λ n. change_of (at n) s) (sym p.0) ∙ p.1)
      ∙ sym (stored_more m (first_of steps k m) (change_of (at m) s ∷ [])) ∙ ap (stored m) (sym (first_more steps k s m low is)));
  both = both_then {P = λ x y. IfBoth t.contents u.contents (λ m n. GoesOn {T = Unit {0}} (first_of steps k m) (Ok tt) x y m n)} {Q = λ y z. IfBoth u.contents v.contents (λ n o. GoesOn {T = Unit {0}} (change_of (at n) s ∷ []) (Ok tt) y z n o)}
      a.contents b.contents d.contents w.both both
      (λ x y z p q. both_then t.contents u.contents v.contents (both_and {R = λ m n. GoesOn {T = Unit {0}} (first_of steps k m) (Ok tt) x y m n × SameNext s m n} t.contents u.contents p same (λ m n f g. (f, g))) q
      (λ m n o f g. subst (λ l. GoesOn {T = Unit {0}} l (Ok tt) x z m o) (more m n f.1) (goes_on (first_of steps k m) (change_of (at n) s ∷ []) x y z m n o (Ok tt) f.0 g)));
})
  where
    same : IfBoth t.contents u.contents (SameNext s)
    same = same_next steps k s a b t u can w low is

    more : (m n : Store) → SameNext s m n → first_of steps k m ++ change_of (at n) s ∷ [] ≡ first_of steps (suc k) m
    more m n h = ap (λ x. first_of steps k m ++ x ∷ []) h ∙ sym (first_more steps k s m low is)

-- ---- the exits

-- the commands of the first steps, that of the next one and those still to come
whole_walk : (steps : List Step) (k : ℕ) (s : Step) (m n : Store) → k < length steps → s ≡ get_or steps k s → SameNext s m n
    → (first_of steps k m ++ change_of (at n) s ∷ []) ++ changes_of (at m) (drop (suc k) steps) ≡ changes_of (at m) steps
whole_walk steps k s m n low is h = ap (λ x. (first_of steps k m ++ x ∷ []) ++ changes_of (at m) (drop (suc k) steps)) h ∙ ap (λ l. l ++ changes_of (at m) (drop (suc k) steps)) (sym (first_more steps k s m low is)) ∙ rest_of steps (suc k) m

pub walk_cut : (steps : List Step) (k : ℕ) (s : Step) (a b d : SinkState) (t u v : TreeState) (fault : RecordFault) (r : Result (Unit {0}) RecordFault) → IfHeld t.contents (λ m. CanWalk m steps) → k < length steps → s ≡ get_or steps k s
    → IsWalked steps k a b t u → HasCause {T = Unit {0}} (Err fault) b d u v → IfBothKnown b d u v (λ x y n o. GoesOn {T = Unit {0}} (change_of (at n) s ∷ []) (Err fault) x y n o) → r ≡ Err fault → IfBothKnown a d t v (λ x y m n. GoesOn (changes_of (at m) steps) r x y m n)
walk_cut steps k s a b d t u v fault r can low is w cause both e = subst (λ r. IfBothKnown a d t v (λ x y m n. GoesOn (changes_of (at m) steps) r x y m n)) (sym e)
    (both_then {P = λ x y. IfBoth t.contents u.contents (λ m n. GoesOn {T = Unit {0}} (first_of steps k m) (Ok tt) x y m n)} {Q = λ y z. IfBoth u.contents v.contents (λ n o. GoesOn {T = Unit {0}} (change_of (at n) s ∷ []) (Err fault) y z n o)}
    a.contents b.contents d.contents w.both both
    (λ x y z p q. both_then t.contents u.contents v.contents (both_and {R = λ m n. GoesOn {T = Unit {0}} (first_of steps k m) (Ok tt) x y m n × SameNext s m n} t.contents u.contents p same (λ m n f g. (f, g))) q
    (λ m n o f g. subst (λ l. GoesOn {T = Unit {0}} l (Err fault) x z m o) (whole_walk steps k s m n low is f.1)
    (cut_in_part (first_of steps k m ++ change_of (at n) s ∷ []) (changes_of (at m) (drop (suc k) steps)) x z m o fault (goes_on (first_of steps k m) (change_of (at n) s ∷ []) x y z m n o (Err fault) f.0 g)))))
  where
    same : IfBoth t.contents u.contents (SameNext s)
    same = same_next steps k s a b t u can w low is

pub walk_cut_tree : (steps : List Step) (k : ℕ) (s : Step) (a b : SinkState) (t u : TreeState) (v : Option Store) (fault : RecordFault) (r : Result (Unit {0}) RecordFault) → IfHeld t.contents (λ m. CanWalk m steps) → k < length steps → s ≡ get_or steps k s → IsWalked steps k a b t u
    → IfBoth u.contents v (λ n o. CarriesOut {T = Unit {0}} (change_of (at n) s ∷ []) (Err fault) n o) → r ≡ Err fault → IfBoth t.contents v (λ m n. CarriesOut (changes_of (at m) steps) r m n)
walk_cut_tree steps k s a b t u v fault r can low is w tree e = subst (λ r. IfBoth t.contents v (λ m n. CarriesOut (changes_of (at m) steps) r m n)) (sym e)
    (both_then t.contents u.contents v (both_and {R = λ m n. (n ≡ stored m (first_of steps k m)) × SameNext s m n} t.contents u.contents w.tree (same_next steps k s a b t u can w low is) (λ m n p q. (p, q))) tree
    (λ m n o p h. part_after (first_of steps k m) (change_of (at n) s ∷ []) (changes_of (at m) (drop (suc k) steps)) (changes_of (at m) steps) m n o (whole_walk steps k s m n low is p.1) p.0 h))

pub walk_done_tree : (steps : List Step) (k : ℕ) (a b : SinkState) (t u : TreeState) → k ≡ length steps → IsWalked steps k a b t u → IfTreeKnown t u (λ m n. n ≡ stored m (changes_of (at m) steps))
walk_done_tree steps k a b t u e w = both_more t.contents u.contents w.tree (λ m n p. p ∙ ap (stored m) (ap (λ k. first_of steps k m) e ∙ first_all steps m))

pub walk_done : (steps : List Step) (k : ℕ) (a b : SinkState) (t u : TreeState) → k ≡ length steps → IsWalked steps k a b t u → IfBothKnown a b t u (λ x y m n. GoesOn {T = Unit {0}} (changes_of (at m) steps) (Ok tt) x y m n)
walk_done steps k a b t u e w = both_more a.contents b.contents w.both (λ x y p. both_more t.contents u.contents p (λ m n f.
    subst (λ l. GoesOn {T = Unit {0}} l (Ok tt) x y m n) (ap (λ k. first_of steps k m) e ∙ first_all steps m) f))

-- ---- one step

-- it was not read
pub step_undone : (s : Step) (t u : Option Store) (fault : RecordFault) → u ≡ t → IfBoth t u (λ m n. CarriesOut {T = Unit {0}} (change_of (at m) s ∷ []) (Err fault) m n)
step_undone s t u fault e = subst (λ c. IfBoth t c (λ m n. CarriesOut {T = Unit {0}} (change_of (at m) s ∷ []) (Err fault) m n)) (sym e)
    (both_alone (λ m n. CarriesOut {T = Unit {0}} (change_of (at m) s ∷ []) (Err fault) m n) t (λ m. part_of [] (change_of (at m) s ∷ []) m m refl))

pub step_unread : (s : Step) (a : Option SinkContents) (t u : Option Store) (fault : RecordFault) → u ≡ t → BothHeld a a t u (λ x y m n. GoesOn {T = Unit {0}} (change_of (at m) s ∷ []) (Err fault) x y m n)
step_unread s a t u fault e = both_alone (λ x y. IfBoth t u (λ m n. GoesOn {T = Unit {0}} (change_of (at m) s ∷ []) (Err fault) x y m n)) a (λ x.
    subst (λ c. IfBoth t c (λ m n. GoesOn {T = Unit {0}} (change_of (at m) s ∷ []) (Err fault) x x m n)) (sym e)
    (both_alone (λ m n. GoesOn {T = Unit {0}} (change_of (at m) s ∷ []) (Err fault) x x m n) t (λ n version done w m is rest. stays_open version done (change_of (at n) s ∷ rest) w x m n is)))
