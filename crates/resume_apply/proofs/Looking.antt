-- The look at the values of a set's nodes.
use Rattle.std.proofs.Common.{◌≡◌, ◌≤◌, ◌<◌, ℕ, zero, suc, ◌+◌, Bool, true, false, List, [], ◌∷◌, Option, Some, None, Result, Ok, Err, refl, sym, ap, subst, ◌∙◌, arith, drop, length, get_or, IsErrOf}
use Rattle.std.specs.Prelude.{if◌then◌else◌, ⊤}
use Rattle.std.proofs.lemmas.List.{at_drop_all, at_drop_more}
use Rattle.sync_path.specs.Paths.{Node}
use Rattle.sync_command.specs.Changes.{Change}
use Rattle.sync_command.specs.Trees.{Holding}
use Rattle.sync_command.specs.Maps.{Store, at}
use Rattle.tree_port.specs.States.{Counts, IfHeld, IsCounted, NoneFell, NoneRefused, TreeState, WhereKnown}
use Rattle.tree_port.specs.Calls.{Answers, IsReading}
use Rattle.tree_port.specs.declared.faults.TreeFault.{TreeFault}
use Rattle.tree_port.specs.declared.faults.TreeFault.TheVariants as tree
use Rattle.resume_apply.specs.declared.faults.ApplyFault.{ApplyFault}
use Rattle.resume_apply.specs.declared.faults.ApplyFault.TheVariants.{Diverged, Blocked, Failed, Denied, Memory}
use Rattle.resume_apply.specs.Faults.{of_tree}
use Rattle.resume_apply.specs.Ready.{is_ready_value, work, work_at}
use Rattle.resume_apply.specs.Preparing.{FindsValues, IfAnswered, IsAsking, IsFew, IsWorkAt, first_diverged}
use Rattle.resume_apply.proofs.Stepping.{fell_none, fell_on, quiet_none, quiet_on}

-- ---- what is known

pub held_as : {P Q : Store → Type 0} (t : Option Store) → ((m : Store) → P m → Q m) → IfHeld t P → IfHeld t Q
held_as None f h = tt
held_as (Some m) f h = f m h

pub held_all : {P : Store → Type 0} (t : Option Store) → ((m : Store) → P m) → IfHeld t P
held_all None f = tt
held_all (Some m) f = f m

pub held_both : (P Q : Store → Type 0) (t : Option Store) → IfHeld t P → IfHeld t Q → IfHeld t (λ m. P m × Q m)
held_both P Q None h g = tt
held_both P Q (Some m) h g = (h, g)

-- a reading call without a condition is not denied
pub never_denied : (T : Type 0) (Q : Store → T → Type 0) (t : Option Store) (e : TreeFault) → IfHeld t (λ m. Answers {T = T} ⊤ (Q m) (Err e)) → IfHeld t (λ m. e ≡ tree.Denied → ⊥)
never_denied T Q None e h = tt
never_denied T Q (Some m) e h = go e h
  where
    go : (e : TreeFault) → Answers {T = T} ⊤ (Q m) (Err e) → e ≡ tree.Denied → ⊥
    go tree.Failed h is = cc
    go tree.Denied h is = h tt
    go tree.Memory h is = cc

-- ---- questions, none of which was refused

pub record HasAsked (s0 s1 : TreeState) : Type 0 where
  pub later : NoneFell s0.counts s1.counts
  pub quiet : NoneRefused s0.counts s1.counts
  pub contents : s1.contents ≡ s0.contents
  pub changes : s1.counts.changes ≡ s0.counts.changes

pub asks_none : (s0 : TreeState) → HasAsked s0 s0
asks_none s0 = record { later = fell_none s0.counts; quiet = quiet_none s0.counts; contents = refl; changes = refl }

pub asks_on : {T : Type 0} (s0 s1 s2 : TreeState) (x : T) → HasAsked s0 s1 → IsReading (Ok x) s1 s2 → HasAsked s0 s2
asks_on s0 s1 s2 x asked reading = record {
  later = fell_on s0.counts s1.counts s2.counts asked.later reading.counts.later;
  quiet = quiet_on s0.counts s1.counts s2.counts asked.quiet reading.counts.done;
  contents = reading.contents ∙ asked.contents;
  changes = reading.changes ∙ asked.changes;
}

-- what is known is what was known
pub known_on : (P : Store → Type 0) (s0 s1 : TreeState) → HasAsked s0 s1 → WhereKnown s1 P → WhereKnown s0 P
known_on P s0 s1 asked h = subst (λ t. IfHeld t P) asked.contents h

-- an answer of one's own
pub answers_now : {T : Type 0} (s0 s1 : TreeState) (r : Result T ApplyFault) → HasAsked s0 s1 → (r ≡ Err Failed → ⊥) → (r ≡ Err Denied → ⊥) → IsAsking r s0 s1
answers_now {T} s0 s1 r asked f d = record {
  later = asked.later;
  contents = asked.contents;
  changes = asked.changes;
  answered = go r;
  failed = λ h. absurd (f h);
  denied = λ h. absurd (d h);
  never_denied = held_all s0.contents (λ m. d);
}
  where
    go : (r : Result T ApplyFault) → IfAnswered r (NoneRefused s0.counts s1.counts)
    go (Ok x) = asked.quiet
    go (Err (Diverged p)) = asked.quiet
    go (Err (Blocked p)) = asked.quiet
    go (Err Failed) = tt
    go (Err Denied) = tt
    go (Err Memory) = tt

-- a call that was refused
pub answers_refused : {S T : Type 0} (s0 s1 s2 : TreeState) (e : TreeFault) (r : Result T ApplyFault) → HasAsked s0 s1 → IsReading {T = S} (Err e) s1 s2 → WhereKnown s1 (λ m. e ≡ tree.Denied → ⊥) → r ≡ Err (of_tree e) →
    IsAsking r s0 s2
answers_refused {S} {T} s0 s1 s2 e r asked reading sure was = record {
  later = fell_on s0.counts s1.counts s2.counts asked.later reading.counts.later;
  contents = reading.contents ∙ asked.contents;
  changes = reading.changes ∙ asked.changes;
  answered = subst (λ r. IfAnswered r (NoneRefused s0.counts s2.counts)) (sym was) (go e);
  failed = λ h. let r = reading.counts.failed (as_failed r was h) in omega (arith, r, asked.later.faults);
  denied = λ h. let r = reading.counts.denied (as_denied r was h) in omega (arith, r, asked.later.denials);
  never_denied = held_as s0.contents (λ m f h. f (is_denied e r was h)) (known_on _ s0 s1 asked sure);
}
  where
    go : (e : TreeFault) → IfAnswered {T = T} (Err (of_tree e)) (NoneRefused s0.counts s2.counts)
    go tree.Failed = tt
    go tree.Denied = tt
    go tree.Memory = tt

    is_failed : (e : TreeFault) (x : Result T ApplyFault) → x ≡ Err (of_tree e) → x ≡ Err Failed → e ≡ tree.Failed
    is_failed tree.Failed x g h = refl
    is_failed tree.Denied x g h = cc
    is_failed tree.Memory x g h = cc

    is_denied : (e : TreeFault) (x : Result T ApplyFault) → x ≡ Err (of_tree e) → x ≡ Err Denied → e ≡ tree.Denied
    is_denied tree.Failed x g h = cc
    is_denied tree.Denied x g h = refl
    is_denied tree.Memory x g h = cc

    as_failed : (x : Result T ApplyFault) → x ≡ Err (of_tree e) → x ≡ Err Failed → IsErrOf {T = S} (Err e) tree.Failed
    as_failed x g h = subst (λ x. IsErrOf {T = S} (Err e) x) (is_failed e x g h) refl

    as_denied : (x : Result T ApplyFault) → x ≡ Err (of_tree e) → x ≡ Err Denied → IsErrOf {T = S} (Err e) tree.Denied
    as_denied x g h = subst (λ x. IsErrOf {T = S} (Err e) x) (is_denied e x g h) refl

-- the same refusal in another answer
pub asks_as : {S T : Type 0} (s0 s1 : TreeState) (e : ApplyFault) → IsAsking {T = S} (Err e) s0 s1 → IsAsking {T = T} (Err e) s0 s1
asks_as {S} {T} s0 s1 e asks = record {
  later = asks.later;
  contents = asks.contents;
  changes = asks.changes;
  answered = go e asks.answered;
  failed = λ h. asks.failed (again Failed h);
  denied = λ h. asks.denied (again Denied h);
  never_denied = held_as s0.contents (λ m f h. f (again Denied h)) asks.never_denied;
}
  where
    err_is : (f : ApplyFault) → ◌≡◌ {A = Result T ApplyFault} (Err e) (Err f) → e ≡ f
    err_is f h = cc

    again : (f : ApplyFault) → ◌≡◌ {A = Result T ApplyFault} (Err e) (Err f) → ◌≡◌ {A = Result S ApplyFault} (Err e) (Err f)
    again f h = ap Err (err_is f h)

    go : (e : ApplyFault) → IfAnswered {T = S} (Err e) (NoneRefused s0.counts s1.counts) → IfAnswered {T = T} (Err e) (NoneRefused s0.counts s1.counts)
    go (Diverged p) h = h
    go (Blocked p) h = h
    go Failed h = h
    go Denied h = h
    go Memory h = h

-- questions that were answered
pub asks_done : {T : Type 0} (s0 s1 s2 : TreeState) (x : T) → HasAsked s0 s1 → IsAsking (Ok x) s1 s2 → HasAsked s0 s2
asks_done s0 s1 s2 x asked asks = record {
  later = fell_on s0.counts s1.counts s2.counts asked.later asks.later;
  quiet = quiet_on s0.counts s1.counts s2.counts asked.quiet asks.answered;
  contents = asks.contents ∙ asked.contents;
  changes = asks.changes ∙ asked.changes;
}

-- further questions
pub asks_then : {T : Type 0} (s0 s1 s2 : TreeState) (r : Result T ApplyFault) → HasAsked s0 s1 → IsAsking r s1 s2 → IsAsking r s0 s2
asks_then {T} s0 s1 s2 r asked asks = record {
  later = fell_on s0.counts s1.counts s2.counts asked.later asks.later;
  contents = asks.contents ∙ asked.contents;
  changes = asks.changes ∙ asked.changes;
  answered = go r asks.answered;
  failed = λ h. let r = asks.failed h in omega (arith, r, asked.later.faults);
  denied = λ h. let r = asks.denied h in omega (arith, r, asked.later.denials);
  never_denied = known_on _ s0 s1 asked asks.never_denied;
}
  where
    go : (r : Result T ApplyFault) → IfAnswered r (NoneRefused s1.counts s2.counts) → IfAnswered r (NoneRefused s0.counts s2.counts)
    go (Ok x) h = quiet_on s0.counts s1.counts s2.counts asked.quiet h
    go (Err (Diverged p)) h = quiet_on s0.counts s1.counts s2.counts asked.quiet h
    go (Err (Blocked p)) h = quiet_on s0.counts s1.counts s2.counts asked.quiet h
    go (Err Failed) h = tt
    go (Err Denied) h = tt
    go (Err Memory) h = tt

-- ---- the look at the values

-- the commands before this place hold values of ready, and so much work was counted
pub record IsSeen (cs : List Change) (i counted : ℕ) (t : Holding) : Type 0 where
  pub diverged : first_diverged cs t ≡ first_diverged (drop i cs) t
  pub left : counted + work (drop i cs) t ≡ work cs t

pub record IsLooked (cs : List Change) (i : ℕ) (s0 s1 : TreeState) (counted : ℕ) : Type 0 where
  pub asked : HasAsked s0 s1
  pub few : counted ≤ i + i
  pub seen : WhereKnown s0 (λ m. IsSeen cs i counted (at m))

pub look_begins : (cs : List Change) (s0 : TreeState) → IsLooked cs 0 s0 s0 0
look_begins cs s0 = record {
  asked = asks_none s0;
  few = omega arith;
  seen = held_all s0.contents (λ m. record { diverged = refl; left = nothing (work cs (at m)) });
}
  where
    nothing : (x : ℕ) → 0 + x ≡ x
    nothing x = omega arith

pub rest_is : (cs : List Change) (i : ℕ) (c : Change) → i < length cs → c ≡ get_or cs i c → drop i cs ≡ c ∷ drop (i + 1) cs
rest_is cs i c h is = at_drop_more (λ xs. xs) cs i c h ∙ ap (λ d. d ∷ drop (i + 1) cs) (sym is)

pub look_on : (cs : List Change) (i : ℕ) (c : Change) (s0 s1 s2 : TreeState) (counted k : ℕ) (o : Option ℕ) → i < length cs → c ≡ get_or cs i c → IsLooked cs i s0 s1 counted →
    o ≡ Some k → IsReading (Ok o) s1 s2 → WhereKnown s1 (λ m. Answers ⊤ (IsWorkAt c (at m c.node)) (Ok o)) → IsFew o → IsLooked cs (i + 1) s0 s2 (counted + k)
look_on cs i c s0 s1 s2 counted k o h is looked was reading answer two = record {
  asked = asks_on s0 s1 s2 o looked.asked reading;
  few = more _ _ _ looked.few (subst IsFew was two);
  seen = held_as s0.contents step (held_both _ _ s0.contents looked.seen (known_on _ s0 s1 looked.asked (subst (λ o. WhereKnown s1 (λ m. Answers ⊤ (IsWorkAt c (at m c.node)) (Ok o))) was answer)));
}
  where
    more : (x y i : ℕ) → x ≤ i + i → y ≤ 2 → x + y ≤ (i + 1) + (i + 1)
    more x y i f g = omega arith

    counts_on : (a b w x y : ℕ) → a + w ≡ y → w ≡ b + x → (a + b) + x ≡ y
    counts_on a b w x y e f = omega arith

    step : (m : Store) → IsSeen cs i counted (at m) × Answers ⊤ (IsWorkAt c (at m c.node)) (Ok (Some k)) → IsSeen cs (i + 1) (counted + k) (at m)
    step m (seen, a) = record {
      diverged = seen.diverged ∙ ap (λ r. first_diverged r (at m)) (rest_is cs i c h is) ∙ ap (λ b. if b then first_diverged (drop (i + 1) cs) (at m) else Some c.node) a.1.0;
      left = counts_on _ _ _ _ _ seen.left (ap (λ r. work r (at m)) (rest_is cs i c h is) ∙ ap (λ x. x + work (drop (i + 1) cs) (at m)) (sym a.1.1));
    }

-- a node that holds none of the values
pub look_diverged : (cs : List Change) (i : ℕ) (c : Change) (s0 s1 s2 : TreeState) (counted : ℕ) (o : Option ℕ) (p : Node) → i < length cs → c ≡ get_or cs i c → IsLooked cs i s0 s1 counted →
    o ≡ None → IsReading (Ok o) s1 s2 → WhereKnown s1 (λ m. Answers ⊤ (IsWorkAt c (at m c.node)) (Ok o)) → p ≡ c.node →
    IsAsking {T = ℕ} (Err (Diverged p)) s0 s2 × WhereKnown s0 (λ m. FindsValues cs (at m) (Err (Diverged p)))
look_diverged cs i c s0 s1 s2 counted o p h is looked was reading answer at_p = (
  answers_now s0 s2 _ (asks_on s0 s1 s2 o looked.asked reading) (λ e. cc) (λ e. cc),
  held_as s0.contents step (held_both _ _ s0.contents looked.seen (known_on _ s0 s1 looked.asked (subst (λ o. WhereKnown s1 (λ m. Answers ⊤ (IsWorkAt c (at m c.node)) (Ok o))) was answer))),
)
  where
    step : (m : Store) → IsSeen cs i counted (at m) × Answers ⊤ (IsWorkAt c (at m c.node)) (Ok None) → first_diverged cs (at m) ≡ Some p
    step m (seen, a) = seen.diverged ∙ ap (λ r. first_diverged r (at m)) (rest_is cs i c h is) ∙ ap (λ b. if b then first_diverged (drop (i + 1) cs) (at m) else Some c.node) a.1 ∙ ap Some (sym at_p)

-- memory ran out for the path
pub look_memory : (cs : List Change) (i : ℕ) (s0 s1 s2 : TreeState) (counted : ℕ) (o : Option ℕ) → IsLooked cs i s0 s1 counted → IsReading (Ok o) s1 s2 →
    IsAsking {T = ℕ} (Err Memory) s0 s2 × WhereKnown s0 (λ m. FindsValues cs (at m) (Err Memory))
look_memory cs i s0 s1 s2 counted o looked reading = (answers_now s0 s2 _ (asks_on s0 s1 s2 o looked.asked reading) (λ e. cc) (λ e. cc), held_all s0.contents (λ m. tt))

-- a call that was refused
pub look_refused : (S : Type 0) (cs : List Change) (i : ℕ) (s0 s1 s2 : TreeState) (counted : ℕ) (e : TreeFault) (r : Result ℕ ApplyFault) → IsLooked cs i s0 s1 counted → IsReading {T = S} (Err e) s1 s2 →
    WhereKnown s1 (λ m. e ≡ tree.Denied → ⊥) → r ≡ Err (of_tree e) → IsAsking r s0 s2 × WhereKnown s0 (λ m. FindsValues cs (at m) r)
look_refused S cs i s0 s1 s2 counted e r looked reading sure was = (
  answers_refused {S = S} s0 s1 s2 e r looked.asked reading sure was,
  subst (λ r. WhereKnown s0 (λ m. FindsValues cs (at m) r)) (sym was) (held_all s0.contents (λ m. anything m e)),
)
  where
    anything : (m : Store) (e : TreeFault) → FindsValues cs (at m) (Err (of_tree e))
    anything m tree.Failed = tt
    anything m tree.Denied = tt
    anything m tree.Memory = tt

pub look_ends : (cs : List Change) (i : ℕ) (s0 s1 : TreeState) (counted : ℕ) → length cs ≤ i → IsLooked cs i s0 s1 counted →
    IsAsking {T = ℕ} (Ok counted) s0 s1 × WhereKnown s0 (λ m. FindsValues cs (at m) (Ok counted))
look_ends cs i s0 s1 counted h looked = (
  answers_now s0 s1 _ looked.asked (λ e. cc) (λ e. cc),
  held_as s0.contents (λ m seen. (seen.diverged ∙ at_drop_all (λ xs. first_diverged xs (at m)) cs i h, all _ _ _ (at_drop_all (λ xs. work xs (at m)) cs i h) seen.left)) looked.seen,
)
  where
    all : (w x y : ℕ) → w ≡ 0 → x + w ≡ y → x ≡ y
    all w x y e f = omega arith
