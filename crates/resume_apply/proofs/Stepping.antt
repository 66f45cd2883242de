-- One command, call by call: each call that changes the tree is one step.
use Rattle.std.proofs.Common.{◌≡◌, ◌≤◌, ◌<◌, ◌⊎◌, ◌↔◌, inl, inr, ℕ, zero, suc, ◌+◌, Bool, true, false, not, ◌&&◌, ◌||◌, List, [], ◌∷◌, Option, Some, None, Result, Ok, Err, refl, sym, ap, subst, ◌∙◌, arith, min, IfOk, IsErrOf}
use mathlib.Core.Path.{fun_ext}
use Rattle.std.specs.Prelude.{if◌then◌else◌, ⊤, IsTrue}
use Rattle.sync_path.specs.Paths.{Node, parent, same_path}
use Rattle.sync_path.proofs.CallerLemmas.{parent_apart, same_path_comm, same_path_is}
use Rattle.sync_port.specs.States.{IfBoth, next_number}
use Rattle.sync_command.specs.declared.values.Value.{Value}
use Rattle.sync_command.specs.declared.values.Value.TheVariants.{Empty, Dir, File}
use Rattle.sync_command.specs.Values.{is_dir, is_empty, same_value}
use Rattle.sync_command.specs.Changes.{Change, is_down}
use Rattle.sync_command.specs.Trees.{Holding, IsTree, put}
use Rattle.sync_command.specs.Maps.{IsTreeMap, Store, at, store}
use Rattle.sync_command.proofs.CallerLemmas.{at-store, put_apart, put_here, same_value_at, same_value_is}
use Rattle.apply_model.specs.Parents.{IsBelowDir}
use Rattle.tree_port.specs.Conditions.{CanMake, CanPut, CanRemove, HasNoChild}
use Rattle.tree_port.specs.States.{Counts, CountsRefusals, IfHeld, IfTreeKnown, NoneFell, NoneRefused, TreeState, WhereKnown}
use Rattle.tree_port.specs.Calls.{Answers, IsChanging, IsReading, Puts}
use Rattle.tree_port.specs.declared.faults.TreeFault.{TreeFault}
use Rattle.tree_port.specs.declared.faults.TreeFault.TheVariants.{Failed, Denied, Memory}
use Rattle.resume_apply.specs.Ready.{IsStep, changes_kind, is_ready_value, work_at, work_units}
use Rattle.resume_apply.specs.Finishing.{CanChange, CanDo, Does, IsDone, IsMoved, IsPaid, counted_on}
use Rattle.resume_apply.proofs.CallerLemmas.{ready_at, work_step}

-- ---- one value put

put_twice : (t : Holding) (n : Node) (u v : Value) → put (put t n u) n v ≡ put t n v
put_twice t n u v = fun_ext (λ p. go p (same_path p n))
  where
    go : (p : Node) (b : Bool) → (if b then v else (if b then u else t p)) ≡ (if b then v else t p)
    go p true = refl
    go p false = refl

put_same : (t : Holding) (n : Node) → t ≡ put t n (t n)
put_same t n = fun_ext (λ p. go p (same_path p n) (same_path_is p n))
  where
    go : (p : Node) (b : Bool) → (b ≡ true → p ≡ n) → t p ≡ (if b then t n else t p)
    go p true is = ap t (is refl)
    go p false is = refl

-- a value put at the command's node leaves a tree in which the command can be done
can_after : (c : Change) (t : Holding) (v : Value) → CanDo c t → is_ready_value c v ≡ true → CanDo c (put t c.node v)
can_after c t v can ready = record {
  value = subst (λ u. is_ready_value c u ≡ true) (sym (put_here t c.node v)) ready;
  below = λ some q e. ap is_dir (put_apart t c.node v q (parent_apart q c.node e)) ∙ can.below some q e;
  last = λ down p e. ap is_empty (put_apart t c.node v p (same_path_comm p c.node ∙ parent_apart c.node p e)) ∙ can.last down p e;
}

moved_on : (c : Change) (m n : Holding) (v : Value) → IsMoved c m n → is_ready_value c v ≡ true → IsMoved c m (put n c.node v)
moved_on c m n v moved ready = record {
  there = ap (λ t. put t c.node v) moved.there ∙ put_twice m c.node (n c.node) v ∙ ap (put m c.node) (sym (put_here n c.node v));
  value = subst (λ u. is_ready_value c u ≡ true) (sym (put_here n c.node v)) ready;
}

-- ---- between two calls

-- the tree n was made of m by so many changes, and each did one unit of the command's work
pub record IsBetween (c : Change) (changes : ℕ) (m n : Holding) : Type 0 where
  pub can : CanDo c n
  pub moved : IsMoved c m n
  pub left : changes + work_at c (n c.node) ≡ work_at c (m c.node)

-- what is known between two calls, none of which was refused
pub record IsAt (c : Change) (s0 s1 : TreeState) (changes : ℕ) : Type 0 where
  pub later : NoneFell s0.counts s1.counts
  pub quiet : NoneRefused s0.counts s1.counts
  pub number : s1.counts.changes ≡ counted_on s0.counts.changes changes
  pub known : IfTreeKnown s0 s1 (λ m n. IsBetween c changes (at m) (at n))

pub fell_on : (a b d : Counts) → NoneFell a b → NoneFell b d → NoneFell a d
fell_on a b d x y = record {
  faults = omega (arith, x.faults, y.faults);
  denials = omega (arith, x.denials, y.denials);
  out_of_memory = omega (arith, x.out_of_memory, y.out_of_memory);
  changes = omega (arith, x.changes, y.changes);
}

pub fell_none : (a : Counts) → NoneFell a a
fell_none a = record { faults = omega arith; denials = omega arith; out_of_memory = omega arith; changes = omega arith }

pub quiet_on : (a b d : Counts) → NoneRefused a b → NoneRefused b d → NoneRefused a d
quiet_on a b d x y = record { faults = y.faults ∙ x.faults; denials = y.denials ∙ x.denials; out_of_memory = y.out_of_memory ∙ x.out_of_memory }

pub quiet_none : (a : Counts) → NoneRefused a a
quiet_none a = record { faults = refl; denials = refl; out_of_memory = refl }

pub counted_bound : (a k : ℕ) → counted_on a k ≤ a + k
counted_bound a zero = omega arith
counted_bound a (suc k) = let h : counted_on a k ≤ a + k = counted_bound a k in omega (arith, h)

pub begin : (c : Change) (s0 : TreeState) → WhereKnown s0 IsTreeMap → WhereKnown s0 (λ m. IsTreeMap m → CanDo c (at m)) → IsAt c s0 s0 0
begin c s0 tree needs = record { later = fell_none s0.counts; quiet = quiet_none s0.counts; number = refl; known = go s0.contents tree needs }
  where
    nothing_yet : (x : ℕ) → 0 + x ≡ x
    nothing_yet x = omega arith

    go : (t : Option Store) → IfHeld t IsTreeMap → IfHeld t (λ m. IsTreeMap m → CanDo c (at m)) → IfBoth t t (λ m n. IsBetween c 0 (at m) (at n))
    go None tree needs = tt
    go (Some m) tree needs = record { can = needs tree; moved = record { there = put_same (at m) c.node; value = (needs tree).value }; left = nothing_yet (work_at c (at m c.node)) }

pub read_on : {T : Type 0} (c : Change) (s0 s1 s2 : TreeState) (d : ℕ) (x : T) → IsAt c s0 s1 d → IsReading (Ok x) s1 s2 → IsAt c s0 s2 d
read_on c s0 s1 s2 d x is reading = record {
  later = fell_on s0.counts s1.counts s2.counts is.later reading.counts.later;
  quiet = quiet_on s0.counts s1.counts s2.counts is.quiet reading.counts.done;
  number = reading.changes ∙ is.number;
  known = subst (λ t. IfBoth s0.contents t (λ m n. IsBetween c d (at m) (at n))) (sym reading.contents) is.known;
}

-- a step at the command's node
step_known : (c : Change) (t0 t1 t2 : Option Store) (d : ℕ) (v : Value) → IfBoth t0 t1 (λ m n. IsBetween c d (at m) (at n)) → IfBoth t1 t2 (λ n o. o ≡ store n c.node v) →
    IfHeld t1 (λ n. (is_ready_value c v ≡ true) × (work_at c (at n c.node) ≡ work_at c v + 1)) → IfBoth t0 t2 (λ m o. IsBetween c (suc d) (at m) (at o))
step_known c None None None d v a b s = tt
step_known c None None (Some o) d v a b s = absurd b
step_known c None (Some n) t2 d v a b s = absurd a
step_known c (Some m) None t2 d v a b s = absurd a
step_known c (Some m) (Some n) None d v a b s = absurd b
step_known c (Some m) (Some n) (Some o) d v a b s = subst (λ t. IsBetween c (suc d) (at m) t) (sym (ap at b ∙ at-store n c.node v)) (record {
  can = can_after c (at n) v a.can s.0;
  moved = moved_on c (at m) (at n) v a.moved s.0;
  left = ap (λ u. suc d + work_at c u) (put_here (at n) c.node v) ∙ counted _ _ _ d s.1 a.left;
})
  where
    counted : (x y z d : ℕ) → x ≡ y + 1 → d + x ≡ z → suc d + y ≡ z
    counted x y z d e f = omega arith

-- what a step has to be, at the node as it is
abbrev pub Steps : Change → Value → Option Store → Type 0
Steps c v t = IfHeld t (λ n. IsStep c (at n c.node) v × ((same_value (at n c.node) v ≡ false) × (same_value c.old c.new ≡ false)))

stepping : (c : Change) (v : Value) (t : Option Store) → Steps c v t → IfHeld t (λ n. (is_ready_value c v ≡ true) × (work_at c (at n c.node) ≡ work_at c v + 1))
stepping c v None s = tt
stepping c v (Some n) s = (ready_at c (at n c.node) v s.0, work_step c (at n c.node) v s.1.1 s.1.0 s.0)

puts_ok : {T : Type 0} (t1 t2 : Option Store) (p : Node) (v : Value) (x : T) → IfBoth t1 t2 (λ m n. Puts ⊤ p v (Ok x) m n) → IfBoth t1 t2 (λ n o. o ≡ store n p v)
puts_ok None None p v x h = tt
puts_ok None (Some n) p v x h = absurd h
puts_ok (Some m) None p v x h = absurd h
puts_ok (Some m) (Some n) p v x h = h.1

pub put_on : {T : Type 0} (c : Change) (s0 s1 s2 : TreeState) (d : ℕ) (v : Value) (x : T) → IsAt c s0 s1 d →
    IsChanging {T = T} (Ok x) s1 s2 → IfTreeKnown s1 s2 (λ m n. Puts ⊤ c.node v (Ok x) m n) → Steps c v s1.contents → IsAt c s0 s2 (suc d)
put_on c s0 s1 s2 d v x is change puts s = record {
  later = fell_on s0.counts s1.counts s2.counts is.later change.counts.later;
  quiet = quiet_on s0.counts s1.counts s2.counts is.quiet change.counts.done;
  number = change.done ∙ ap next_number is.number;
  known = step_known c s0.contents s1.contents s2.contents d v is.known (puts_ok s1.contents s2.contents c.node v x puts) (stepping c v s1.contents s);
}

-- ---- the exits

as_err : (T : Type 0) (e f : TreeFault) → IsErrOf {T = ℕ} (Err e) f → IsErrOf {T = T} (Err e) f
as_err T e f h = subst (λ x. IsErrOf {T = T} (Err e) x) (same h) refl
  where
    same : IsErrOf {T = ℕ} (Err e) f → e ≡ f
    same h = cc

pub risen : {T : Type 0} (k0 k1 k2 : Counts) (e : TreeFault) → NoneFell k0 k1 → CountsRefusals {T = T} (Err e) k1 k2 → CountsRefusals {T = ℕ} (Err e) k0 k2
risen {T} k0 k1 k2 e later counts = record {
  later = fell_on k0 k1 k2 later counts.later;
  done = tt;
  failed = λ h. let r = counts.failed (as_err T e Failed h) in omega (arith, r, later.faults);
  denied = λ h. let r = counts.denied (as_err T e Denied h) in omega (arith, r, later.denials);
  memory = λ h. let r = counts.memory (as_err T e Memory h) in omega (arith, r, later.out_of_memory);
}

paid_by : (a b d w y : ℕ) → b ≤ a + d → d + w ≤ y → b + w ≤ a + y
paid_by a b d w y h l = omega arith

pub both_as : {P Q : Store → Store → Type 0} (t0 t1 : Option Store) → ((m n : Store) → P m n → Q m n) → IfBoth t0 t1 P → IfBoth t0 t1 Q
both_as None None f h = tt
both_as None (Some n) f h = absurd h
both_as (Some m) None f h = absurd h
both_as (Some m) (Some n) f h = f m n h

-- moved at the node, with at least so much less to do
abbrev pub IsWithin : Change → ℕ → Store → Store → Type 0
IsWithin c d m n = IsMoved c (at m) (at n) × (d + work_at c (at n c.node) ≤ work_at c (at m c.node))

exit_err : (c : Change) (s0 s2 : TreeState) (d : ℕ) (e : TreeFault) → CountsRefusals {T = ℕ} (Err e) s0.counts s2.counts → s2.counts.changes ≤ s0.counts.changes + d →
    IfTreeKnown s0 s2 (IsWithin c d) → WhereKnown s0 (λ m. IsErrOf {T = ℕ} (Err e) Denied → ⊥) → Does c (Err e) s0 s2
exit_err c s0 s2 d e counts number within sure = record {
  counts = counts;
  number = tt;
  moved = both_as s0.contents s2.contents (λ m n h. h.0) within;
  paid = both_as s0.contents s2.contents (λ m n h. paid_by s0.counts.changes s2.counts.changes d _ _ number h.1) within;
  done = both_as s0.contents s2.contents (λ m n h. tt) within;
  never_denied = sure;
  few = tt;
}

-- what is known goes on being known
pub never : (P : Store → Store → Type 0) (A : Type 0) (t0 t1 : Option Store) → IfBoth t0 t1 P → IfHeld t1 (λ m. A) → IfHeld t0 (λ m. A)
never P A None None h a = tt
never P A None (Some n) h a = absurd h
never P A (Some m) None h a = absurd h
never P A (Some m) (Some n) h a = a

-- a call that read and was refused ends the command
pub read_refused : {T : Type 0} (c : Change) (s0 s1 s2 : TreeState) (d : ℕ) (e : TreeFault) (r : Result ℕ TreeFault) → IsAt c s0 s1 d → IsReading {T = T} (Err e) s1 s2 →
    WhereKnown s1 (λ m. IsErrOf {T = ℕ} (Err e) Denied → ⊥) → r ≡ Err e → Does c r s0 s2
read_refused {T} c s0 s1 s2 d e r is reading sure was = subst (λ r. Does c r s0 s2) (sym was) (exit_err c s0 s2 d e (risen {T = T} s0.counts s1.counts s2.counts e is.later reading.counts)
    (bounded _ _ _ (reading.changes ∙ is.number) (counted_bound s0.counts.changes d)) within (never _ _ s0.contents s1.contents is.known sure))
  where
    bounded : (x y z : ℕ) → x ≡ y → y ≤ z → x ≤ z
    bounded x y z e h = omega arith

    even : (x y : ℕ) → x ≡ y → x ≤ y
    even x y e = omega arith

    within : IfTreeKnown s0 s2 (IsWithin c d)
    within = both_as s0.contents s2.contents (λ m n b. (b.moved, even _ _ b.left)) (subst (λ t. IfBoth s0.contents t (λ m n. IsBetween c d (at m) (at n))) (sym reading.contents) is.known)

-- a call that changes and was refused ends the command; it may be done all the same
within_put : (T : Type 0) (c : Change) (t0 t1 t2 : Option Store) (d : ℕ) (v : Value) (e : TreeFault) → IfBoth t0 t1 (λ m n. IsBetween c d (at m) (at n)) → IfBoth t1 t2 (λ m n. Puts {T = T} ⊤ c.node v (Err e) m n) →
    IfHeld t1 (λ n. (is_ready_value c v ≡ true) × (work_at c (at n c.node) ≡ work_at c v + 1)) → IfBoth t0 t2 (IsWithin c d)
within_put T c None None None d v e a b s = tt
within_put T c None None (Some o) d v e a b s = absurd b
within_put T c None (Some n) t2 d v e a b s = absurd a
within_put T c (Some m) None t2 d v e a b s = absurd a
within_put T c (Some m) (Some n) None d v e a b s = absurd b
within_put T c (Some m) (Some n) (Some o) d v e a b s = go e b
  where
    stays : o ≡ n → IsWithin c d m o
    stays is = subst (IsWithin c d m) (sym is) (a.moved, even _ _ a.left)
      where
        even : (x y : ℕ) → x ≡ y → x ≤ y
        even x y e = omega arith

    steps : o ≡ store n c.node v → IsWithin c d m o
    steps is = subst (λ (t : Holding). IsMoved c (at m) t × (d + work_at c (t c.node) ≤ work_at c (at m c.node))) (sym (ap at is ∙ at-store n c.node v))
        (moved_on c (at m) (at n) v a.moved s.0, subst (λ u. d + work_at c u ≤ work_at c (at m c.node)) (sym (put_here (at n) c.node v)) (less _ _ _ d s.1 a.left))
      where
        less : (x y z d : ℕ) → x ≡ y + 1 → d + x ≡ z → d + y ≤ z
        less x y z d e f = omega arith

    go : (e : TreeFault) → Puts {T = T} ⊤ c.node v (Err e) n o → IsWithin c d m o
    go Failed (inl is) = stays is
    go Failed (inr is) = steps is.1
    go Denied is = stays is.1
    go Memory is = stays is

never_put : (T : Type 0) (t1 t2 : Option Store) (p : Node) (v : Value) (e : TreeFault) → IfBoth t1 t2 (λ m n. Puts {T = T} ⊤ p v (Err e) m n) → IfHeld t1 (λ m. IsErrOf {T = ℕ} (Err e) Denied → ⊥)
never_put T None t2 p v e h = tt
never_put T (Some m) None p v e h = absurd h
never_put T (Some m) (Some n) p v e h = go e h
  where
    go : (e : TreeFault) → Puts {T = T} ⊤ p v (Err e) m n → IsErrOf {T = ℕ} (Err e) Denied → ⊥
    go Failed h is = cc
    go Denied h is = h.0 tt
    go Memory h is = cc

pub put_refused : {T : Type 0} (c : Change) (s0 s1 s2 : TreeState) (d : ℕ) (v : Value) (e : TreeFault) (r : Result ℕ TreeFault) → IsAt c s0 s1 d →
    IsChanging {T = T} (Err e) s1 s2 → IfTreeKnown s1 s2 (λ m n. Puts {T = T} ⊤ c.node v (Err e) m n) → Steps c v s1.contents → r ≡ Err e → Does c r s0 s2
put_refused {T} c s0 s1 s2 d v e r is change puts s was = subst (λ r. Does c r s0 s2) (sym was) (exit_err c s0 s2 d e (risen {T = T} s0.counts s1.counts s2.counts e is.later change.counts)
    (bounded _ _ _ (change.refused ∙ is.number) (counted_bound s0.counts.changes d)) (within_put T c s0.contents s1.contents s2.contents d v e is.known puts (stepping c v s1.contents s))
    (never _ _ s0.contents s1.contents is.known (never_put T s1.contents s2.contents c.node v e puts)))
  where
    bounded : (x y z : ℕ) → x ≡ y → y ≤ z → x ≤ z
    bounded x y z e h = omega arith

pub no_work_left : (c : Change) (v : Value) → v ≡ c.new → work_at c v ≡ 0
no_work_left c v is = ap (λ b. work_units b (same_value v c.old) (changes_kind c)) (same_value_at v c.new is)

-- the node holds the new value: the command is done
pub done_now : (c : Change) (s0 s1 : TreeState) (d : ℕ) → d ≤ 2 → IsAt c s0 s1 d → WhereKnown s1 (λ n. at n c.node ≡ c.new) → Does c (Ok d) s0 s1
done_now c s0 s1 d few is new = record {
  counts = record { later = is.later; done = is.quiet; failed = λ h. absurd (none Failed h); denied = λ h. absurd (none Denied h); memory = λ h. absurd (none Memory h) };
  number = is.number;
  moved = both_as s0.contents s1.contents (λ m n b. b.moved) is.known;
  paid = both_as s0.contents s1.contents (λ m n b. paid_by s0.counts.changes s1.counts.changes d (work_at c (at n c.node)) (work_at c (at m c.node)) (bounded _ _ _ is.number (counted_bound s0.counts.changes d)) (even _ _ b.left)) is.known;
  done = go s0.contents s1.contents is.known new;
  never_denied = go_never s0.contents;
  few = few;
}
  where
    none : (e : TreeFault) → IsErrOf {T = ℕ} (Ok d) e → ⊥
    none e h = cc

    bounded : (x y z : ℕ) → x ≡ y → y ≤ z → x ≤ z
    bounded x y z e h = omega arith

    even : (x y : ℕ) → x ≡ y → x ≤ y
    even x y e = omega arith

    go_never : (t : Option Store) → IfHeld t (λ m. IsErrOf {T = ℕ} (Ok d) Denied → ⊥)
    go_never None = tt
    go_never (Some m) = none Denied

    no_work : (n : Holding) → n c.node ≡ c.new → work_at c (n c.node) ≡ 0
    no_work n is = ap (λ b. work_units b (same_value (n c.node) c.old) (changes_kind c)) (same_value_at (n c.node) c.new is)

    go : (t0 t1 : Option Store) → IfBoth t0 t1 (λ m n. IsBetween c d (at m) (at n)) → IfHeld t1 (λ n. at n c.node ≡ c.new) → IfBoth t0 t1 (λ m n. IsDone c (at m) (at n) d)
    go None None b new = tt
    go None (Some n) b new = absurd b
    go (Some m) None b new = absurd b
    go (Some m) (Some n) b new = record { there = new; all_work = sums (work_at c (at n c.node)) (work_at c (at m c.node)) (no_work (at n) new) b.left }
      where
        sums : (w y : ℕ) → w ≡ 0 → d + w ≡ y → d ≡ y
        sums w y e f = omega arith

-- ---- what the node holds

reads : {P Q R : Store → Type 0} (t : Option Store) → ((m : Store) → P m → Q m → R m) → IfHeld t P → IfHeld t Q → IfHeld t R
reads None f p q = tt
reads (Some m) f p q = f m p q

not_same : (v w : Value) → (b : Bool) → ((b ≡ true) ↔ (v ≡ w)) → b ≡ false → same_value v w ≡ false
not_same v w b h e = go (same_value v w) (same_value_is v w)
  where
    go : (a : Bool) → (a ≡ true → v ≡ w) → a ≡ false
    go false f = refl
    go true f = let t : b ≡ true = h.1 (f refl) in cc

-- what a ready node holds that doesn't hold the new value
old_or_empty : (c : Change) (u : Value) → is_ready_value c u ≡ true → same_value u c.new ≡ false → (u ≡ c.old) ⊎ ((changes_kind c ≡ true) × (u ≡ Empty))
old_or_empty c u ready new = go (same_value u c.old) (same_value u c.new) (changes_kind c) u (same_value_is u c.old) ready new
  where
    go : (a b k : Bool) (u : Value) → (a ≡ true → u ≡ c.old) → (a || (b || (k && is_empty u))) ≡ true → b ≡ false → (u ≡ c.old) ⊎ ((k ≡ true) × (u ≡ Empty))
    go true b k u old h new = inl (old refl)
    go false true k u old h new = cc
    go false false false u old h new = cc
    go false false true Empty old h new = inr (refl, refl)
    go false false true (Dir l) old h new = cc
    go false false true (File x) old h new = cc

abbrev pub kinds : Value → Value → Bool
kinds v w = not (is_empty v) && (not (is_empty w) && (if is_dir v then not (is_dir w) else is_dir w))

no : false ≡ true → ⊥
no e = cc

no' : true ≡ false → ⊥
no' e = cc

-- from the old value to the new one by one call
direct_change : (old new : Value) (t : Holding) (n : Node) → t n ≡ old → same_value old new ≡ false → kinds old new ≡ false → (is_empty new ≡ false → IsBelowDir t n) →
    ((is_empty new || (is_dir old && not (is_dir new))) ≡ true → HasNoChild t n) → CanChange old new t n
direct_change Empty Empty t n is apart kind below last = absurd (no' apart)
direct_change (Dir l) Empty t n is apart kind below last = record { full = ap is_empty is; last = last refl }
direct_change (File b) Empty t n is apart kind below last = record { full = ap is_empty is; last = last refl }
direct_change Empty (File b) t n is apart kind below last = record { no_dir = ap is_dir is; below = below refl }
direct_change (Dir l) (File b) t n is apart kind below last = absurd (no' kind)
direct_change (File a) (File b) t n is apart kind below last = record { no_dir = ap is_dir is; below = below refl }
direct_change Empty (Dir l) t n is apart kind below last = record { free = ap is_empty is; below = below refl }
direct_change (Dir k) (Dir l) t n is apart kind below last = ap is_dir is
direct_change (File b) (Dir l) t n is apart kind below last = absurd (no' kind)

-- from Empty to the new value, where the kind changes
made_change : (old new : Value) (t : Holding) (n : Node) → t n ≡ Empty → kinds old new ≡ true → (is_empty new ≡ false → IsBelowDir t n) → CanChange old new t n
made_change Empty w t n is kind below = absurd (no kind)
made_change (Dir l) Empty t n is kind below = absurd (no kind)
made_change (Dir l) (File b) t n is kind below = record { no_dir = ap is_dir is; below = below refl }
made_change (Dir l) (Dir k) t n is kind below = absurd (no kind)
made_change (File b) Empty t n is kind below = absurd (no kind)
made_change (File a) (File b) t n is kind below = absurd (no kind)
made_change (File b) (Dir l) t n is kind below = record { free = ap is_empty is; below = below refl }

-- the old value may be removed, where the kind changes
removed_change : (old new : Value) (t : Holding) (n : Node) → IsTree t → t n ≡ old → kinds old new ≡ true →
    ((is_empty new || (is_dir old && not (is_dir new))) ≡ true → HasNoChild t n) → CanRemove t n
removed_change Empty w t n tree is kind last = absurd (no kind)
removed_change (Dir l) Empty t n tree is kind last = absurd (no kind)
removed_change (Dir l) (File b) t n tree is kind last = record { full = ap is_empty is; last = last refl }
removed_change (Dir l) (Dir k) t n tree is kind last = absurd (no kind)
removed_change (File b) w t n tree is kind last = record { full = ap is_empty is; last = λ p e. go p e (is_empty (t p)) refl }
  where
    go : (p : Node) → parent p ≡ Some n → (x : Bool) → is_empty (t p) ≡ x → x ≡ true
    go p e true h = refl
    go p e false h = let up : is_dir (t n) ≡ true = tree n p e h in let down : is_dir (t n) ≡ false = ap is_dir is in cc (up, down)

-- the answer of `holds`
abbrev pub Holds : Node → Value → Bool → Store → Type 0
Holds p v b m = Answers {T = Bool} ⊤ (λ x. (x ≡ true) ↔ (at m p ≡ v)) (Ok b)

pub holds_new : (c : Change) (t1 t2 : Option Store) (p : Node) (v : Value) (b : Bool) → p ≡ c.node → v ≡ c.new → b ≡ true → t2 ≡ t1 → IfHeld t1 (Holds p v b) → IfHeld t2 (λ n. at n c.node ≡ c.new)
holds_new c t1 t2 p v b at_p is_v so same h = subst (λ t. IfHeld t (λ n. at n c.node ≡ c.new)) (sym same) (go t1 h)
  where
    go : (t : Option Store) → IfHeld t (Holds p v b) → IfHeld t (λ n. at n c.node ≡ c.new)
    go None h = tt
    go (Some m) h = sym (ap (at m) at_p) ∙ h.1.0 so ∙ is_v

-- what is known once the node doesn't hold the new value
abbrev pub Lacks : Change → Option Store → Type 0
Lacks c t = IfHeld t (λ n. same_value (at n c.node) c.new ≡ false)

pub holds_not : (c : Change) (t1 t2 : Option Store) (p : Node) (v : Value) (b : Bool) → p ≡ c.node → v ≡ c.new → b ≡ false → t2 ≡ t1 → IfHeld t1 (Holds p v b) → Lacks c t2
holds_not c t1 t2 p v b at_p is_v not_so same h = subst (Lacks c) (sym same) (go t1 h)
  where
    go : (t : Option Store) → IfHeld t (Holds p v b) → Lacks c t
    go None h = tt
    go (Some m) h = not_same (at m c.node) c.new b (λ e. sym (ap (at m) at_p) ∙ h.1.0 e ∙ is_v, λ e. h.1.1 (ap (at m) at_p ∙ e ∙ sym is_v)) not_so

-- a reading call that has no condition is not denied
pub never_read : (T : Type 0) (Q : Store → T → Type 0) (t : Option Store) (e : TreeFault) → IfHeld t (λ m. Answers {T = T} ⊤ (Q m) (Err e)) → IfHeld t (λ m. IsErrOf {T = ℕ} (Err e) Denied → ⊥)
never_read T Q None e h = tt
never_read T Q (Some m) e h = go e h
  where
    go : (e : TreeFault) → Answers {T = T} ⊤ (Q m) (Err e) → IsErrOf {T = ℕ} (Err e) Denied → ⊥
    go Failed h is = cc
    go Denied h is = h tt
    go Memory h is = cc

pub start : {T : Type 0} (c : Change) (s0 s1 : TreeState) (x : T) → WhereKnown s0 (λ m. IsTreeMap m → CanDo c (at m)) → IsReading (Ok x) s0 s1 → IsAt c s0 s1 0
start c s0 s1 x needs reading = read_on c s0 s0 s1 0 x (begin c s0 reading.tree needs) reading

-- ---- the calls at hand

-- what is known of the map as it is
pub now_known : {P : Store → Store → Type 0} {Q : Store → Type 0} (t0 t1 : Option Store) → ((m n : Store) → P m n → Q n) → IfBoth t0 t1 P → IfHeld t1 Q
now_known None None f h = tt
now_known None (Some n) f h = absurd h
now_known (Some m) None f h = absurd h
now_known (Some m) (Some n) f h = f m n h

pub sure_at : (c : Change) (s0 s1 : TreeState) (d : ℕ) → IsAt c s0 s1 d → WhereKnown s1 (λ n. CanDo c (at n))
sure_at c s0 s1 d is = now_known s0.contents s1.contents (λ m n b. b.can) is.known

not_kind : (c : Change) (u : Value) → changes_kind c ≡ false → ((u ≡ c.old) ⊎ ((changes_kind c ≡ true) × (u ≡ Empty))) → u ≡ c.old
not_kind c u flat (inl e) = e
not_kind c u flat (inr (k, e)) = absurd (no (sym flat ∙ k))

not_gone : (c : Change) (u : Value) → is_empty u ≡ false → ((u ≡ c.old) ⊎ ((changes_kind c ≡ true) × (u ≡ Empty))) → u ≡ c.old
not_gone c u full (inl e) = e
not_gone c u full (inr (k, e)) = absurd (no' (sym (ap is_empty e) ∙ full))

differ_by : (c : Change) (u : Value) → u ≡ c.old → same_value u c.new ≡ false → same_value c.old c.new ≡ false
differ_by c u is lacks = sym (ap (λ w. same_value w c.new) is) ∙ lacks

pub can_direct : (c : Change) (t : Option Store) → changes_kind c ≡ false → IfHeld t (λ n. CanDo c (at n)) → Lacks c t → IfHeld t (λ n. CanChange c.old c.new (at n) c.node)
can_direct c None kind can lacks = tt
can_direct c (Some n) kind can lacks =
    let is : at n c.node ≡ c.old = not_kind c (at n c.node) kind (old_or_empty c (at n c.node) can.value lacks) in
    direct_change c.old c.new (at n) c.node is (differ_by c (at n c.node) is lacks) kind can.below can.last

pub step_direct : (c : Change) (t : Option Store) → changes_kind c ≡ false → IfHeld t (λ n. CanDo c (at n)) → Lacks c t → Steps c c.new t
step_direct c None kind can lacks = tt
step_direct c (Some n) kind can lacks =
    let is : at n c.node ≡ c.old = not_kind c (at n c.node) kind (old_or_empty c (at n c.node) can.value lacks) in
    (inl (is, refl, kind), (lacks, differ_by c (at n c.node) is lacks))

abbrev pub IsGone : Change → Option Store → Type 0
IsGone c t = IfHeld t (λ n. at n c.node ≡ Empty)

pub can_made : (c : Change) (t : Option Store) → changes_kind c ≡ true → IfHeld t (λ n. CanDo c (at n)) → IsGone c t → IfHeld t (λ n. CanChange c.old c.new (at n) c.node)
can_made c None kind can gone = tt
can_made c (Some n) kind can gone = made_change c.old c.new (at n) c.node gone kind can.below

full_new : (v w : Value) → kinds v w ≡ true → same_value Empty w ≡ false
full_new Empty w kind = absurd (no kind)
full_new (Dir l) Empty kind = absurd (no kind)
full_new (Dir l) (Dir k) kind = refl
full_new (Dir l) (File b) kind = refl
full_new (File b) Empty kind = absurd (no kind)
full_new (File b) (Dir k) kind = refl
full_new (File a) (File b) kind = refl

kinds_differ : (v w : Value) → kinds v w ≡ true → same_value v w ≡ false
kinds_differ Empty w kind = absurd (no kind)
kinds_differ (Dir l) Empty kind = absurd (no kind)
kinds_differ (Dir l) (Dir k) kind = absurd (no kind)
kinds_differ (Dir l) (File b) kind = refl
kinds_differ (File b) Empty kind = absurd (no kind)
kinds_differ (File b) (Dir k) kind = refl
kinds_differ (File a) (File b) kind = absurd (no kind)

pub step_made : (c : Change) (t : Option Store) → changes_kind c ≡ true → IsGone c t → Steps c c.new t
step_made c None kind gone = tt
step_made c (Some n) kind gone = (inr (inl (gone, refl)), (ap (λ u. same_value u c.new) gone ∙ full_new c.old c.new kind, kinds_differ c.old c.new kind))

-- the node holds something
abbrev pub Stands : Change → Option Store → Type 0
Stands c t = IfHeld t (λ n. is_empty (at n c.node) ≡ false)

pub can_removed : (c : Change) (t : Option Store) → changes_kind c ≡ true → IfHeld t IsTreeMap → IfHeld t (λ n. CanDo c (at n)) → Lacks c t → Stands c t → IfHeld t (λ n. CanRemove (at n) c.node)
can_removed c None kind tree can lacks stands = tt
can_removed c (Some n) kind tree can lacks stands =
    removed_change c.old c.new (at n) c.node tree.tree (not_gone c (at n c.node) stands (old_or_empty c (at n c.node) can.value lacks)) kind can.last

full_apart : (v : Value) → is_empty v ≡ false → same_value v Empty ≡ false
full_apart Empty full = absurd (no' full)
full_apart (Dir l) full = refl
full_apart (File b) full = refl

pub step_removed : (c : Change) (t : Option Store) → changes_kind c ≡ true → IfHeld t (λ n. CanDo c (at n)) → Lacks c t → Stands c t → Steps c Empty t
step_removed c None kind can lacks stands = tt
step_removed c (Some n) kind can lacks stands = (inr (inr (not_gone c (at n c.node) stands (old_or_empty c (at n c.node) can.value lacks), refl, kind)), (full_apart (at n c.node) stands, kinds_differ c.old c.new kind))

-- after a call that was done the node holds what was put
pub put_now : (T : Type 0) (p : Node) (v : Value) (t1 t2 : Option Store) (x : T) → IfBoth t1 t2 (λ m n. Puts ⊤ p v (Ok x) m n) → IfHeld t2 (λ n. at n p ≡ v)
put_now T p v t1 t2 x h = now_known t1 t2 (λ m n e. ap (λ t. t p) (ap at e ∙ at-store m p v) ∙ put_here (at m) p v) (puts_ok t1 t2 p v x h)

-- the answer of `is_gone`
abbrev pub Gone : Node → Bool → Store → Type 0
Gone p b m = Answers {T = Bool} ⊤ (λ x. x ≡ is_empty (at m p)) (Ok b)

pub gone_now : (c : Change) (t1 t2 : Option Store) (p : Node) (b : Bool) → p ≡ c.node → b ≡ true → t2 ≡ t1 → IfHeld t1 (Gone p b) → IsGone c t2
gone_now c t1 t2 p b at_p so same h = subst (IsGone c) (sym same) (go t1 h)
  where
    empty_is : (v : Value) → true ≡ is_empty v → v ≡ Empty
    empty_is Empty e = refl
    empty_is (Dir l) e = absurd (no' e)
    empty_is (File b) e = absurd (no' e)

    go : (t : Option Store) → IfHeld t (Gone p b) → IsGone c t
    go None h = tt
    go (Some m) h = empty_is (at m c.node) (sym so ∙ h.1 ∙ ap (λ q. is_empty (at m q)) at_p)

pub stands_now : (c : Change) (t1 t2 : Option Store) (p : Node) (b : Bool) → p ≡ c.node → b ≡ false → t2 ≡ t1 → IfHeld t1 (Gone p b) → Stands c t2
stands_now c t1 t2 p b at_p so same h = subst (Stands c) (sym same) (go t1 h)
  where
    go : (t : Option Store) → IfHeld t (Gone p b) → Stands c t
    go None h = tt
    go (Some m) h = sym (h.1 ∙ ap (λ q. is_empty (at m q)) at_p) ∙ so

pub tree_on : (t1 t2 : Option Store) → t2 ≡ t1 → IfHeld t1 IsTreeMap → IfHeld t2 IsTreeMap
tree_on t1 t2 same h = subst (λ t. IfHeld t IsTreeMap) (sym same) h

pub lacks_on : (c : Change) (t1 t2 : Option Store) → t2 ≡ t1 → Lacks c t1 → Lacks c t2
lacks_on c t1 t2 same h = subst (Lacks c) (sym same) h

pub never_holds : (p : Node) (v : Value) (t : Option Store) (e : TreeFault) → IfHeld t (λ m. Answers {T = Bool} ⊤ (λ x. (x ≡ true) ↔ (at m p ≡ v)) (Err e)) → IfHeld t (λ m. IsErrOf {T = ℕ} (Err e) Denied → ⊥)
never_holds p v t e h = never_read Bool (λ m x. (x ≡ true) ↔ (at m p ≡ v)) t e h

pub never_gone : (p : Node) (t : Option Store) (e : TreeFault) → IfHeld t (λ m. Answers {T = Bool} ⊤ (λ x. x ≡ is_empty (at m p)) (Err e)) → IfHeld t (λ m. IsErrOf {T = ℕ} (Err e) Denied → ⊥)
never_gone p t e h = never_read Bool (λ m x. x ≡ is_empty (at m p)) t e h

pub can_removed_at : (c : Change) (t : Option Store) (p : Node) → p ≡ c.node → changes_kind c ≡ true → IfHeld t IsTreeMap → IfHeld t (λ n. CanRemove (at n) c.node) → IfHeld t (λ n. CanRemove (at n) p)
can_removed_at c t p at_p kind tree h = subst (λ p. IfHeld t (λ n. CanRemove (at n) p)) (sym at_p) h

pub removed_at : (c : Change) (t1 t2 : Option Store) (p : Node) (r : Result (Unit {0}) TreeFault) → p ≡ c.node → IfBoth t1 t2 (λ m n. Puts ⊤ p Empty r m n) → IfBoth t1 t2 (λ m n. Puts ⊤ c.node Empty r m n)
removed_at c t1 t2 p r at_p h = subst (λ p. IfBoth t1 t2 (λ m n. Puts ⊤ p Empty r m n)) at_p h
