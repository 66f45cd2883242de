-- What the loops of a check keep.
use Rattle.std.proofs.Common.{◌≡◌, ℕ, zero, suc, ◌+◌, ◌-◌, ◌<◌, ◌≤◌, Bool, true, false, List, [], ◌∷◌, ◌++◌, length, length-append, Option, Some, None, refl, sym, ap, subst, ◌∙◌, arith, ◌⊎◌, inl, inr}
use Rattle.std.specs.Prelude.{slice_set, replicate}
use Rattle.std.proofs.Common.{get_or}
use Rattle.std.specs.List.{slice_get}
use Rattle.std.proofs.lemmas.Bool.{cases_lt}
use Rattle.std.proofs.lemmas.Option.{slice_get_within, slice_get-get_or}
use Rattle.sync_path.specs.Paths.{Node}
use Rattle.sync_command.specs.declared.values.Value.{Value}
use Rattle.sync_command.specs.declared.commands.Row.{Row}
use Rattle.sync_command.specs.Changes.{Change}
use Rattle.sync_command.specs.Trees.{one_each}
use Rattle.canon_set.specs.Logs.{net}
use Rattle.canon_set.proofs.CallerLemmas.{one_each-canonical}
use Rattle.refluent.specs.Families.{NonePasses, IsFirstPlace}
use Rattle.refluent.specs.Joints.{Joined, IsJoint, path_at, value_at, net_sets}
use Rattle.pref_list.specs.Ranking.{set_from, set_of}
use Rattle.pref_list.specs.Numbers.{IsNodeAt, AreNodesOf}
use Rattle.pref_list.proofs.CallerLemmas.{one_each-net, path_within, set_at_number, last_or, set_or}
use Rattle.merge_core.specs.declared.checking.After.{After}
use Rattle.merge_core.specs.Parents.{AreParentsOf}
use Rattle.merge_core.specs.Verdicts.{IsBefore, IsFirstCommand}
use Rattle.merge_core.specs.Afterwards.{IsAfter, AreFilled, HasFullChild, IsAddable, IsPlaceOf, is_full_in, marked, can_add}

some_is : {X : Type 0} {x y : X} → Some x ≡ Some y → x ≡ y
some_is e = cc

-- ---- the net sets

one_each-sets : (logs : List (List Change)) (k : ℕ) → one_each (set_from (net_sets logs) k) ≡ true
one_each-sets [] k = refl
one_each-sets (log ∷ logs) zero = one_each-canonical (net log) (one_each-net log)
one_each-sets (log ∷ logs) (suc k) = one_each-sets logs k

one_each-set : (sets logs : List (List Change)) (k : ℕ) → sets ≡ net_sets logs → one_each (set_of sets k) ≡ true
one_each-set sets logs zero e = refl
one_each-set sets logs (suc k) e = ap (λ s. one_each (set_from s k)) e ∙ one_each-sets logs k

pub one_each-log : (j : Joined) → IsJoint j → (k : ℕ) → one_each (set_of j.sets k) ≡ true
one_each-log j is k = one_each-set j.sets is.logs k is.stands.sets

set_low : (sets : List (List Change)) (k i : ℕ) (c : Change) → slice_get (set_from sets k) i ≡ Some c → k < length sets
set_low [] k i c e = cc (e)
set_low (set ∷ sets) zero i c e = omega arith
set_low (set ∷ sets) (suc k) i c e = let l = set_low sets k i c e in omega (arith, l)

-- ---- nodes after a set

pub record AfterTo (nodes : List Row) (set : List Change) (n : ℕ) (seen : List After) : Type 0 where
  pub many : length seen ≡ n
  pub each : (i : ℕ) (a : After) (p : Node) (v : Value) → slice_get seen i ≡ Some a → path_at nodes i ≡ Some p → value_at nodes i ≡ Some v → IsAfter set p v a

pub after_more : (nodes : List Row) (set : List Change) (n : ℕ) (seen all : List After) (a : After) → AfterTo nodes set n seen → ((p : Node) (v : Value) → path_at nodes n ≡ Some p → value_at nodes n ≡ Some v → IsAfter set p v a) → all ≡ seen ++ a ∷ []
    → AfterTo nodes set (n + 1) all
after_more nodes set n seen all a so here is = record {
  many = ap length is ∙ length-append seen (a ∷ []) ∙ (let m = so.many in omega arith);
  each = λ i b p v e path value. go i b p v path value (last_or seen a i b (ap (λ l. slice_get l i) (sym is) ∙ e));
}
  where
    go : (i : ℕ) (b : After) (p : Node) (v : Value) → path_at nodes i ≡ Some p → value_at nodes i ≡ Some v → (slice_get seen i ≡ Some b) ⊎ ((i ≡ length seen) × (b ≡ a)) → IsAfter set p v b
    go i b p v path value (inl old) = so.each i b p v old path value
    go i b p v path value (inr new) =
        let at = new.0 ∙ so.many in
        subst (IsAfter set p v) (sym new.1) (here p v (ap (path_at nodes) (sym at) ∙ path) (ap (value_at nodes) (sym at) ∙ value))

-- ---- the flags of the parents

child_more : (parents : List (Option ℕ)) (seen : List After) (n k : ℕ) → HasFullChild parents seen n k → HasFullChild parents seen (n + 1) k
child_more parents seen n k (i, low, up, full) = (i, omega arith, up, full)

child_last : (parents : List (Option ℕ)) (seen : List After) (n k : ℕ) → HasFullChild parents seen (n + 1) k → HasFullChild parents seen n k ⊎ ((slice_get parents n ≡ Some (Some k)) × (is_full_in (slice_get seen n) ≡ true))
child_last parents seen n k (i, low, up, full) = go (cases_lt i n)
  where
    go : (i < n) ⊎ (n ≤ i) → HasFullChild parents seen n k ⊎ ((slice_get parents n ≡ Some (Some k)) × (is_full_in (slice_get seen n) ≡ true))
    go (inl l) = inl (i, l, up, full)
    go (inr l) = let same : i ≡ n = omega arith in inr (ap (slice_get parents) (sym same) ∙ up, ap (λ m. is_full_in (slice_get seen m)) (sym same) ∙ full)

pub filled_same : (parents : List (Option ℕ)) (seen : List After) (n : ℕ) (filled : List Bool) → AreFilled parents seen n filled → (is_full_in (slice_get seen n) ≡ false) → AreFilled parents seen (n + 1) filled
filled_same parents seen n filled are empty = record {
  many = are.many;
  yes = λ k e. child_more parents seen n k (are.yes k e);
  no = λ k e h. go k e (child_last parents seen n k h);
}
  where
    go : (k : ℕ) → slice_get filled k ≡ Some false → HasFullChild parents seen n k ⊎ ((slice_get parents n ≡ Some (Some k)) × (is_full_in (slice_get seen n) ≡ true)) → ⊥
    go k e (inl h) = are.no k e h
    go k e (inr h) = let full = h.1 in cc (full, empty)

root_same : (parents : List (Option ℕ)) (seen : List After) (n : ℕ) (filled : List Bool) → AreFilled parents seen n filled → ((k : ℕ) → slice_get parents n ≡ Some (Some k) → ⊥) → AreFilled parents seen (n + 1) filled
root_same parents seen n filled are root = record {
  many = are.many;
  yes = λ k e. child_more parents seen n k (are.yes k e);
  no = λ k e h. go k e (child_last parents seen n k h);
}
  where
    go : (k : ℕ) → slice_get filled k ≡ Some false → HasFullChild parents seen n k ⊎ ((slice_get parents n ≡ Some (Some k)) × (is_full_in (slice_get seen n) ≡ true)) → ⊥
    go k e (inl h) = are.no k e h
    go k e (inr h) = root k h.0

pub filled_more : (parents : List (Option ℕ)) (seen : List After) (n : ℕ) (filled all : List Bool) → n < length parents → all ≡ marked filled (slice_get parents n) → AreFilled parents seen n filled → (is_full_in (slice_get seen n) ≡ true) → AreFilled parents seen (n + 1) all
filled_more parents seen n filled all low is are full = subst (AreFilled parents seen (n + 1)) (sym is) (go (slice_get parents n) refl)
  where
    length-set : (xs : List Bool) (k : ℕ) (b : Bool) → length (slice_set xs k b) ≡ length xs
    length-set [] k b = refl
    length-set (x ∷ xs) zero b = refl
    length-set (x ∷ xs) (suc k) b = let m = length-set xs k b in omega (arith, m)

    go : (o : Option (Option ℕ)) → slice_get parents n ≡ o → AreFilled parents seen (n + 1) (marked filled o)
    go None e = root_same parents seen n filled are (λ k f. no_some k (sym e ∙ f))
      where
        no_some : (k : ℕ) → ◌≡◌ {A = Option (Option ℕ)} None (Some (Some k)) → ⊥
        no_some k f = cc (f)
    go (Some None) e = root_same parents seen n filled are (λ k f. no_some k (sym e ∙ f))
      where
        no_some : (k : ℕ) → ◌≡◌ {A = Option (Option ℕ)} (Some None) (Some (Some k)) → ⊥
        no_some k f = cc (f)
    go (Some (Some k)) e = record {
      many = length-set filled k true ∙ are.many;
      yes = λ m f. yes m (set_or filled k true m true f);
      no = λ m f h. no m (set_or filled k true m false f) (child_last parents seen n m h);
    }
      where
        yes : (m : ℕ) → ((m ≡ k) × (true ≡ true)) ⊎ ((m ≡ k → ⊥) × (slice_get filled m ≡ Some true)) → HasFullChild parents seen (n + 1) m
        yes m (inl here) = (n, omega arith, e ∙ ap (λ x. Some (Some x)) (sym here.0), full)
        yes m (inr other) = child_more parents seen n m (are.yes m other.1)

        no : (m : ℕ) → ((m ≡ k) × (false ≡ true)) ⊎ ((m ≡ k → ⊥) × (slice_get filled m ≡ Some false)) → HasFullChild parents seen n m ⊎ ((slice_get parents n ≡ Some (Some m)) × (is_full_in (slice_get seen n) ≡ true)) → ⊥
        no m (inl here) h = let f = here.1 in cc (f)
        no m (inr other) (inl h) = are.no m other.1 h
        no m (inr other) (inr h) = other.0 (some_is (some_is (sym h.0 ∙ e)))

pub filled_none : (parents : List (Option ℕ)) (seen : List After) (filled : List Bool) → filled ≡ replicate (length parents) false → length filled ≡ length parents → AreFilled parents seen 0 filled
filled_none parents seen filled is many = record {
  many = many;
  yes = λ k e. absurd (never (length parents) k (ap (λ l. slice_get l k) (sym is) ∙ e));
  no = λ k e h. let low = h.1 in absurd (omega (arith, low));
}
  where
    never : (n k : ℕ) → slice_get (replicate n false) k ≡ Some true → ⊥
    never zero k e = cc (e)
    never (suc n) zero e = cc (e)
    never (suc n) (suc k) e = never n k e

-- ---- what can be added

module _ (nodes : List Row) (parents : List (Option ℕ)) (seen : List After) (filled : List Bool) (ups : AreParentsOf nodes parents) (cs : List Change) (places : List ℕ) (are : AreNodesOf nodes cs places) (i at : ℕ) (c : Change) (there : slice_get cs i ≡ Some c) (place : slice_get places i ≡ Some at) where
  pub can_here : can_add parents seen filled at c ≡ true → IsPlaceOf cs (IsAddable nodes parents seen filled) i
  can_here e = (c, there, (at, are.each i at c place there, e))

  pub cannot_here : can_add parents seen filled at c ≡ false → NonePasses (IsPlaceOf cs (IsAddable nodes parents seen filled)) 0 i → NonePasses (IsPlaceOf cs (IsAddable nodes parents seen filled)) 0 (i + 1)
  cannot_here e none k from low so = go (cases_lt k i)
    where
      never : (d : Change) → slice_get cs i ≡ Some d → IsAddable nodes parents seen filled d → ⊥
      never d f (m, node, can) =
          let same : c ≡ d = some_is (sym there ∙ f) in
          let one : m ≡ at = ups.unique m at d.node node (are.each i at d place f) in
          let yes : can_add parents seen filled at c ≡ true = ap (can_add parents seen filled at) same ∙ ap (λ x. can_add parents seen filled x d) (sym one) ∙ can in
          cc (yes, e)

      go : (k < i) ⊎ (i ≤ k) → ⊥
      go (inl l) = none k from l so
      go (inr l) = let same : k ≡ i = omega arith in never so.0 (ap (slice_get cs) (sym same) ∙ so.1) so.2

-- ---- the commands of a log, and of all logs

pub commands_are : (sets : List (List Change)) (log : ℕ) (set commands : List Change) → 0 < log → slice_get sets (log - 1) ≡ Some set → commands ≡ set → commands ≡ set_of sets log
commands_are sets log set commands low at is = is ∙ sym (set_at_number sets log set low at)

pub there_at : (sets : List (List Change)) (log i : ℕ) (commands : List Change) (c : Change) → commands ≡ set_of sets log → i < length commands → c ≡ get_or commands i c → slice_get (set_of sets log) i ≡ Some c
there_at sets log i commands c own low is = ap (λ l. slice_get l i) (sym own) ∙ slice_get-get_or commands i c low ∙ ap Some (sym is)

pub node_low : (nodes : List Row) (parents : List (Option ℕ)) → AreParentsOf nodes parents → (i : ℕ) (p : Node) → IsNodeAt nodes i p → i < length parents
node_low nodes parents ups i p at =
    let low = path_within nodes i p at in
    let many = ups.many in
    omega (arith, low, many)

abbrev pub NoneTo : List (List Change) → (Change → Type 0) → ℕ → Type 0
NoneTo sets P n = (k i : ℕ) (c : Change) → k ≤ n → slice_get (set_of sets k) i ≡ Some c → P c → ⊥

pub none_to_start : (sets : List (List Change)) (P : Change → Type 0) → NoneTo sets P 0
none_to_start sets P zero i c low e p = cc (e)
none_to_start sets P (suc k) i c low e p = absurd (omega arith)

pub none_to_more : (sets : List (List Change)) (P : Change → Type 0) (n : ℕ) → NoneTo sets P n → NonePasses (IsPlaceOf (set_of sets (n + 1)) P) 0 (length (set_of sets (n + 1))) → NoneTo sets P (n + 1)
none_to_more sets P n none here k i c low e p = go (cases_lt n k)
  where
    go : (n < k) ⊎ (k ≤ n) → ⊥
    go (inr l) = none k i c l e p
    go (inl l) =
        let same : k ≡ n + 1 = omega arith in
        let at = ap (λ m. slice_get (set_of sets m) i) (sym same) ∙ e in
        here i (omega arith) (slice_get_within (set_of sets (n + 1)) i c at) (c, at, p)

pub set_of_low : (sets : List (List Change)) (k i : ℕ) (c : Change) → slice_get (set_of sets k) i ≡ Some c → (0 < k) × (k ≤ length sets)
set_of_low sets zero i c e = cc (e)
set_of_low sets (suc k) i c e = let l = set_low sets k i c e in (omega arith, omega (arith, l))

pub none_to_all : (sets : List (List Change)) (P : Change → Type 0) (n : ℕ) → length sets ≤ n → NoneTo sets P n → (k i : ℕ) (c : Change) → slice_get (set_of sets k) i ≡ Some c → P c → ⊥
none_to_all sets P n all none k i c e p = let l = (set_of_low sets k i c e).1 in none k i c (omega (arith, l, all)) e p

pub first_here : (sets : List (List Change)) (P : Change → Type 0) (n place : ℕ) → NoneTo sets P n → IsFirstPlace (IsPlaceOf (set_of sets (n + 1)) P) 0 (length (set_of sets (n + 1))) (Some place) → (c : Change) × IsFirstCommand sets P (n + 1) place c
first_here sets P n place none h = (h.2.0, record { there = h.2.1; so = h.2.2; first = before })
  where
    before : (l i : ℕ) (d : Change) → IsBefore l i (n + 1) place → slice_get (set_of sets l) i ≡ Some d → P d → ⊥
    before l i d (inl low) e p = none l i d (omega arith) e p
    before l i d (inr same) e p = h.3 i (omega arith) same.1 (d, ap (λ m. slice_get (set_of sets m) i) (sym same.0) ∙ e, p)
