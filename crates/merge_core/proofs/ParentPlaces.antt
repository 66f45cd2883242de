-- The places of the parents of all nodes.
use Rattle.std.proofs.Common.{◌≡◌, ℕ, zero, suc, ◌<◌, ◌≤◌, ◌+◌, true, false, List, [], ◌∷◌, ◌++◌, length, length-append, Option, Some, None, refl, sym, ap, subst, ◌∙◌, arith, ◌⊎◌, inl, inr}
use Rattle.std.specs.List.{slice_get}
use Rattle.std.proofs.lemmas.Bool.{cases_lt}
use Rattle.std.proofs.lemmas.Option.{slice_get_within}
use Rattle.sync_path.specs.Paths.{Node, parent, comes_before}
use Rattle.sync_command.specs.declared.commands.Row.{Row}
use Rattle.sync_path.proofs.CallerLemmas.{parent_before, before_asym, before_irrefl}
use Rattle.pref_list.proofs.CallerLemmas.{one_place, rising_at, last_or}
use Rattle.refluent.specs.Joints.{Joined, IsJoint, path_at, is_ascending}
use Rattle.refluent.specs.Picks.{IsParentPlace}
use Rattle.pref_list.specs.Numbers.{IsNodeAt}
use Rattle.merge_core.specs.Parents.{AreParentsOf}

ascending_of : (j : Joined) → IsJoint j → is_ascending j.nodes ≡ true
ascending_of j is = is.stands.order

-- the parents of the first so many nodes
pub record ParentsTo (nodes : List Row) (n : ℕ) (parents : List (Option ℕ)) : Type 0 where
  pub many : length parents ≡ n
  pub each : (i : ℕ) (o : Option ℕ) (p : Node) → slice_get parents i ≡ Some o → IsNodeAt nodes i p → IsParentPlace nodes (parent p) o

pub parents_more : (nodes : List Row) (n : ℕ) (parents all : List (Option ℕ)) (own : Option ℕ) → ParentsTo nodes n parents → ((p : Node) → IsNodeAt nodes n p → IsParentPlace nodes (parent p) own) → all ≡ parents ++ own ∷ [] → ParentsTo nodes (n + 1) all
parents_more nodes n parents all own so here is = record {
  many = ap length is ∙ length-append parents (own ∷ []) ∙ (let m = so.many in omega arith);
  each = λ i o p e at. go i o p at (last_or parents own i o (ap (λ l. slice_get l i) (sym is) ∙ e));
}
  where
    go : (i : ℕ) (o : Option ℕ) (p : Node) → IsNodeAt nodes i p → (slice_get parents i ≡ Some o) ⊎ ((i ≡ length parents) × (o ≡ own)) → IsParentPlace nodes (parent p) o
    go i o p at (inl old) = so.each i o p old at
    go i o p at (inr new) = subst (IsParentPlace nodes (parent p)) (sym new.1) (here p (ap (path_at nodes) (sym (new.0 ∙ so.many)) ∙ at))

node_some : (nodes : List Row) (i : ℕ) → i < length nodes → (p : Node) × IsNodeAt nodes i p
node_some [] i low = absurd (omega arith)
node_some (row ∷ nodes) zero low = (row.path, refl)
node_some (row ∷ nodes) (suc i) low = node_some nodes i (omega arith)

pub parents_done : (j : Joined) → IsJoint j → (n : ℕ) (parents : List (Option ℕ)) → ParentsTo j.nodes n parents → n ≡ length j.nodes → AreParentsOf j.nodes parents
parents_done j is n parents so end = record {
  many = so.many ∙ end;
  each = so.each;
  unique = one_place j.nodes (ascending_of j is);
  low = λ i k e. let w : i < length parents = slice_get_within parents i (Some k) e in let m = so.many in
      let p = node_some j.nodes i (omega arith) in go i k p.0 p.1 (parent p.0) refl (so.each i (Some k) p.0 e p.1);
}
  where
    go : (i k : ℕ) (p : Node) → IsNodeAt j.nodes i p → (o : Option Node) → parent p ≡ o → IsParentPlace j.nodes o (Some k) → k < i
    go i k p at None up h = cc (h)
    go i k p at (Some q) up h = split (cases_lt k i) (cases_lt i k)
      where
        same : Some k ≡ Some h.0 → k ≡ h.0
        same e = cc

        there : path_at j.nodes k ≡ Some q
        there = ap (path_at j.nodes) (same h.1) ∙ h.2

        first : comes_before q p ≡ true
        first = parent_before q p up

        same_node : Some q ≡ Some p → q ≡ p
        same_node e = cc

        split : (k < i) ⊎ (i ≤ k) → (i < k) ⊎ (k ≤ i) → k < i
        split (inl l) b = l
        split (inr l) (inl m) = let g : comes_before p q ≡ true = rising_at j.nodes (ascending_of j is) i k p q m at there in let f : comes_before p q ≡ false = before_asym q p first in cc (g, f)
        split (inr l) (inr m) = let n : k ≡ i = omega arith in let s : q ≡ p = same_node (sym there ∙ ap (path_at j.nodes) n ∙ at) in
            let f : comes_before q p ≡ false = ap (comes_before q) (sym s) ∙ before_irrefl q in cc (first, f)
