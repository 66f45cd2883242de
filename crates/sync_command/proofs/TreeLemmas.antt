-- Holdings and trees: one value changed, and what a tree holds above a node.
use Rattle.std.proofs.Common.{◌≡◌, ℕ, zero, suc, ◌<◌, ◌≤◌, length, true, false, List, [], ◌∷◌, sym, ap, subst, arith, ◌⊎◌, inl, inr}
use Rattle.std.specs.Prelude.{if◌then◌else◌}
use Rattle.sync_path.specs.Paths.{Node, is_under, same_path}
use Rattle.sync_path.proofs.CallerLemmas.{HasParentUnder, same_path_refl, under_split}
use Rattle.sync_command.specs.Changes.{Change}
use Rattle.sync_command.specs.Trees.{Holding, IsTree, Takes, put, result_of}
use Rattle.sync_command.specs.Values.{is_dir, is_empty}
use Rattle.sync_command.specs.declared.values.Value.{Value}
use Rattle.sync_command.proofs.ValueLemmas.{full_from_dir}

-- ---- one value changed

pub put_here : (t : Holding) (n : Node) (v : Value) → put t n v n ≡ v
put_here t n v = ap (λ b. if b then v else t n) (same_path_refl n)

pub put_apart : (t : Holding) (n : Node) (v : Value) (p : Node) → same_path p n ≡ false → put t n v p ≡ t p
put_apart t n v p e = ap (λ b. if b then v else t p) e

-- ---- trees

-- what holds the same at each path is a tree too
pub same_tree : (t u : Holding) → ((p : Node) → t p ≡ u p) → IsTree t → IsTree u
same_tree t u h tree q n e full = subst (λ v. is_dir v ≡ true) (h q) (tree q n e (subst (λ v. is_empty v ≡ false) (sym (h n)) full))

-- a list that a tree takes leaves a tree
pub tree-result_of : (t : Holding) (cs : List Change) → IsTree t → Takes t cs → IsTree (result_of t cs)
tree-result_of t [] tree takes = tree
tree-result_of t (c ∷ cs) tree takes = tree-result_of (put t c.node c.new) cs takes.0.tree takes.1

tree_above_by : (k : ℕ) (t : Holding) → IsTree t → (p q : Node) → length p ≤ k → is_under p q ≡ true → is_empty (t p) ≡ false → is_dir (t q) ≡ true
tree_above_by zero t tree p q short under full = let h : HasParentUnder p q = under_split p q under in let s : length h.up < length p = h.shorter in absurd (omega arith)
tree_above_by (suc k) t tree p q short under full = go (under_split p q under) (λ r s u f. tree_above_by k t tree r q s u f)
  where
    go : HasParentUnder p q → ((r : Node) → length r ≤ k → is_under r q ≡ true → is_empty (t r) ≡ false → is_dir (t q) ≡ true) → is_dir (t q) ≡ true
    go h rec = let dir : is_dir (t h.up) ≡ true = tree h.up p h.is full in split h.way dir
      where
        split : (h.up ≡ q) ⊎ (is_under h.up q ≡ true) → is_dir (t h.up) ≡ true → is_dir (t q) ≡ true
        split (inl is) dir = subst (λ r. is_dir (t r) ≡ true) is dir
        split (inr u) dir = let s : length h.up < length p = h.shorter in rec h.up (omega arith) u (full_from_dir _ dir)

-- in a tree a directory stands at each node above one that is not empty
pub tree_above : (t : Holding) → IsTree t → (p q : Node) → is_under p q ≡ true → is_empty (t p) ≡ false → is_dir (t q) ≡ true
tree_above t tree p q under full = tree_above_by (length p) t tree p q (omega arith) under full
