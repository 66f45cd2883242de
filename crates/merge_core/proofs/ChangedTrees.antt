-- When a tree with one value changed is a tree again.
use Rattle.std.proofs.Common.{◌≡◌, Bool, true, false, Some, refl, sym, ap, ◌∙◌}
use Rattle.sync_path.specs.Paths.{Node, parent, same_path}
use Rattle.sync_path.proofs.CallerLemmas.{parent_apart, same_path_at, same_path_is}
use Rattle.sync_command.proofs.CallerLemmas.{put_apart, put_here}
use Rattle.sync_command.specs.Trees.{Holding, IsTree, put}
use Rattle.sync_command.specs.Values.{is_dir, is_empty}
use Rattle.sync_command.specs.declared.values.Value.{Value}

-- the node's parent, if it has one, is a directory
abbrev pub IsBelowDir : Holding → Node → Type 0
IsBelowDir t n = (q : Node) → parent n ≡ Some q → is_dir (t q) ≡ true

-- a child of the node is not empty
abbrev pub HoldsChild : Holding → Node → Type 0
HoldsChild t n = (p : Node) × (parent p ≡ Some n) × (is_empty (t p) ≡ false)

pub not_both : (b : Bool) → b ≡ true → b ≡ false → ⊥
not_both true e f = cc (f)
not_both false e f = cc (e)

-- no path is its own child
child_apart : (p n : Node) → parent p ≡ Some n → same_path p n ≡ false
child_apart p n e = go (same_path p n) (same_path_is p n) (parent_apart n p e)
  where
    go : (b : Bool) → (b ≡ true → p ≡ n) → same_path n p ≡ false → b ≡ false
    go false h apart = refl
    go true h apart = absurd (not_both (same_path n p) (same_path_at n p (sym (h refl))) apart)

-- a changed tree is a tree where the new value is below a directory, and nothing is below it unless it is one itself
pub put_tree : (t : Holding) (n : Node) (v : Value) → IsTree t → (is_empty v ≡ false → IsBelowDir t n) → (is_dir v ≡ false → HoldsChild t n → ⊥) → IsTree (put t n v)
put_tree t n v tree up down q p e full = go (same_path p n) refl
  where
    at_node : p ≡ n → is_dir (put t n v q) ≡ true
    at_node is =
        let f : is_empty v ≡ false = sym (ap is_empty (ap (put t n v) is ∙ put_here t n v)) ∙ full in
        let above : parent n ≡ Some q = sym (ap parent is) ∙ e in
        ap is_dir (put_apart t n v q (parent_apart q n above)) ∙ up f q above

    over_node : is_empty (t p) ≡ false → (b : Bool) → same_path q n ≡ b → is_dir (put t n v q) ≡ true
    over_node f false s = ap is_dir (put_apart t n v q s) ∙ tree q p e f
    over_node f true s = let is : q ≡ n = same_path_is q n s in kind (is_dir v) refl is
      where
        kind : (b : Bool) → is_dir v ≡ b → q ≡ n → is_dir (put t n v q) ≡ true
        kind true k is = ap is_dir (ap (put t n v) is ∙ put_here t n v) ∙ k
        kind false k is = absurd (down k (p, e ∙ ap Some is, f))

    go : (b : Bool) → same_path p n ≡ b → is_dir (put t n v q) ≡ true
    go true s = at_node (same_path_is p n s)
    go false s = over_node (sym (ap is_empty (put_apart t n v p s)) ∙ full) (same_path q n) refl

pub below_from_put : (t : Holding) (n : Node) (v : Value) → IsTree (put t n v) → is_empty v ≡ false → IsBelowDir t n
below_from_put t n v tree full q e = sym (ap is_dir (put_apart t n v q (parent_apart q n e))) ∙ tree q n e (ap is_empty (put_here t n v) ∙ full)

pub none_from_put : (t : Holding) (n : Node) (v : Value) → IsTree (put t n v) → is_dir v ≡ false → HoldsChild t n → ⊥
none_from_put t n v tree flat (p, up, full) =
    not_both (is_dir v)
    (sym (ap is_dir (put_here t n v)) ∙ tree n p up (ap is_empty (put_apart t n v p (child_apart p n up)) ∙ full))
    flat
