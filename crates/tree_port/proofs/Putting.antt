-- When a map with a value put at a node is a tree, and what the calls of a tree do to it.
use Rattle.std.proofs.Common.{◌≡◌, Bool, true, false, List, ℕ, Some, Result, Ok, Err, refl, sym, ap, subst, ◌∙◌, inl, inr}
use mathlib.Core.Path.{fun_ext}
use Rattle.std.specs.Prelude.{if◌then◌else◌}
use Rattle.sync_path.specs.Paths.{Node, parent, same_path}
use Rattle.sync_path.proofs.CallerLemmas.{parent_apart, same_path_comm, same_path_is}
use Rattle.sync_command.specs.declared.values.Value.{Value}
use Rattle.sync_command.specs.declared.values.Value.TheVariants.{Empty, Dir, File}
use Rattle.sync_command.specs.Values.{is_dir, is_empty, kind_of}
use Rattle.sync_command.specs.declared.values.Kind.{Kind}
use Rattle.sync_command.specs.declared.values.Kind.TheVariants as kind
use Rattle.sync_command.specs.Maps.{IsTreeMap, Store, at, store}
use Rattle.sync_command.specs.Trees.{Holding, IsTree, put}
use Rattle.sync_command.proofs.CallerLemmas.{at-store, full_from_dir, kept_put, put_apart, put_here, same_store}
use Rattle.apply_model.specs.Parents.{IsBelowDir}
use Rattle.tree_port.specs.Calls.{Puts}
use Rattle.tree_port.specs.Conditions.{CanMake, CanPut, CanRemove, HasNoChild}
use Rattle.tree_port.specs.declared.faults.TreeFault.{TreeFault}
use Rattle.tree_port.specs.declared.faults.TreeFault.TheVariants.{Failed, Denied, Memory}

put_same : (t : Holding) (n : Node) → put t n (t n) ≡ t
put_same t n = fun_ext (λ p. go p (same_path p n) (same_path_is p n))
  where
    go : (p : Node) (b : Bool) → (b ≡ true → p ≡ n) → (if b then t n else t p) ≡ t p
    go p true is = ap t (sym (is refl))
    go p false is = refl

-- a value put where it is held changes nothing
pub put_held : (m : Store) (n : Node) (v : Value) → IsTreeMap m → at m n ≡ v → IsTree (put (at m) n v) × (m ≡ store m n v)
put_held m n v tree is = (stays, same_store m (store m n v) tree (kept_put m n v tree stays) (λ p. sym (ap (λ t. t p) (at-store m n v ∙ same))))
  where
    same : put (at m) n v ≡ at m
    same = subst (λ u. put (at m) n u ≡ at m) is (put_same (at m) n)

    stays : IsTree (put (at m) n v)
    stays = subst IsTree (sym same) tree.tree

-- ---- the conditions of the calls

no_both : (b : Bool) → b ≡ true → b ≡ false → ⊥
no_both b e f = cc

-- a changed tree is a tree where the new value is below a directory, and what is no directory has no children
pub put_tree : (t : Holding) (n : Node) (v : Value) → IsTree t → (is_empty v ≡ false → IsBelowDir t n) → (is_dir v ≡ false → HasNoChild t n) → IsTree (put t n v)
put_tree t n v tree below childless q p e full = go (same_path p n) (same_path q n) refl refl
  where
    other : same_path p n ≡ false → is_empty (t p) ≡ false
    other s = sym (ap is_empty (put_apart t n v p s)) ∙ full

    go : (a b : Bool) → same_path p n ≡ a → same_path q n ≡ b → is_dir (put t n v q) ≡ true
    go true b s u = let is : p ≡ n = same_path_is p n s in
        let up : parent n ≡ Some q = sym (ap parent is) ∙ e in
        let f : is_empty v ≡ false = sym (ap is_empty (ap (put t n v) is ∙ put_here t n v)) ∙ full in
        ap is_dir (put_apart t n v q (parent_apart q n up)) ∙ below f q up
    go false false s u = ap is_dir (put_apart t n v q u) ∙ tree q p e (other s)
    go false true s u = let is : q ≡ n = same_path_is q n u in kind (is_dir v) refl (ap (put t n v) is ∙ put_here t n v) (e ∙ ap Some is)
      where
        kind : (b : Bool) → is_dir v ≡ b → put t n v q ≡ v → parent p ≡ Some n → is_dir (put t n v q) ≡ true
        kind true k held up = ap is_dir held ∙ k
        kind false k held up = absurd (no_both (is_empty (t p)) (childless k p up) (other s))

pub below_from_put : (t : Holding) (n : Node) (v : Value) → IsTree (put t n v) → is_empty v ≡ false → IsBelowDir t n
below_from_put t n v tree full q e = sym (ap is_dir (put_apart t n v q (parent_apart q n e))) ∙ tree q n e (ap is_empty (put_here t n v) ∙ full)

pub childless_from_put : (t : Holding) (n : Node) (v : Value) → IsTree (put t n v) → is_dir v ≡ false → HasNoChild t n
childless_from_put t n v tree flat p e = go (is_empty (t p)) refl
  where
    go : (b : Bool) → is_empty (t p) ≡ b → b ≡ true
    go true h = refl
    go false h = absurd (no_both (is_dir v) (sym (ap is_dir (put_here t n v)) ∙ tree n p e (ap is_empty (put_apart t n v p (same_path_comm p n ∙ parent_apart n p e)) ∙ h)) flat)

pub childless_flat : (t : Holding) (n : Node) → IsTree t → is_dir (t n) ≡ false → HasNoChild t n
childless_flat t n tree flat p e = go (is_empty (t p)) refl
  where
    go : (b : Bool) → is_empty (t p) ≡ b → b ≡ true
    go true h = refl
    go false h = absurd (no_both (is_dir (t n)) (tree n p e h) flat)

pub can_put : (m : Store) (n : Node) (b : List ℕ) → IsTreeMap m → is_dir (at m n) ≡ false → (IsTree (put (at m) n (File b)) → CanPut (at m) n) × (CanPut (at m) n → IsTree (put (at m) n (File b)))
can_put m n b tree flat = (
  λ t. record { no_dir = flat; below = below_from_put (at m) n (File b) t refl },
  λ can. put_tree (at m) n (File b) tree.tree (λ _. can.below) (λ _. childless_flat (at m) n tree.tree flat),
)

pub can_make : (m : Store) (n : Node) (l : List ℕ) → IsTreeMap m → is_empty (at m n) ≡ true → (IsTree (put (at m) n (Dir l)) → CanMake (at m) n) × (CanMake (at m) n → IsTree (put (at m) n (Dir l)))
can_make m n l tree nothing = (
  λ t. record { free = nothing; below = below_from_put (at m) n (Dir l) t refl },
  λ can. put_tree (at m) n (Dir l) tree.tree (λ _. can.below) (λ flat. absurd (no_both true refl flat)),
)

pub can_label : (m : Store) (n : Node) (l : List ℕ) → IsTreeMap m → is_dir (at m n) ≡ true → (IsTree (put (at m) n (Dir l)) → is_dir (at m n) ≡ true) × (is_dir (at m n) ≡ true → IsTree (put (at m) n (Dir l)))
can_label m n l tree dir = (
  λ t. dir,
  λ can. put_tree (at m) n (Dir l) tree.tree (λ _ q e. tree.tree q n e (full_from_dir (at m n) dir)) (λ flat. absurd (no_both true refl flat)),
)

pub can_remove : (m : Store) (n : Node) → IsTreeMap m → is_empty (at m n) ≡ false → (IsTree (put (at m) n Empty) → CanRemove (at m) n) × (CanRemove (at m) n → IsTree (put (at m) n Empty))
can_remove m n tree full = (
  λ t. record { full = full; last = childless_from_put (at m) n Empty t refl },
  λ can. put_tree (at m) n Empty tree.tree (λ some. absurd (no_both true refl some)) (λ _. can.last),
)

-- a call's condition in other words
pub puts_by : (A B : Type 0) (p : Node) (v : Value) (r : Result (Unit {0}) TreeFault) (m n : Store) → (A → B) × (B → A) → Puts A p v r m n → Puts B p v r m n
puts_by A B p v (Ok x) m n f h = (f.0 h.0, h.1)
puts_by A B p v (Err Failed) m n f (inl same) = inl same
puts_by A B p v (Err Failed) m n f (inr (a, is)) = inr (f.0 a, is)
puts_by A B p v (Err Denied) m n f h = (λ b. h.0 (f.1 b), h.1)
puts_by A B p v (Err Memory) m n f h = h

flat_kind : (v : Value) (k : Kind) → k ≡ kind_of v → (k ≡ kind.Dir → ⊥) → is_dir v ≡ false
flat_kind Empty k e h = refl
flat_kind (Dir l) k e h = absurd (h e)
flat_kind (File b) k e h = refl

gone_kind : (v : Value) (k : Kind) → k ≡ kind_of v → k ≡ kind.Empty → is_empty v ≡ true
gone_kind Empty k e h = refl
gone_kind (Dir l) k e h = cc
gone_kind (File b) k e h = cc

dir_kind : (v : Value) (k : Kind) → k ≡ kind_of v → k ≡ kind.Dir → is_dir v ≡ true
dir_kind Empty k e h = cc
dir_kind (Dir l) k e h = refl
dir_kind (File b) k e h = cc

full_kind : (v : Value) (k : Kind) → k ≡ kind_of v → (k ≡ kind.Empty → ⊥) → is_empty v ≡ false
full_kind Empty k e h = absurd (h e)
full_kind (Dir l) k e h = refl
full_kind (File b) k e h = refl

pub file_put : (m n : Store) (p : Node) (b x : List ℕ) (k : Kind) (r : Result (Unit {0}) TreeFault) → k ≡ kind_of (at m p) → (k ≡ kind.Dir → ⊥) → x ≡ b → IsTreeMap m →
    Puts (IsTree (put (at m) p (File x))) p (File x) r m n → Puts (CanPut (at m) p) p (File b) r m n
file_put m n p b x k r e h same tree puts = puts_by _ _ p (File b) r m n (can_put m p b tree (flat_kind (at m p) k e h)) (subst (λ y. Puts (IsTree (put (at m) p (File y))) p (File y) r m n) same puts)

pub dir_made : (m n : Store) (p : Node) (b x : List ℕ) (k : Kind) (r : Result (Unit {0}) TreeFault) → k ≡ kind_of (at m p) → k ≡ kind.Empty → x ≡ b → IsTreeMap m →
    Puts (IsTree (put (at m) p (Dir x))) p (Dir x) r m n → Puts (CanMake (at m) p) p (Dir b) r m n
dir_made m n p b x k r e h same tree puts = puts_by _ _ p (Dir b) r m n (can_make m p b tree (gone_kind (at m p) k e h)) (subst (λ y. Puts (IsTree (put (at m) p (Dir y))) p (Dir y) r m n) same puts)

pub label_set : (m n : Store) (p : Node) (b x : List ℕ) (k : Kind) (r : Result (Unit {0}) TreeFault) → k ≡ kind_of (at m p) → k ≡ kind.Dir → x ≡ b → IsTreeMap m →
    Puts (IsTree (put (at m) p (Dir x))) p (Dir x) r m n → Puts (is_dir (at m p) ≡ true) p (Dir b) r m n
label_set m n p b x k r e h same tree puts = puts_by _ _ p (Dir b) r m n (can_label m p b tree (dir_kind (at m p) k e h)) (subst (λ y. Puts (IsTree (put (at m) p (Dir y))) p (Dir y) r m n) same puts)

pub node_removed : (m n : Store) (p : Node) (k : Kind) (r : Result (Unit {0}) TreeFault) → k ≡ kind_of (at m p) → (k ≡ kind.Empty → ⊥) → IsTreeMap m →
    Puts (IsTree (put (at m) p Empty)) p Empty r m n → Puts (CanRemove (at m) p) p Empty r m n
node_removed m n p k r e h tree puts = puts_by _ _ p Empty r m n (can_remove m p tree (full_kind (at m p) k e h)) puts
