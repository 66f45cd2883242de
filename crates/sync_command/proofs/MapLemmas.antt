-- Finite maps seen through what they hold at each path, and what keeps them trees.
use Rattle.std.proofs.Common.{◌≡◌, Bool, true, false, ◌||◌, cond, List, [], ◌∷◌, Option, Some, None, refl, sym, ap, ◌∙◌, subst, arith}
use mathlib.Core.Path.{fun_ext}
use Rattle.std.specs.Prelude.{if◌then◌else◌}
use Rattle.std.specs.Ordering.{eq_by_cmp}
use Rattle.std.specs.FinMap as map
use Rattle.std.specs.FinMap.{get-empty, get-insert, get-remove, same_map}
use Rattle.sync_path.specs.Order.{path_cmp_exact, path_cmp_total}
use Rattle.sync_path.specs.Paths.{Node, path_cmp, same_path}
use Rattle.sync_path.proofs.CallerLemmas.{lists, same_path_is}
use Rattle.sync_command.specs.Changes.{Change}
use Rattle.sync_command.specs.Maps.{IsTreeMap, Store, at, store, stored, value_or_empty}
use Rattle.sync_command.specs.Trees.{Holding, IsApplicable, IsTree, Takes, put, result_of}
use Rattle.sync_command.specs.Values.{is_empty}
use Rattle.sync_command.specs.declared.values.Value.{Value}
use Rattle.sync_command.specs.declared.values.Value.TheVariants.{Empty}
use Rattle.sync_command.proofs.ValueLemmas.{empty_is}

-- ---- what a map holds

at-store_at : (m : Store) (n : Node) (v : Value) (p : Node) → at (store m n v) p ≡ put (at m) n v p
unfolding same_path
at-store_at m n v p = go (is_empty v) (empty_is v)
  where
    some_held : (b : Bool) (o : Option Value) → value_or_empty (cond b (Some v) o) ≡ if b then v else value_or_empty o
    some_held true o = refl
    some_held false o = refl

    none_held : v ≡ Empty → (b : Bool) (o : Option Value) → value_or_empty (cond b None o) ≡ if b then v else value_or_empty o
    none_held is true o = sym is
    none_held is false o = refl

    go : (b : Bool) → (b ≡ true → v ≡ Empty) → at (if b then map.remove m n else map.insert m n v) p ≡ put (at m) n v p
    go true is = ap value_or_empty (get-remove path_cmp_total m n p) ∙ none_held (is refl) (eq_by_cmp path_cmp p n) (map.get m p)
    go false is = ap value_or_empty (get-insert path_cmp_total m n v p) ∙ some_held (eq_by_cmp path_cmp p n) (map.get m p)

-- once a value is stored at a node
pub at-store : (m : Store) (n : Node) (v : Value) → at (store m n v) ≡ put (at m) n v
at-store m n v = fun_ext (at-store_at m n v)

-- after a list of commands
pub at-stored : (m : Store) (cs : List Change) → at (stored m cs) ≡ result_of (at m) cs
at-stored m [] = refl
at-stored m (c ∷ cs) = at-stored (store m c.node c.new) cs ∙ ap (λ t. result_of t cs) (at-store m c.node c.new)

-- two trees that hold the same at each path are equal
pub same_store : (m n : Store) → IsTreeMap m → IsTreeMap n → ((p : Node) → at m p ≡ at n p) → m ≡ n
same_store m n tm tn same = same_map path_cmp_total path_cmp_exact m n (λ p. go (map.get m p) (map.get n p) (tm.full p) (tn.full p) (same p))
  where
    go : (o r : Option Value) → (o ≡ Some Empty → ⊥) → (r ≡ Some Empty → ⊥) → value_or_empty o ≡ value_or_empty r → o ≡ r
    go None None f g e = refl
    go None (Some v) f g e = absurd (g (ap Some (sym e)))
    go (Some v) None f g e = absurd (f (ap Some e))
    go (Some v) (Some w) f g e = ap Some e

-- ---- maps that store no Empty

pub full_store : (m : Store) (n : Node) (v : Value) → ((p : Node) → map.get m p ≡ Some Empty → ⊥) → (p : Node) → map.get (store m n v) p ≡ Some Empty → ⊥
full_store m n v full p e = go (is_empty v) refl e
  where
    removed : (b : Bool) (o : Option Value) → (o ≡ Some Empty → ⊥) → cond b None o ≡ Some Empty → ⊥
    removed b o h e = grind arith

    inserted : (b : Bool) (o : Option Value) (w : Value) → is_empty w ≡ false → (o ≡ Some Empty → ⊥) → cond b (Some w) o ≡ Some Empty → ⊥
    inserted b o w some h e = grind arith

    go : (b : Bool) → is_empty v ≡ b → map.get (if b then map.remove m n else map.insert m n v) p ≡ Some Empty → ⊥
    go true is e = removed _ _ (full p) (sym (get-remove path_cmp_total m n p) ∙ e)
    go false is e = inserted _ _ v is (full p) (sym (get-insert path_cmp_total m n v p) ∙ e)

pub full_stored : (m : Store) (cs : List Change) → ((p : Node) → map.get m p ≡ Some Empty → ⊥) → (p : Node) → map.get (stored m cs) p ≡ Some Empty → ⊥
full_stored m [] full = full
full_stored m (c ∷ cs) full = full_stored (store m c.node c.new) cs (full_store m c.node c.new full)

-- ---- maps that stay trees

-- a value that leaves a tree
pub kept_put : (m : Store) (n : Node) (v : Value) → IsTreeMap m → IsTree (put (at m) n v) → IsTreeMap (store m n v)
kept_put m n v h t = record {
  full = full_store m n v h.full;
  tree = subst IsTree (sym (at-store m n v)) t;
}

-- an applicable command
pub kept_tree : (m : Store) (c : Change) → IsTreeMap m → IsApplicable (at m) c → IsTreeMap (store m c.node c.new)
kept_tree m c h a = kept_put m c.node c.new h a.tree

-- a list that the tree takes
pub kept_trees : (m : Store) (cs : List Change) → IsTreeMap m → Takes (at m) cs → IsTreeMap (stored m cs)
kept_trees m [] h t = h
kept_trees m (c ∷ cs) h t = kept_trees (store m c.node c.new) cs (kept_tree m c h t.0) (subst (λ l. Takes l cs) (sym (at-store m c.node c.new)) t.1)

-- the empty map
pub empty_tree : IsTreeMap map.empty
empty_tree = record {
  full = λ p e. never (sym (get-empty path_cmp p) ∙ e);
  tree = λ q n e full. absurd (no_value _ (get-empty path_cmp n) full);
}
  where
    never : ◌≡◌ {A = Option Value} None (Some Empty) → ⊥
    never e = cc

    no_value : (o : Option Value) → o ≡ None → is_empty (value_or_empty o) ≡ false → ⊥
    no_value None e h = cc
    no_value (Some v) e h = cc

-- ---- holdings that are maps

-- a holding at a list of nodes, as a finite map
pub store_of : List Node → Holding → Store
store_of [] u = map.empty
store_of (p ∷ ps) u = store (store_of ps u) p (u p)

at-store_of : (ps : List Node) (u : Holding) (p : Node) → at (store_of ps u) p ≡ if lists ps p then u p else Empty
unfolding store_of
at-store_of [] u p = ap value_or_empty (get-empty path_cmp p)
at-store_of (q ∷ ps) u p = ap (λ t. t p) (at-store (store_of ps u) q (u q)) ∙ go (same_path_is p q) (at-store_of ps u p)
  where
    go : (same_path p q ≡ true → p ≡ q) → at (store_of ps u) p ≡ (if lists ps p then u p else Empty) → put (at (store_of ps u)) q (u q) p ≡ if same_path p q || lists ps p then u p else Empty
    go is ih = grind (arith, ih)

full-store_of : (ps : List Node) (u : Holding) (p : Node) → map.get (store_of ps u) p ≡ Some Empty → ⊥
unfolding store_of
full-store_of [] u p e = let none : map.get (store_of [] u) p ≡ None = get-empty path_cmp p in cc (none, e)
full-store_of (q ∷ ps) u p e = full_store (store_of ps u) q (u q) (full-store_of ps u) p e

-- a tree that is empty outside a list of nodes is that of a finite map
pub finite_tree : (ps : List Node) (u : Holding) → IsTree u → ((p : Node) → lists ps p ≡ false → u p ≡ Empty) → (at (store_of ps u) ≡ u) × IsTreeMap (store_of ps u)
finite_tree ps u tree outside = (same, record { full = full-store_of ps u; tree = subst IsTree (sym same) tree })
  where
    choose : (b : Bool) (v : Value) → (b ≡ false → v ≡ Empty) → (if b then v else Empty) ≡ v
    choose true v f = refl
    choose false v f = sym (f refl)

    same : at (store_of ps u) ≡ u
    same = fun_ext (λ p. at-store_of ps u p ∙ choose (lists ps p) (u p) (outside p))
