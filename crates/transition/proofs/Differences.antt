-- The differences of two holdings lead from one to the other.
use Rattle.std.proofs.Common.{◌≡◌, Bool, true, false, not, ◌&&◌, List, [], ◌∷◌, Option, Some, None, refl, sym, ap, ◌∙◌, arith}
use Rattle.std.specs.Prelude.{if◌then◌else◌}
use Rattle.sync_path.specs.Paths.{Node, same_path}
use Rattle.sync_path.proofs.CallerLemmas.{lists, same_path_is, same_path_at}
use Rattle.sync_command.specs.Changes.{Change}
use Rattle.sync_command.specs.Trees.{Holding, IsTree, command_at, new_or, after, one_each, Fits}
use Rattle.sync_command.specs.Values.{same_value}
use Rattle.sync_command.proofs.CallerLemmas.{same_tree, same_value_is}
use Rattle.transition.specs.Transitions.{change_between, differences}

abbrev pub difference_at : Holding → Holding → List Node → Node → Option Change
difference_at u v ps p = if lists ps p && not (same_value (u p) (v p)) then Some (change_between u v p) else None

pub command_at-differences : (u v : Holding) (ps : List Node) (p : Node) → command_at (differences u v ps) p ≡ difference_at u v ps p
command_at-differences u v [] p = refl
command_at-differences u v (q ∷ ps) p = go (same_path_is p q) (same_path_at p q) (command_at-differences u v ps p) (command_at-differences u v ps q)
  where
    go : (same_path p q ≡ true → p ≡ q) → (p ≡ q → same_path p q ≡ true) → command_at (differences u v ps) p ≡ difference_at u v ps p → command_at (differences u v ps) q ≡ difference_at u v ps q →
        command_at (differences u v (q ∷ ps)) p ≡ difference_at u v (q ∷ ps) p
    go is at here there = grind arith

pub one_each-differences : (u v : Holding) (ps : List Node) → one_each (differences u v ps) ≡ true
one_each-differences u v [] = refl
one_each-differences u v (q ∷ ps) = go (one_each-differences u v ps)
  where
    go : one_each (differences u v ps) ≡ true → one_each (differences u v (q ∷ ps)) ≡ true
    go ih = grind arith

-- From one holding to a tree that is the same outside the paths, the differences fit and lead there.
pub differences_fit : (u v : Holding) (ps : List Node) → IsTree v → ((p : Node) → lists ps p ≡ false → u p ≡ v p) → Fits u (differences u v ps) × ((p : Node) → after (differences u v ps) u p ≡ v p)
differences_fit u v ps tree outside = (
  record {
    one = one_each-differences u v ps;
    olds = λ n c e. old_at n c (lists ps n && not (same_value (u n) (v n))) (sym (command_at-differences u v ps n) ∙ e);
    tree = same_tree v _ (λ p. sym (same p)) tree;
  },
  same,
)
  where
    old_at : (n : Node) (c : Change) (b : Bool) → (if b then Some (change_between u v n) else None) ≡ Some c → u n ≡ c.old
    old_at n c true e = ap (λ x. x.old) (some_is e)
      where
        some_is : Some (change_between u v n) ≡ Some c → change_between u v n ≡ c
        some_is e = cc
    old_at n c false e = cc (e)

    same : (p : Node) → after (differences u v ps) u p ≡ v p
    same p = ap (λ o. new_or o (u p)) (command_at-differences u v ps p) ∙ go (lists ps p) (outside p) (same_value (u p) (v p)) (same_value_is (u p) (v p))
      where
        go : (b : Bool) → (b ≡ false → u p ≡ v p) → (s : Bool) → (s ≡ true → u p ≡ v p) → new_or (if b && not s then Some (change_between u v p) else None) (u p) ≡ v p
        go false f s g = f refl
        go true f true g = g refl
        go true f false g = refl
