-- A set with one command per node fits a tree exactly where the tree takes its canonical list.
use Rattle.std.proofs.Common.{◌≡◌, true, false, List, [], ◌∷◌, Some, refl, sym, ◌∙◌, arith}
use Rattle.std.specs.List.{list_all}
use Rattle.sync_path.specs.Paths.{Node, comes_before, same_path}
use Rattle.sync_path.proofs.CallerLemmas.{before_asym, both, parent_apart, parent_before, same_path_at, same_path_comm, same_path_is}
use Rattle.sync_command.specs.Changes.{Change, goes_before, is_canonical}
use Rattle.sync_command.specs.Trees.{Fits, Holding, IsTree, Takes, after, command_at, one_each, put, result_of}
use Rattle.sync_command.specs.Values.{is_dir, is_empty}
use Rattle.sync_command.proofs.SetLemmas.{command_at-node, here, list_all-at}
use Rattle.sync_command.proofs.TreeLemmas.{same_tree, tree-result_of}

-- the first command of a canonical list keeps the parent of n right
first_step_at : (t : Holding) (c : Change) (cs : List Change) (q n : Node) → comes_before q n ≡ true → comes_before n q ≡ false → same_path q n ≡ false → same_path n q ≡ false →
    (is_empty (t n) ≡ false → is_dir (t q) ≡ true) →
    (is_empty (after (c ∷ cs) t n) ≡ false → is_dir (after (c ∷ cs) t q) ≡ true) →
    t c.node ≡ c.old →
    ((d : Change) → command_at cs n ≡ Some d → (n ≡ d.node) × (goes_before c d ≡ true)) →
    ((d : Change) → command_at cs q ≡ Some d → (q ≡ d.node) × (goes_before c d ≡ true)) →
    is_empty (put t c.node c.new n) ≡ false → is_dir (put t c.node c.new q) ≡ true
first_step_at t c cs q n low up apart apart' tree tree' old at_n at_q full = grind (arith, same_path_is, same_path_at)

before_all : (c : Change) (cs : List Change) → list_all (goes_before c) cs ≡ true → (p : Node) (d : Change) → command_at cs p ≡ Some d → (p ≡ d.node) × (goes_before c d ≡ true)
before_all c cs all p d e = (command_at-node cs p d e, list_all-at (goes_before c) cs all p d e)

-- the first command of a canonical list that fits is applicable
pub first_step : (t : Holding) (c : Change) (cs : List Change) → IsTree t → Fits t (c ∷ cs) → list_all (goes_before c) cs ≡ true → IsTree (put t c.node c.new)
first_step t c cs tree fits all q n e full =
    first_step_at t c cs q n low (before_asym q n low) apart (same_path_comm n q ∙ apart) (tree q n e) (fits.tree q n e)
    (fits.olds c.node c (here c cs)) (before_all c cs all n) (before_all c cs all q) full
  where
    low : comes_before q n ≡ true
    low = parent_before q n e

    apart : same_path q n ≡ false
    apart = parent_apart q n e

-- what is left when the first command is done has the same result
pub after_first : (t : Holding) (c : Change) (cs : List Change) → one_each (c ∷ cs) ≡ true → (p : Node) → after cs (put t c.node c.new) p ≡ after (c ∷ cs) t p
after_first t c cs one p = grind (arith, same_path_is, same_path_at)

olds_first : (t : Holding) (c : Change) (cs : List Change) → one_each (c ∷ cs) ≡ true → (p : Node) (d : Change) → (command_at (c ∷ cs) p ≡ Some d → t p ≡ d.old) → command_at cs p ≡ Some d → put t c.node c.new p ≡ d.old
olds_first t c cs one p d h e = grind (arith, same_path_is, same_path_at)

pub rest_fits : (t : Holding) (c : Change) (cs : List Change) → Fits t (c ∷ cs) → Fits (put t c.node c.new) cs
rest_fits t c cs fits = record {
  one = (both _ _ fits.one).1;
  olds = λ p d e. olds_first t c cs fits.one p d (fits.olds p d) e;
  tree = same_tree _ _ (λ p. sym (after_first t c cs fits.one p)) fits.tree;
}

-- A tree takes the canonical list of a set that fits it, with the set's result.
pub fits_takes : (t : Holding) (cs : List Change) → IsTree t → is_canonical cs ≡ true → Fits t cs → Takes t cs
fits_takes t [] tree order fits = tt
fits_takes t (c ∷ cs) tree order fits =
    let parts : (list_all (goes_before c) cs ≡ true) × (is_canonical cs ≡ true) = both _ _ order in
    let next : IsTree (put t c.node c.new) = first_step t c cs tree fits parts.0 in
    (record { old = fits.olds c.node c (here c cs); tree = next }, fits_takes (put t c.node c.new) cs next parts.1 (rest_fits t c cs fits))

-- in any order, the result of a list that names each node once has all the new values
pub result_once : (t : Holding) (cs : List Change) → one_each cs ≡ true → (p : Node) → result_of t cs p ≡ after cs t p
result_once t [] one p = refl
result_once t (c ∷ cs) one p = result_once (put t c.node c.new) cs (both _ _ one).1 p ∙ after_first t c cs one p

olds_once : (t : Holding) (cs : List Change) → one_each cs ≡ true → Takes t cs → (p : Node) (d : Change) → command_at cs p ≡ Some d → t p ≡ d.old
olds_once t [] one takes p d e = cc
olds_once t (c ∷ cs) one takes p d e = step (olds_once (put t c.node c.new) cs (both _ _ one).1 takes.1 p d) takes.0.old one e
  where
    step : (command_at cs p ≡ Some d → put t c.node c.new p ≡ d.old) → t c.node ≡ c.old → one_each (c ∷ cs) ≡ true → command_at (c ∷ cs) p ≡ Some d → t p ≡ d.old
    step ih old one e = grind (arith, same_path_is, same_path_at)

-- A set with one command per node fits a tree that takes it, in whatever order.
pub takes_fits : (t : Holding) (cs : List Change) → IsTree t → one_each cs ≡ true → Takes t cs → Fits t cs
takes_fits t cs tree one takes = record {
  one = one;
  olds = olds_once t cs one takes;
  tree = same_tree _ _ (result_once t cs one) (tree-result_of t cs tree takes);
}
