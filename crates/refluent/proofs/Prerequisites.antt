-- A set whose old values a tree holds fits it exactly where it has one command per node, its prerequisites and no clash.
use Rattle.std.proofs.Common.{◌≡◌, Bool, true, false, List, Option, Some, None, refl, sym, ap, ◌∙◌, arith}
use Rattle.refluent.specs.Prerequisites.{HoldsPrerequisites}
use Rattle.sync_command.specs.Changes.{Change}
use Rattle.sync_command.specs.Trees.{Holding, IsTree, command_at, new_or, after, one_each, Fits}
use Rattle.sync_command.specs.Values.{is_empty, is_dir}
use Rattle.sync_command.specs.declared.values.Value.{Value}
use Rattle.sync_command.specs.declared.values.Value.TheVariants.{Empty, Dir, File}
use Rattle.sync_path.specs.Paths.{Node, parent}

-- no command leaves a node other than a directory while another leaves a child of it non-empty
abbrev pub LeavesNoChild : List Change → Type 0
LeavesNoChild cs = (q n : Node) (d c : Change) → parent n ≡ Some q → command_at cs q ≡ Some d → command_at cs n ≡ Some c → is_dir d.new ≡ false → is_empty c.new ≡ true

dir_not_empty : (v : Value) → is_dir v ≡ true → is_empty v ≡ false
dir_not_empty Empty e = cc
dir_not_empty (Dir l) e = refl
dir_not_empty (File b) e = refl

-- the result at a path where the set has, or has not, a command
pub after_some : (t : Holding) (cs : List Change) (p : Node) (c : Change) → command_at cs p ≡ Some c → after cs t p ≡ c.new
after_some t cs p c e = ap (λ o. new_or o (t p)) e

pub after_none : (t : Holding) (cs : List Change) (p : Node) → command_at cs p ≡ None → after cs t p ≡ t p
after_none t cs p e = ap (λ o. new_or o (t p)) e

tree_at : (v w : Value) (o p : Option Change) →
    (is_empty v ≡ false → is_dir w ≡ true) →
    ((c : Change) → o ≡ Some c → v ≡ c.old) → ((d : Change) → p ≡ Some d → w ≡ d.old) →
    ((c : Change) → o ≡ Some c → is_empty c.old ≡ true → is_empty c.new ≡ false → is_dir w ≡ false → (d : Change) × (p ≡ Some d) × (is_dir d.new ≡ true)) →
    ((d : Change) → p ≡ Some d → is_dir d.old ≡ true → is_dir d.new ≡ false → is_empty v ≡ false → (c : Change) × (o ≡ Some c) × (is_empty c.new ≡ true)) →
    ((d c : Change) → p ≡ Some d → o ≡ Some c → is_dir d.new ≡ false → is_empty c.new ≡ true) →
    is_empty (new_or o v) ≡ false → is_dir (new_or p w) ≡ true
tree_at v w None None tree olds olds' makes clears apart full = tree full
tree_at v w (Some c) None tree olds olds' makes clears apart full = go (makes c refl) (olds c refl) full
  where
    go : (is_empty c.old ≡ true → is_empty c.new ≡ false → is_dir w ≡ false → (d : Change) × (None ≡ Some d) × (is_dir d.new ≡ true)) → v ≡ c.old → is_empty c.new ≡ false → is_dir w ≡ true
    go makes old full = grind arith
tree_at v w None (Some d) tree olds olds' makes clears apart full = go (clears d refl) (olds' d refl) (tree full) full
  where
    go : (is_dir d.old ≡ true → is_dir d.new ≡ false → is_empty v ≡ false → (c : Change) × (None ≡ Some c) × (is_empty c.new ≡ true)) → w ≡ d.old → is_dir w ≡ true → is_empty v ≡ false → is_dir d.new ≡ true
    go clears old dir full = grind arith
tree_at v w (Some c) (Some d) tree olds olds' makes clears apart full = go (apart d c refl refl) full
  where
    go : (is_dir d.new ≡ false → is_empty c.new ≡ true) → is_empty c.new ≡ false → is_dir d.new ≡ true
    go apart full = grind arith

-- A set of commands whose old values a tree holds fits it exactly where it has one command per node, holds the prerequisites of each member and has no clash.
pub fits_from_parts : (t : Holding) (cs : List Change) → IsTree t → one_each cs ≡ true → ((n : Node) (c : Change) → command_at cs n ≡ Some c → t n ≡ c.old) →
    HoldsPrerequisites t cs → LeavesNoChild cs → Fits t cs
fits_from_parts t cs tree one olds pre apart = record {
  one = one;
  olds = olds;
  tree = λ q n e. tree_at (t n) (t q) (command_at cs n) (command_at cs q) (tree q n e) (olds n) (olds q) (λ c. pre.makes q n c e) (λ d. pre.clears q n d e) (λ d c. apart q n d c e);
}

makes_at : (w : Value) (p : Option Change) → is_dir w ≡ false → is_dir (new_or p w) ≡ true → (d : Change) × (p ≡ Some d) × (is_dir d.new ≡ true)
makes_at w None not_so so = cc
makes_at w (Some d) not_so so = (d, refl, so)

clears_at : (v : Value) (o : Option Change) → is_empty v ≡ false → is_empty (new_or o v) ≡ true → (c : Change) × (o ≡ Some c) × (is_empty c.new ≡ true)
clears_at v None not_so so = cc
clears_at v (Some c) not_so so = (c, refl, so)

turned : (a b : Bool) → (a ≡ false → b ≡ true) → b ≡ false → a ≡ true
turned a b h e = grind arith

pub fits_prerequisites : (t : Holding) (cs : List Change) → IsTree t → Fits t cs → HoldsPrerequisites t cs
fits_prerequisites t cs tree fits = record {
  makes = λ q n c e at old new bare. makes_at (t q) (command_at cs q) bare (fits.tree q n e (ap is_empty (after_some t cs n c at) ∙ new));
  clears = λ q n d e at old new full. clears_at (t n) (command_at cs n) full (turned _ _ (fits.tree q n e) (ap is_dir (after_some t cs q d at) ∙ new));
}

pub fits_leaves_no_child : (t : Holding) (cs : List Change) → Fits t cs → LeavesNoChild cs
fits_leaves_no_child t cs fits q n d c e at at' shut = ap is_empty (sym (after_some t cs n c at')) ∙ turned _ _ (fits.tree q n e) (ap is_dir (after_some t cs q d at) ∙ shut)
