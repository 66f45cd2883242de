-- The nodes of the tree that logs begin at, and how it is made.
use Rattle.std.proofs.Common.{◌≡◌, ◌∙◌, ◌<◌, ◌≤◌, ◌+◌, ◌-◌, refl, sym, ap, ap₂, ℕ, zero, suc, Bool, true, false, List, [], ◌∷◌, ◌++◌, map, length, Option, Some, None, Result, Ok, Err, nat_le, cond, arith}
use Rattle.std.specs.List.{flat_map}
use Rattle.std.specs.FinMap as finmap
use Rattle.sync_path.specs.Paths.{Node}
use Rattle.sync_path.specs.Reading.{child_of, name_fault, root_of, unless}
use Rattle.sync_path.specs.declared.faults.PathFault.{PathFault}
use Rattle.sync_path.specs.declared.faults.PathFault.TheVariants.{TooDeep}
use Rattle.sync_path.specs.declared.names.TheConstants.{MAX_NAMES}
use Rattle.sync_command.specs.declared.values.Value.{Value}
use Rattle.sync_command.specs.declared.values.Value.TheVariants.{Dir}
use Rattle.sync_command.specs.Changes.{Change}
use Rattle.sync_command.specs.Maps.{Store, store, stored}
use Rattle.sync_drill.specs.BaseTrees.{base_tree, child_make, child_path, child_value, numbers_from, root_makes, root_path}

-- ---- paths

named : (fault : Option PathFault) (names p : Node) → unless fault names ≡ Ok p → p ≡ names
named None names p e = cc
named (Some fault) names p e = absurd (cc)

-- the root that a name gives
pub root_named : (name : List ℕ) (p : Node) → root_of name ≡ Ok p → p ≡ name ∷ []
root_named name p e = named (name_fault name) (name ∷ []) p e

-- the child that a name gives
pub child_named : (q : Node) (name : List ℕ) (p : Node) → child_of q name ≡ Ok p → p ≡ q ++ name ∷ []
child_named q name p e = by (nat_le MAX_NAMES (length q)) e
  where
    by : (b : Bool) → cond b (Err TooDeep) (unless (name_fault name) (q ++ name ∷ [])) ≡ Ok p → p ≡ q ++ name ∷ []
    by true e = absurd (cc)
    by false e = named (name_fault name) (q ++ name ∷ []) p e

-- ---- numbers in turn

numbers_next : (i count : ℕ) → i < count → numbers_from i (count - i) ≡ i ∷ numbers_from (i + 1) (count - (i + 1))
unfolding numbers_from
numbers_next i count h = let e : count - i ≡ suc (count - (i + 1)) = omega (arith, h) in ap (numbers_from i) e

numbers_end : (i count : ℕ) → count ≤ i → numbers_from i (count - i) ≡ []
unfolding numbers_from
numbers_end i count h = let e : count - i ≡ 0 = omega (arith, h) in ap (numbers_from i) e

-- ---- nodes one after another

stored_append : (m : Store) (first rest : List Change) → stored m (first ++ rest) ≡ stored (stored m first) rest
stored_append m [] rest = refl
stored_append m (c ∷ first) rest = stored_append (store m c.node c.new) first rest

-- what the children from one on make of a tree
abbrev pub children_made : Store → ℕ → ℕ → ℕ → Store
children_made m root i count = stored m (map (child_make root) (numbers_from i (count - i)))

pub child_planted : (m n whole : Store) (root i count : ℕ) (p : Node) (v : Value) → i < count → p ≡ child_path root i → v ≡ child_value i → n ≡ store m p v
    → children_made m root i count ≡ whole → children_made n root (i + 1) count ≡ whole
child_planted m n whole root i count p v h path value is before =
    ap (λ x. children_made x root (i + 1) count) (is ∙ ap₂ (store m) path value)
    ∙ sym (ap (λ ns. stored m (map (child_make root) ns)) (numbers_next i count h)) ∙ before

pub children_planted : (m whole : Store) (root i count : ℕ) → count ≤ i → children_made m root i count ≡ whole → m ≡ whole
children_planted m whole root i count h before =
    sym (ap (λ ns. stored m (map (child_make root) ns)) (numbers_end i count h)) ∙ before

-- what the roots from one on make of a tree
abbrev pub roots_made : Store → ℕ → ℕ → Store
roots_made m i count = stored m (flat_map root_makes (numbers_from i (count - i)))

pub root_planted : (m n whole : Store) (i count : ℕ) → i < count → n ≡ stored m (root_makes i)
    → roots_made m i count ≡ whole → roots_made n (i + 1) count ≡ whole
root_planted m n whole i count h is before =
    ap (λ x. roots_made x (i + 1) count) is
    ∙ sym (stored_append m (root_makes i) (flat_map root_makes (numbers_from (i + 1) (count - (i + 1)))))
    ∙ sym (ap (λ ns. stored m (flat_map root_makes ns)) (numbers_next i count h)) ∙ before

pub roots_planted : (m whole : Store) (i count : ℕ) → count ≤ i → roots_made m i count ≡ whole → m ≡ whole
roots_planted m whole i count h before =
    sym (ap (λ ns. stored m (flat_map root_makes ns)) (numbers_end i count h)) ∙ before

-- a root, and then its children
pub root_with_children : (m n o : Store) (root : ℕ) (p : Node) (label : List ℕ) → p ≡ root_path root → label ≡ [] → n ≡ store m p (Dir label)
    → o ≡ stored n (map (child_make root) (numbers_from 0 16)) → o ≡ stored m (root_makes root)
root_with_children m n o root p label path none is made =
    made ∙ ap (λ x. stored x (map (child_make root) (numbers_from 0 16))) (is ∙ ap₂ (store m) path (ap Dir none))

-- the whole
pub base_is : (m n : Store) → m ≡ finmap.empty → n ≡ stored m (flat_map root_makes (numbers_from 0 64)) → n ≡ base_tree
unfolding base_tree
base_is m n none made = made ∙ ap (λ x. stored x (flat_map root_makes (numbers_from 0 64))) none
