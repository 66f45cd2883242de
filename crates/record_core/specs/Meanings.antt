-- What an operation of a script means on a tree: a list of commands, or the first reason that refuses it.
use Rattle.std.specs.Prelude.{nat_lt, Bool, true, false, not, ◌&&◌, ◌||◌, List, [], ◌∷◌, ◌++◌, length, map, if◌then◌else◌, Option, Some, None, Result, Ok, Err}
use Rattle.std.specs.List.{filter, list_any}
use Rattle.std.specs.FinMap as finite
use Rattle.sync_path.specs.declared.names.TheConstants.{MAX_NAMES}
use Rattle.sync_path.specs.Paths.{Node, parent, moved, is_under, same_path}
use Rattle.sync_command.specs.declared.values.Value.{Value}
use Rattle.sync_command.specs.declared.values.Value.TheVariants as value
use Rattle.sync_command.specs.declared.values.Version.{Version}
use Rattle.sync_command.specs.Values.{is_dir, is_empty, is_of_version, same_value}
use Rattle.sync_command.specs.Changes.{Change}
use Rattle.sync_command.specs.Maps.{Store, at}
use Rattle.sync_command.specs.Trees.{Holding}
use Rattle.record_core.specs.declared.faults.Why.{Why}
use Rattle.record_core.specs.declared.faults.Why.TheVariants.{Missing, Exists, NoParent, IsDir, NotEmpty, Inside, TooDeep, NotDir, Labelled}
use Rattle.record_core.specs.declared.ops.Op.{Op}
use Rattle.record_core.specs.declared.ops.Op.TheVariants.{Mkdir, Put, Del, Deltree, Move, Copy, Label}

-- ---- a tree, as what each path holds and the nodes that are not empty, in path order

pub record Nodes : Type 0 where
  pub held : Holding
  pub full : List Node

abbrev pub nodes_of : Store → Nodes
nodes_of m = record { held = at m; full = finite.keys m }

-- ---- tests on a tree

abbrev pub is_dir_or_none : Holding → Option Node → Bool
is_dir_or_none t None = true
is_dir_or_none t (Some q) = is_dir (t q)

-- the path has a parent, and that is no directory
abbrev pub lacks_parent : Nodes → Node → Bool
lacks_parent s p = not (is_dir_or_none s.held (parent p))

-- the node and all that is under it, in path order
abbrev pub subtree : Nodes → Node → List Node
subtree s p = filter (λ n. same_path n p || is_under n p) s.full

abbrev pub is_child_of : Node → Option Node → Bool
is_child_of p None = false
is_child_of p (Some q) = same_path q p

abbrev pub has_child : Nodes → Node → Bool
has_child s p = list_any (λ n. is_child_of p (parent n)) s.full

-- ---- commands

-- from the value that is held to this one; none where they are equal
abbrev pub to_value : Nodes → Node → Value → List Change
to_value s p v = if same_value (s.held p) v then [] else record { node = p; old = s.held p; new = v } ∷ []

-- the node is emptied
abbrev pub emptied : Holding → Node → Change
emptied t n = record { node = n; old = t n; new = value.Empty }

-- what the node holds is made at its moved path
abbrev pub copied : Holding → Node → Node → Node → Change
copied t p q n = record { node = moved n p q; old = value.Empty; new = t n }

abbrev pub backwards : {A : Type 0} → List A → List A
backwards [] = []
backwards (x ∷ xs) = backwards xs ++ x ∷ []

-- the nodes of the subtree are emptied, in descending order
abbrev pub subtree_emptied : Nodes → Node → List Change
subtree_emptied s p = map (emptied s.held) (backwards (subtree s p))

-- the nodes of the subtree are made at their moved paths, in ascending order
abbrev pub subtree_copied : Nodes → Node → Node → List Change
subtree_copied s p q = map (copied s.held p q) (subtree s p)

-- the commands of an operation
abbrev pub commands_of : Nodes → Op → List Change
commands_of s (Mkdir p) = to_value s p (value.Dir [])
commands_of s (Put p bytes) = to_value s p (value.File bytes)
commands_of s (Del p) = to_value s p value.Empty
commands_of s (Label p label) = to_value s p (value.Dir label)
commands_of s (Deltree p) = subtree_emptied s p
commands_of s (Copy p q) = subtree_copied s p q
commands_of s (Move p q) = subtree_copied s p q ++ subtree_emptied s p

-- ---- refusals

-- a reason, and whether it applies
abbrev pub Test : Type 0
Test = Bool × Why

abbrev pub is_too_deep : Nodes → Node → Node → Bool
is_too_deep s p q = list_any (λ n. nat_lt MAX_NAMES (length (moved n p q))) (subtree s p)

-- the reasons of `copy` and `move`: those of the two places, and last the depth
abbrev pub place_tests : Nodes → Node → Node → List Test
place_tests s p q =
    (is_empty (s.held p), Missing) ∷
    (is_under q p, Inside) ∷
    (not (is_empty (s.held q)), Exists) ∷
    (lacks_parent s q, NoParent) ∷ []

abbrev pub copy_tests : Nodes → Node → Node → List Test
copy_tests s p q = place_tests s p q ++ (is_too_deep s p q, TooDeep) ∷ []

-- the reasons of each operation, in the order in which they are looked for
abbrev pub tests : Nodes → Op → List Test
tests s (Mkdir p) = (not (is_empty (s.held p)), Exists) ∷ (lacks_parent s p, NoParent) ∷ []
tests s (Put p bytes) = (is_dir (s.held p), IsDir) ∷ (lacks_parent s p, NoParent) ∷ []
tests s (Del p) = (is_empty (s.held p), Missing) ∷ (has_child s p, NotEmpty) ∷ []
tests s (Label p label) = (is_empty (s.held p), Missing) ∷ (not (is_dir (s.held p)), NotDir) ∷ []
tests s (Deltree p) = (is_empty (s.held p), Missing) ∷ []
tests s (Copy p q) = copy_tests s p q
tests s (Move p q) = copy_tests s p q

-- the command has a label that texts of this version lack
abbrev pub has_foreign_label : Version → Change → Bool
has_foreign_label version c = not (is_of_version version c.old && is_of_version version c.new)

abbrev pub is_labelled : Version → List Change → Bool
is_labelled version cs = list_any (has_foreign_label version) cs

abbrev pub first_that_applies : List Test → Option Why
first_that_applies [] = None
first_that_applies (test ∷ rest) = if test.0 then Some test.1 else first_that_applies rest

-- the commands, unless one of the tests applies, or last of all a label is foreign to the version
abbrev pub unless : Option Why → Version → List Change → Result (List Change) Why
unless None version cs = if is_labelled version cs then Err Labelled else Ok cs
unless (Some why) version cs = Err why

-- the meaning of an operation on a tree
abbrev pub meaning : Version → Nodes → Op → Result (List Change) Why
meaning version s op = unless (first_that_applies (tests s op)) version (commands_of s op)
