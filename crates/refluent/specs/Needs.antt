-- What a log needs of a tree that takes it, and where two logs disagree.
use Rattle.std.specs.Prelude.{Bool, true, false, not, ◌&&◌, ◌||◌, List, Option, Some, None}
use Rattle.sync_path.specs.Paths.{Node, parent}
use Rattle.sync_command.specs.declared.values.Value.{Value}
use Rattle.sync_command.specs.Values.{is_empty, is_dir, same_value}
use Rattle.sync_command.specs.Changes.{Change}
use Rattle.sync_command.specs.Trees.{command_at}
use Rattle.canon_set.specs.Logs.{names, touches}
use Rattle.canon_set.specs.Leaving.{above, leaves}

-- anything, a directory with any label, or just this value
pub data Need : Type 0 where
  Anything : Need
  AnyDirectory : Need
  Exactly : Value → Need

-- the first old value at a touched node, and a directory at an untouched node above a touched one
abbrev pub need_by : Option Change → Bool → Need
need_by (Some touch) is_above = Exactly touch.old
need_by None true = AnyDirectory
need_by None false = Anything

-- what a log needs at a node
abbrev pub need : List Change → Node → Need
need log p = need_by (command_at (touches log) p) (above log p)

-- a value meets a need
abbrev pub meets : Need → Value → Bool
meets Anything v = true
meets AnyDirectory v = is_dir v
meets (Exactly w) v = same_value w v

-- only non-empty values meet the need
abbrev pub needs_non_empty : Need → Bool
needs_non_empty Anything = false
needs_non_empty AnyDirectory = true
needs_non_empty (Exactly v) = not (is_empty v)

-- no value meets both needs
abbrev pub are_incompatible : Need → Need → Bool
are_incompatible Anything m = false
are_incompatible AnyDirectory Anything = false
are_incompatible AnyDirectory AnyDirectory = false
are_incompatible AnyDirectory (Exactly w) = not (is_dir w)
are_incompatible (Exactly v) Anything = false
are_incompatible (Exactly v) AnyDirectory = not (is_dir v)
are_incompatible (Exactly v) (Exactly w) = not (same_value v w)

-- the log leaves the parent, where there is one
abbrev pub leaves_parent : List Change → Option Node → Bool
leaves_parent log None = false
leaves_parent log (Some q) = leaves log q

-- the log does not touch the node and leaves its parent, so that nothing may be at the node
abbrev pub needs_absent : List Change → Node → Bool
needs_absent log n = not (names log n) && leaves_parent log (parent n)

-- the first log needs something non-empty at the node, and the second needs it absent
abbrev pub are_opposed : List Change → List Change → Node → Bool
are_opposed log other n = needs_non_empty (need log n) && needs_absent other n

-- two logs disagree at a node
abbrev pub disagree : List Change → List Change → Node → Bool
disagree log other n =
    are_incompatible (need log n) (need other n) || (are_opposed log other n || are_opposed other log n)
