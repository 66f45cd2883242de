-- The state of a walk, by its fields.
use Rattle.std.specs.Prelude.{ℕ, List}
use Rattle.clash_list.specs.declared.clashes.Clash.{Clash}
use Rattle.clash_list.specs.declared.walk.Walk.{Walk}
use Rattle.clash_list.specs.Walks.{IsState, group_left, groups_left, walk_left, steps_left}

abbrev pub IsAt : Walk → Type 0
IsAt w = IsState w.joint.now w.node w.child w.lefts.items w.rights.items w.cursor.left w.cursor.right

-- what is still to come of the group that it is at, the node's other groups, and all that is to come
abbrev pub group_of : Walk → List Clash
group_of w = group_left w.node w.child w.lefts.items w.rights.items w.cursor.left w.cursor.right

abbrev pub groups_after : Walk → List Clash
groups_after w = groups_left w.joint.now w.node w.child w.lefts.items

abbrev pub left_of : Walk → List Clash
left_of w = walk_left w.joint.now w.node w.child w.lefts.items w.rights.items w.cursor.left w.cursor.right

abbrev pub steps_of : Walk → ℕ
steps_of w = steps_left w.joint.now w.node w.child
