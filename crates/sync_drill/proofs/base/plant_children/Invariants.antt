use Rattle.std.proofs.Common.{◌≡◌, ◌≤◌, map}
use Rattle.sync_command.specs.Maps.{stored}
use Rattle.sync_drill.specs.BaseTrees.{child_make, numbers_from}
use Rattle.sync_drill.proofs.Planting.{children_made}
use Rattle.sync_drill.proofs.base.plant_children.Given as goal

-- the children that are left make the whole
abbrev pub invariant-children : goal.invariant-children
invariant-children l = record {
  within : l.child ≤ l.count;
  tree : children_made l.tree l.root l.child l.count ≡ stored l.initial.tree (map (child_make l.root) (numbers_from 0 l.count));
}
