use Rattle.std.proofs.Common.{◌≡◌, ◌≤◌}
use Rattle.std.specs.List.{flat_map}
use Rattle.sync_command.specs.Maps.{stored}
use Rattle.sync_drill.specs.BaseTrees.{numbers_from, root_makes}
use Rattle.sync_drill.proofs.Planting.{roots_made}
use Rattle.sync_drill.proofs.base.plant_roots.Given as goal

-- the roots that are left make the whole
abbrev pub invariant-roots : goal.invariant-roots
invariant-roots l = record {
  within : l.root ≤ l.count;
  tree : roots_made l.tree l.root l.count ≡ stored l.initial.tree (flat_map root_makes (numbers_from 0 l.count));
}
