use Rattle.std.proofs.Common.{◌≡◌, take}
use Rattle.std.specs.List.{flat_map}
use Rattle.transition.specs.Parts.{undone}
use Rattle.transition.proofs.transitions.undo.Given as goal

abbrev pub invariant-net : goal.invariant-net
invariant-net l = l.commands.items ≡ flat_map (undone l.merger) (take l.command-index l.net)
