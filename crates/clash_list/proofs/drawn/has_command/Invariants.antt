use Rattle.std.proofs.Common.{◌≡◌, false, take}
use Rattle.std.specs.List.{list_any}
use Rattle.clash_list.specs.DrawnAt.{picked, is_same_as}
use Rattle.clash_list.proofs.drawn.has_command.Given as goal

abbrev pub invariant-picks : goal.invariant-picks
invariant-picks l = list_any (is_same_as l.command) (picked l.joint.sets (take l.pick-index l.picks)) ≡ false
