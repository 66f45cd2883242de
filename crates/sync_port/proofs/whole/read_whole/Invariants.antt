use Rattle.std.proofs.Common.{◌≡◌, ◌≤◌, vec_len, ◌+◌, ◌-◌}
use Rattle.sync_port.specs.States.{IfKnown}
use Rattle.sync_port.proofs.Pieces.{HasRead}
use Rattle.sync_port.proofs.whole.read_whole.Given as goal

abbrev pub invariant-pieces : goal.invariant-pieces
invariant-pieces g l = record {
  within : vec_len l.whole ≤ l.limit + 1;
  faults : (g.F.Files.files l.files).faults ≡ (g.F.Files.files l.fn.files).faults;
  read : IfKnown (g.F.Files.files l.fn.files) (g.F.Files.files l.files) (HasRead l.name l.whole.items);
}

abbrev pub decreases-pieces : goal.decreases-pieces
decreases-pieces g l = l.limit + 1 - vec_len l.whole
