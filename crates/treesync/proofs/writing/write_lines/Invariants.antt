use Rattle.std.proofs.Common.{◌≡◌, ◌+◌, ◌++◌, length}
use Rattle.std.specs.List.{concat}
use Rattle.sync_port.specs.States.{IfKnown}
use Rattle.sync_port.specs.Sending.{Passes}
use Rattle.treesync.specs.Conflicts.{lines_of}
use Rattle.treesync.proofs.writing.write_lines.Given as goal

abbrev pub invariant-clashes : goal.invariant-clashes
invariant-clashes g l = record {
  faults : (g.O.Sink.sink l.out).faults ≡ (g.O.Sink.sink l.fn.out).faults;
  count : l.count + length l.clashes ≡ length l.fn.clashes;
  passes : IfKnown (g.O.Sink.sink l.fn.out) (g.O.Sink.sink l.out)
      (Passes (l.fn.block.items ++ concat (lines_of l.joint.nodes l.fn.clashes)) (l.block.items ++ concat (lines_of l.joint.nodes l.clashes)));
}

abbrev pub decreases-clashes : goal.decreases-clashes
decreases-clashes g l = length l.clashes
