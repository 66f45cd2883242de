use Rattle.std.proofs.Common.{◌≡◌, ◌+◌, ◌++◌, length}
use Rattle.std.specs.List.{concat}
use Rattle.sync_port.specs.States.{IfKnown}
use Rattle.sync_port.specs.Sending.{Passes}
use Rattle.treesync.specs.Explain.{reason_lines_of}
use Rattle.treesync.proofs.reason_lines.write_lines.Given as goal

abbrev pub invariant-reasons : goal.invariant-reasons
invariant-reasons g l = record {
  faults : (g.O.Sink.sink l.out).faults ≡ (g.O.Sink.sink l.fn.out).faults;
  count : l.count + length l.reasons ≡ length l.fn.reasons;
  passes : IfKnown (g.O.Sink.sink l.fn.out) (g.O.Sink.sink l.out)
      (Passes (l.fn.block.items ++ concat (reason_lines_of l.joint.nodes l.fn.reasons)) (l.block.items ++ concat (reason_lines_of l.joint.nodes l.reasons)));
}

abbrev pub decreases-reasons : goal.decreases-reasons
decreases-reasons g l = length l.reasons
