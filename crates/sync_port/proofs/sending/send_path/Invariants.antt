use Rattle.std.proofs.Common.{◌≡◌, ◌++◌, drop}
use Rattle.sync_path.specs.Paths.{path_text}
use Rattle.sync_port.specs.States.{IfKnown}
use Rattle.sync_port.specs.Sending.{Passes}
use Rattle.sync_port.proofs.Gathering.{text_after}
use Rattle.sync_port.proofs.sending.send_path.Given as goal

abbrev pub invariant-names : goal.invariant-names
invariant-names g l = record {
  faults : (g.O.Sink.sink l.sink).faults ≡ (g.O.Sink.sink l.fn.sink).faults;
  passes : IfKnown (g.O.Sink.sink l.fn.sink) (g.O.Sink.sink l.sink) (Passes (path_text l.path) (l.gathered.bytes ++ text_after (drop l.place l.path)));
}
