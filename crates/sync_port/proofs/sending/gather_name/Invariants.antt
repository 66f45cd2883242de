use Rattle.std.proofs.Common.{◌≡◌, ◌++◌}
use Rattle.percent_encoding.specs.Iter.{encoded_text}
use Rattle.sync_path.specs.Escapes.{escaped}
use Rattle.sync_port.specs.States.{IfKnown}
use Rattle.sync_port.specs.Sending.{Passes}
use Rattle.sync_port.proofs.sending.gather_name.Given as goal

abbrev pub invariant-pieces : goal.invariant-pieces
invariant-pieces g l = record {
  faults : (g.O.Sink.sink l.sink).faults ≡ (g.O.Sink.sink l.fn.sink).faults;
  passes : IfKnown (g.O.Sink.sink l.fn.sink) (g.O.Sink.sink l.sink)
      (Passes (l.fn.gathered.bytes ++ escaped l.name) (l.gathered.bytes ++ encoded_text l.piece-iterator));
}
