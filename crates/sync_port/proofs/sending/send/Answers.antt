use Rattle.std.proofs.Common.{rules, subst, Ok}
use Rattle.std.proofs.lemmas.List.{take_rest}
use Rattle.sync_port.specs.States.{IfKnown}
use Rattle.sync_port.specs.Ports.{Writes}
use Rattle.sync_port.proofs.Pieces.{sends_more}
use Rattle.sync_port.proofs.sending.send.Goals as goal

pub writes-preserved : goal.writes-preserved
writes-preserved g c = (
  search rules,
  search rules,
  sends_more _ (g.O.Sink.sink c.writes.sink).contents _ c.args.bytes.now c.writes.sent _ c.writes.invariant.2
      (subst (λ piece. IfKnown (g.O.Sink.sink c.writes.sink) (g.O.Sink.sink c.write.new.self) (Writes piece (Ok c.in_ok-sent.field-0))) (take_rest c.args.bytes.now c.writes.sent) c.in_ok-sent.ensures.contents),
)
