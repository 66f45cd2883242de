use Rattle.std.proofs.Common.{rules, ◌≡◌, Err, sym, subst}
use Rattle.sync_port.specs.States.{IfKnown}
use Rattle.record_core.specs.Recording.{WritesLine}
use Rattle.record_core.proofs.OneCommand.{cut_at_flush}
use Rattle.record_core.proofs.stepping.write_line.Goals as goal

pub returns-in_err-flush-clause-contents : goal.returns-in_err-flush-clause-contents
returns-in_err-flush-clause-contents g c =
    let e : c.from_residual-in_err-flush.result ≡ Err c.in_err-flush.field-0.0 = search rules in
    subst (λ r. IfKnown (g.O.Sink.sink c.args.sink.now) (g.O.Sink.sink c.flush.new.self) (WritesLine c.args.line.now r)) (sym e)
    (cut_at_flush c.args.line.now _ _ _ _ _ c.in_ok-send.ensures.contents c.in_err-flush.ensures.contents)
