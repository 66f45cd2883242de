use Rattle.std.proofs.Common.{inl, inr, refl}
use Rattle.treesync.proofs.WritingLemmas.{text_cut, text_printed}
use Rattle.treesync.proofs.report.print_text.Goals as goal

pub returns-in-Ok-clause-prints : goal.returns-in-Ok-clause-prints
returns-in-Ok-clause-prints g c = (
  inl (refl, c.in-Ok.ensures.faults.done),
  text_printed (g.O.Sink.sink c.args.out.now) (g.O.Sink.sink c.print.new.out) c.args.text.now tt c.in-Ok.ensures.contents,
)

pub returns-in-Err-clause-prints : goal.returns-in-Err-clause-prints
returns-in-Err-clause-prints g c = (
  inr (refl, c.in-Err.ensures.faults.failed),
  text_cut (g.O.Sink.sink c.args.out.now) (g.O.Sink.sink c.print.new.out) c.args.text.now _ c.in-Err.ensures.contents,
)
