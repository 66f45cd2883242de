use Rattle.std.proofs.Common.{arith, rules, inl, inr, refl}
use Rattle.treesync.specs.Explain.{reason_lines}
use Rattle.treesync.specs.Outputs.{ReasonLines, text_in}
use Rattle.treesync.specs.declared.writing.WriteFault.TheVariants.{Failed, Memory}
use Rattle.treesync.proofs.WritingLemmas.{lines_cut, lines_printed}
use Rattle.treesync.proofs.report.print_reasons.Goals as goal

pub returns-in-Ok-clause-prints : goal.returns-in-Ok-clause-prints
returns-in-Ok-clause-prints g c = (
  inl (inl (refl, c.in-Ok.ensures.faults.done)),
  lines_printed (g.O.Sink.sink c.args.out.now) (g.O.Sink.sink c.print_reason_lines.new.out) 0 (text_in (ReasonLines (reason_lines c.args.explained.now.0 c.args.explained.now.1))) c.in-Ok.field-0 c.in-Ok.ensures.contents,
)

pub returns-in-Err-Failed-clause-prints : goal.returns-in-Err-Failed-clause-prints
returns-in-Err-Failed-clause-prints g c = (
  inl (inr (refl, c.in-Err-Failed.ensures.faults.failed (search rules))),
  lines_cut (g.O.Sink.sink c.args.out.now) (g.O.Sink.sink c.print_reason_lines.new.out) 4 (text_in (ReasonLines (reason_lines c.args.explained.now.0 c.args.explained.now.1))) Failed (omega arith) c.in-Err-Failed.ensures.contents,
)

pub returns-in-Err-Memory-clause-prints : goal.returns-in-Err-Memory-clause-prints
returns-in-Err-Memory-clause-prints g c = (
  inr (refl, c.in-Err-Memory.ensures.faults.memory (search rules)),
  lines_cut (g.O.Sink.sink c.args.out.now) (g.O.Sink.sink c.print_reason_lines.new.out) 16 (text_in (ReasonLines (reason_lines c.args.explained.now.0 c.args.explained.now.1))) Memory (omega arith) c.in-Err-Memory.ensures.contents,
)
