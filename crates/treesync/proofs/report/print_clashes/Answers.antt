use Rattle.std.proofs.Common.{arith, rules, inl, inr, refl}
use Rattle.treesync.specs.Conflicts.{clash_lines}
use Rattle.treesync.specs.Outputs.{ClashLines, text_in}
use Rattle.treesync.specs.declared.writing.WriteFault.TheVariants.{Failed, Memory}
use Rattle.treesync.proofs.WritingLemmas.{lines_cut, lines_printed}
use Rattle.treesync.proofs.report.print_clashes.Goals as goal

pub returns-in-Ok-clause-prints : goal.returns-in-Ok-clause-prints
returns-in-Ok-clause-prints g c = (
  inl (inl (c.clash_status.ensures (clash_lines c.args.joint.now) c.in-Ok.ensures.number, c.in-Ok.ensures.faults.done)),
  lines_printed (g.O.Sink.sink c.args.out.now) (g.O.Sink.sink c.print_lines.new.out) c.clash_status.result (text_in (ClashLines (clash_lines c.args.joint.now))) c.in-Ok.number c.in-Ok.ensures.contents,
)

pub returns-in-Err-Failed-clause-prints : goal.returns-in-Err-Failed-clause-prints
returns-in-Err-Failed-clause-prints g c = (
  inl (inr (refl, c.in-Err-Failed.ensures.faults.failed (search rules))),
  lines_cut (g.O.Sink.sink c.args.out.now) (g.O.Sink.sink c.print_lines.new.out) 4 (text_in (ClashLines (clash_lines c.args.joint.now))) Failed (omega arith) c.in-Err-Failed.ensures.contents,
)

pub returns-in-Err-Memory-clause-prints : goal.returns-in-Err-Memory-clause-prints
returns-in-Err-Memory-clause-prints g c = (
  inr (refl, c.in-Err-Memory.ensures.faults.memory (search rules)),
  lines_cut (g.O.Sink.sink c.args.out.now) (g.O.Sink.sink c.print_lines.new.out) 16 (text_in (ClashLines (clash_lines c.args.joint.now))) Memory (omega arith) c.in-Err-Memory.ensures.contents,
)
