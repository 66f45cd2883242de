use Rattle.treesync.specs.Conflicts.{clash_lines}
use Rattle.treesync.specs.Outputs.{ClashLines, text_in}
use Rattle.treesync.specs.declared.writing.WriteFault.TheVariants.{Failed}
use Rattle.treesync.proofs.WritingLemmas.{flush_failed}
use Rattle.treesync.proofs.report.print_lines.Goals as goal

pub returns-in-Err-clause-contents : goal.returns-in-Err-clause-contents
returns-in-Err-clause-contents g c =
    flush_failed (g.O.Sink.sink c.args.out.now) (g.O.Sink.sink c.write_clashes.new.out) (g.O.Sink.sink c.flush.new.self) (text_in (ClashLines (clash_lines c.args.joint.now))) c.in_ok-number.number _ Failed
    c.in_ok-number.ensures.contents c.in-Err.ensures.contents
