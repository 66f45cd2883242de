use Rattle.treesync.specs.Explain.{reason_lines}
use Rattle.treesync.specs.Outputs.{ReasonLines, text_in}
use Rattle.treesync.specs.declared.writing.WriteFault.TheVariants.{Failed}
use Rattle.treesync.proofs.WritingLemmas.{flush_failed}
use Rattle.treesync.proofs.report.print_reason_lines.Goals as goal

pub returns-in-Err-clause-contents : goal.returns-in-Err-clause-contents
returns-in-Err-clause-contents g c =
    flush_failed (g.O.Sink.sink c.args.out.now) (g.O.Sink.sink c.write_reasons.new.out) (g.O.Sink.sink c.flush.new.self) (text_in (ReasonLines (reason_lines c.args.explained.now.0 c.args.explained.now.1))) c.in_ok-number.number _ Failed
    c.in_ok-number.ensures.contents c.in-Err.ensures.contents
