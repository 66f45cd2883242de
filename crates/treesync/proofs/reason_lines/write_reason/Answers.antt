use Rattle.std.proofs.Common.{◌++◌}
use Rattle.std.proofs.lemmas.Result.{err_from_is_err_and}
use Rattle.log_text.specs.Frame.{ended}
use Rattle.treesync.specs.Explain.{reason_text}
use Rattle.treesync.proofs.WritingLemmas.{line_wanted}
use Rattle.treesync.proofs.reason_lines.write_reason.Goals as goal

pub returns-in_err-push_reason-clause-contents : goal.returns-in_err-push_reason-clause-contents
returns-in_err-push_reason-clause-contents g c =
    let p = err_from_is_err_and c.from_residual.result c.from_residual.ensures.1 in
    rw p.1 (line_wanted (g.O.Sink.sink c.args.out.now) (c.args.block.now.items ++ ended (reason_text c.args.joint.now.nodes c.args.reason.now)) c.push_reason.new.line.items p.0)
