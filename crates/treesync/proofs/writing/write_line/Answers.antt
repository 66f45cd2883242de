use Rattle.std.proofs.Common.{◌++◌}
use Rattle.std.proofs.lemmas.Result.{err_from_is_err_and}
use Rattle.log_text.specs.Frame.{ended}
use Rattle.treesync.specs.Conflicts.{clash_text}
use Rattle.treesync.proofs.WritingLemmas.{line_wanted}
use Rattle.treesync.proofs.writing.write_line.Goals as goal

pub returns-in_err-push_clash-clause-contents : goal.returns-in_err-push_clash-clause-contents
returns-in_err-push_clash-clause-contents g c =
    let p = err_from_is_err_and c.from_residual.result c.from_residual.ensures.1 in
    rw p.1 (line_wanted (g.O.Sink.sink c.args.out.now) (c.args.block.now.items ++ ended (clash_text c.args.joint.now.nodes c.args.clash)) c.push_clash.new.line.items p.0)
