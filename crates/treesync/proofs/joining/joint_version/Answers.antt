use Rattle.std.proofs.Common.{add-one, arith, ◌∙◌}
use Rattle.treesync.proofs.JoinLemmas.{version_all, version_more}
use Rattle.treesync.proofs.joining.joint_version.Goals as goal

pub logs-preserved : goal.logs-preserved
logs-preserved c = λ reads h. rw (add-one, c.later_version-version.ensures)
    (version_more c.args.logs.now reads c.logs.log-index c.log-item.result c.logs.version h (omega arith) c.log-item.is ∙ c.logs.invariant reads h)

pub returns : goal.returns
returns c = λ reads h. version_all c.args.logs.now reads c.logs.log-index c.logs.version h (omega arith) (c.logs.invariant reads h)
