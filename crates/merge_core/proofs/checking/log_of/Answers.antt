use Rattle.merge_core.proofs.NetPicks.{none_without_node}
use Rattle.merge_core.proofs.checking.log_of.Goals as goal

pub returns-in-None : goal.returns-in-None
returns-in-None c = none_without_node c.args.joint.now c.logs-logs.ensures.joint c.args.command.now c.path.result.now c.path.ensures c.in-None.ensures.none
