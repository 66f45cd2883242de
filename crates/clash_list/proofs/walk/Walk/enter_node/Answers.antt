use Rattle.clash_list.proofs.Walking.{node_left}
use Rattle.clash_list.proofs.walk.Walk.enter_node.Goals as goal

pub returns-clause-left : goal.returns-clause-left
returns-clause-left c = node_left c.args.self.now.joint.now c.args.node c.every_log-self.result.items c.args.self.now.rights.items c.every_log-self.ensures
