use Rattle.std.proofs.Common.{◌-◌}
use Rattle.pref_list.proofs.Places.{IsBetween}
use Rattle.pref_list.proofs.nodes.find_node.Given as goal

abbrev pub invariant-halving : goal.invariant-halving
invariant-halving l = IsBetween l.joint.nodes l.path l.low l.high

abbrev pub decreases-halving : goal.decreases-halving
decreases-halving l = l.high - l.low
