use Rattle.std.proofs.Common.{◌+◌, ◌-◌, ◌/◌, arith, sym}
use Rattle.pref_list.proofs.Places.{above, below, found}
use Rattle.pref_list.proofs.nodes.find_node.Goals as goal

pub returns-in-Equal : goal.returns-in-Equal
returns-in-Equal c = record { none = tt; some = found c.args.joint.now.nodes c.args.path.now c.node.result.now (c.halving.low + (c.halving.high - c.halving.low) / 2) c.node.ensures (sym c.in-Equal.ensures) }

pub halving-preserved-in-Less : goal.halving-preserved-in-Less
halving-preserved-in-Less c =
    above c.args.joint.now.nodes c.requires c.args.path.now c.halving.low c.halving.high c.halving.invariant (c.halving.low + (c.halving.high - c.halving.low) / 2) (omega arith) (omega arith) c.node.result.now c.node.ensures (sym c.in-Less.ensures)

pub halving-preserved : goal.halving-preserved
halving-preserved c =
    below c.args.joint.now.nodes c.requires c.args.path.now c.halving.low c.halving.high c.halving.invariant (c.halving.low + (c.halving.high - c.halving.low) / 2) (omega arith) (omega arith) c.node.result.now c.node.ensures (sym c.in-Greater.ensures)
