use Rattle.std.proofs.Common.{arith}
use Rattle.pref_list.proofs.Within.{staged, bounds_in_order, taken_within}
use Rattle.pref_list.proofs.ranking.take_within.Goals as goal

pub bound-down_from-requires : goal.bound-down_from-requires
bound-down_from-requires c = staged _ _ _ (let n = c.depth-names.ensures.names in let s = c.depth-names.ensures.some in omega arith) c.commands_of-commands.ensures.order

pub bound-down_to-requires : goal.bound-down_to-requires
bound-down_to-requires c = staged _ _ _ (let n = c.depth-names.ensures.names in let s = c.depth-names.ensures.some in omega arith) c.commands_of-commands.ensures.order

pub bound-other_from-requires : goal.bound-other_from-requires
bound-other_from-requires c = staged _ _ _ (let n = c.depth-names.ensures.names in let s = c.depth-names.ensures.some in omega arith) c.commands_of-commands.ensures.order

pub bound-other_to-requires : goal.bound-other_to-requires
bound-other_to-requires c = staged _ _ _ (let n = c.depth-names.ensures.names in let s = c.depth-names.ensures.some in omega arith) c.commands_of-commands.ensures.order

pub take_range-requires-clause-order : goal.take_range-requires-clause-order
take_range-requires-clause-order c = (bounds_in_order _ _ _ _ _ _ _ c.bound-down_from.ensures c.bound-down_to.ensures c.bound-other_from.ensures c.bound-other_to.ensures).0

pub take_range-requires-2-clause-order : goal.take_range-requires-2-clause-order
take_range-requires-2-clause-order c = (bounds_in_order _ _ _ _ _ _ _ c.bound-down_from.ensures c.bound-down_to.ensures c.bound-other_from.ensures c.bound-other_to.ensures).1

pub returns-clause-taken : goal.returns-clause-taken
returns-clause-taken c = taken_within _ _ _ _ _ _ _ _ _ c.args.path.now c.args.wide c.commands_of-commands.result.now _ _ _ _ c.commands_of-commands.ensures.commands
    c.bound-down_from.ensures c.bound-down_to.ensures c.bound-other_from.ensures c.bound-other_to.ensures c.in_ok-take_range.ensures.taken c.in_ok-take_range-2.ensures.taken
