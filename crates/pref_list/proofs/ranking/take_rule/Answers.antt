use Rattle.std.proofs.Common.{subst, sym}
use Rattle.std.specs.Prelude.{OnOk}
use Rattle.pref_list.specs.Ranking.{expansion}
use Rattle.pref_list.specs.Orders.{TakesAll}
use Rattle.pref_list.proofs.ranking.take_rule.Goals as goal

pub returns-in-At-clause-taken : goal.returns-in-At-clause-taken
returns-in-At-clause-taken c = subst (λ r. OnOk c.take_within.result (TakesAll c.args.joint.now.sets c.args.numbers.now.picks.items c.args.order.now.seen.items c.args.order.now.picks.items c.take_within.new.order.seen.items c.take_within.new.order.picks.items (expansion c.args.joint.now.sets r))) (sym c.in-At.is) c.take_within.ensures.taken

pub returns-in-Under-clause-taken : goal.returns-in-Under-clause-taken
returns-in-Under-clause-taken c = subst (λ r. OnOk c.take_within-in-Under.result (TakesAll c.args.joint.now.sets c.args.numbers.now.picks.items c.args.order.now.seen.items c.args.order.now.picks.items c.take_within-in-Under.new.order.seen.items c.take_within-in-Under.new.order.picks.items (expansion c.args.joint.now.sets r))) (sym c.in-Under.is) c.take_within-in-Under.ensures.taken
