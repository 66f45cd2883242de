use Rattle.pref_list.proofs.Rankings.{ranking_is}
use Rattle.pref_list.proofs.ranking.rank.Goals as goal

pub returns-clause-ranked : goal.returns-clause-ranked
returns-clause-ranked c = ranking_is c.args.joint.now.sets c.in_ok-numbers.numbers.picks.items c.args.rules.now _ _ _ _ _ _ (c.in_ok-order.ensures.none c.args.joint.now.sets) c.in_ok-take_rules.ensures.taken c.in_ok-take_logs.ensures.taken
