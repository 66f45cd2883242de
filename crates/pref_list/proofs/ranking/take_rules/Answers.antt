use Rattle.pref_list.proofs.Rankings.{rules_more}
use Rattle.pref_list.proofs.ranking.take_rules.Goals as goal

pub rules-preserved : goal.rules-preserved
rules-preserved c = rules_more _ _ _ _ _ _ _ _ c.rules.invariant c.rules-test.true _ c.index-rules-at.is _ _ c.in-None.ensures c.in_ok-take_rule-in-None.ensures.seen c.in_ok-take_rule-in-None.ensures.taken
