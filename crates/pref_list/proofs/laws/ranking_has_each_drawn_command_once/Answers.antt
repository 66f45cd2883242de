use Rattle.pref_list.proofs.RankingLaws.{ranking_drawn, drawn_ranked, ranked_once}
use Rattle.pref_list.proofs.laws.ranking_has_each_drawn_command_once.Goals as goal

pub returns-clause-once : goal.returns-clause-once
returns-clause-once c = ranked_once

pub returns-clause-each : goal.returns-clause-each
returns-clause-each c = λ logs rules. (ranking_drawn logs rules, drawn_ranked logs rules)
