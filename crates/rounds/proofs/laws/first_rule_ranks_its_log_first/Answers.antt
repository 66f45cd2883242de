use Rattle.rounds.proofs.Ranked.{first_log_first, ruled_log_first}
use Rattle.rounds.proofs.laws.first_rule_ranks_its_log_first.Goals as goal

pub returns-clause-none : goal.returns-clause-none
returns-clause-none c = first_log_first

pub returns-clause-all : goal.returns-clause-all
returns-clause-all c = ruled_log_first
