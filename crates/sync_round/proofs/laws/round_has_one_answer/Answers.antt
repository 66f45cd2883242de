use Rattle.sync_round.proofs.KnownRounds.{one_answer}
use Rattle.sync_round.proofs.laws.round_has_one_answer.Goals as goal

pub returns : goal.returns
returns c = one_answer
