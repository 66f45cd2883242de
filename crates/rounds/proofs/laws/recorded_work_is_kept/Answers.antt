use Rattle.rounds.proofs.Rebased.{work_law}
use Rattle.rounds.proofs.laws.recorded_work_is_kept.Goals as goal

pub returns : goal.returns
returns c = work_law
