use Rattle.record_core.proofs.SealLaws.{done_is_sealed}
use Rattle.record_core.proofs.laws.what_was_done_is_sealed.Goals as goal

pub returns : goal.returns
returns c = done_is_sealed
