use Rattle.record_core.proofs.SealLaws.{not_both}
use Rattle.record_core.proofs.laws.sealed_list_does_not_diverge.Goals as goal

pub returns : goal.returns
returns c = not_both
