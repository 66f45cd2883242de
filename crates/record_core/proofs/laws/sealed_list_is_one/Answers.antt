use Rattle.record_core.proofs.SealLaws.{only_one}
use Rattle.record_core.proofs.laws.sealed_list_is_one.Goals as goal

pub returns : goal.returns
returns c = only_one
