use Rattle.pref_list.proofs.Staging.{same_is}
use Rattle.pref_list.proofs.stages.is_same.Goals as goal

pub returns : goal.returns
returns c = same_is _ _ _ c.same.ensures
