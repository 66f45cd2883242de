use Rattle.refluent.proofs.Incompatible.{incompatible_law}
use Rattle.refluent.proofs.laws.incompatible_needs_share_no_value.Goals as goal

pub returns : goal.returns
returns c = incompatible_law
