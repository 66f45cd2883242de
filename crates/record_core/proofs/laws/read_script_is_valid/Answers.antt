use Rattle.record_core.proofs.ReadOps.{script_valid}
use Rattle.record_core.proofs.laws.read_script_is_valid.Goals as goal

pub returns : goal.returns
returns c = script_valid
