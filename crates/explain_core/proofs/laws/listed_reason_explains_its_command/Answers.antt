use Rattle.explain_core.proofs.Explaining.{explain_law}
use Rattle.explain_core.proofs.laws.listed_reason_explains_its_command.Goals as goal

pub returns : goal.returns
returns c = λ j logs stands. explain_law j logs stands c.conflicts_tell_what_can_be_taken.ensures
