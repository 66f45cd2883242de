use Rattle.explain_core.proofs.Explaining.{shown_law}
use Rattle.explain_core.proofs.laws.shown_reason_bars_its_command.Goals as goal

pub returns : goal.returns
returns c = shown_law
