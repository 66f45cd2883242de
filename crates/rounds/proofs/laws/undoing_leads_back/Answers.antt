use Rattle.rounds.proofs.Undoing.{undo_law}
use Rattle.rounds.proofs.laws.undoing_leads_back.Goals as goal

pub returns : goal.returns
returns c = undo_law
