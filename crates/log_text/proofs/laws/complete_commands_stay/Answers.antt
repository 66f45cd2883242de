use Rattle.log_text.proofs.PieceLemmas.{complete_grows, log_complete}
use Rattle.log_text.proofs.laws.complete_commands_stay.Goals as goal

pub returns : goal.returns
returns c = record { prefix = complete_grows; whole = log_complete }
