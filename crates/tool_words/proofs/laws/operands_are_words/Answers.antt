use Rattle.tool_words.proofs.InPlace.{job_in_place}
use Rattle.tool_words.proofs.laws.operands_are_words.Goals as goal

pub returns : goal.returns
returns c = job_in_place
