use Rattle.merge_core.proofs.PrerequisiteLaws.{prerequisites_law}
use Rattle.merge_core.proofs.laws.drawn_set_fits_by_its_parts.Goals as goal

pub returns : goal.returns
returns c = prerequisites_law
