use Rattle.transition.proofs.TransitionLaws.{transition_fits}
use Rattle.transition.proofs.laws.transition_leads_to_the_merger.Goals as goal

pub returns : goal.returns
returns c = λ logs change m common log among merger part fits. transition_fits _ _ merger fits
