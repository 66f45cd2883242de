use Rattle.merge_core.proofs.SteeringTexts.{steering_prefs, steering_back}
use Rattle.merge_core.proofs.laws.steering_rules_are_a_preference_list.Goals as goal

pub returns : goal.returns
returns c = record { limits = steering_prefs; read = steering_back }
