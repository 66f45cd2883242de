use Rattle.transition.proofs.TextSizes.{text_within}
use Rattle.transition.proofs.laws.text_is_no_longer_than_those_of_its_logs.Goals as goal

pub returns : goal.returns
returns c = λ version logs set some within. text_within (λ log. log.0) (λ log. log.1) logs some version set within
