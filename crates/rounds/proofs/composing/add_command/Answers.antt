use Rattle.std.proofs.Common.{[], ◌∷◌, ◌++◌, subst}
use Rattle.canon_set.specs.Sums.{StandsFor}
use Rattle.rounds.proofs.composing.add_command.Goals as goal

pub returns-in-Ok-clause-ok : goal.returns-in-Ok-clause-ok
returns-in-Ok-clause-ok c = λ cs st. subst (λ x. StandsFor c.add.new.self (cs ++ x ∷ [])) c.in_ok-copy.ensures (c.in-Ok.ensures.ok cs st)
