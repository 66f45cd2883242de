use Rattle.std.proofs.Common.{[], subst}
use Rattle.canon_set.specs.Sums.{StandsFor}
use Rattle.rounds.proofs.Composed.{canonical_stays}
use Rattle.rounds.proofs.composing.set_sum.Goals as goal

pub returns-in-Ok : goal.returns-in-Ok
returns-in-Ok c = subst (StandsFor c.add_set.new.sum) (canonical_stays c.args.set.now c.commands-commands.ensures.order) (c.in-Ok.ensures.ok [] c.new-sum.ensures.stands)
