use Rattle.std.proofs.Common.{ap, Err}
use Rattle.rounds.specs.declared.faults.ComposeFault.TheVariants.{NoFollow}
use Rattle.rounds.proofs.Adding.{all_sets, handed_on, next_set, stops_at}
use Rattle.rounds.proofs.composing.compose.Goals as goal

pub returns-in_err-add_set-clause-stops : goal.returns-in_err-add_set-clause-stops
returns-in_err-add_set-clause-stops c = λ number node e.
    let here = c.in_err-add_set.ensures.stops _ number node c.sets.invariant (ap Err (handed_on c.from_residual.result c.in_err-add_set.field-0.0 (NoFollow number node) e c.from_residual.ensures.1)) in
    stops_at c.args.sets.now c.sets.place number c.index-sets-place.result node c.sets-test.true c.index-sets-place.is here.0 here.1

pub sets-preserved : goal.sets-preserved
sets-preserved c = next_set c.add_set.new.sum c.args.sets.now c.sets.place c.index-sets-place.result c.sets-test.true c.index-sets-place.is (c.in_ok-add_set.ensures.ok _ c.sets.invariant)

pub returns-clause-taken : goal.returns-clause-taken
returns-clause-taken c = (all_sets c.sets.sum c.args.sets.now c.sets.place c.sets-test.false c.sets.invariant).taken
