use Rattle.std.proofs.Common.{ap, Err}
use Rattle.rounds.specs.declared.faults.ComposeFault.TheVariants.{NoFollow}
use Rattle.rounds.proofs.Adding.{handed_on, next_command, stops_in, whole_set}
use Rattle.rounds.proofs.composing.add_set.Goals as goal

pub returns-in_err-add_command-clause-stops : goal.returns-in_err-add_command-clause-stops
returns-in_err-add_command-clause-stops c = λ cs place node st e.
    let here = c.in_err-add_command.ensures.stops _ place node (c.commands.invariant cs st) (ap Err (handed_on c.from_residual.result c.in_err-add_command.field-0.0 (NoFollow place node) e c.from_residual.ensures.1)) in (
      here.0,
      stops_in c.commands.sum cs c.commands-commands.result.now c.args.set.now c.commands.command-index c.command-item.result node c.commands-commands.ensures.commands c.commands-commands.ensures.order
          c.commands-test.true c.command-item.is (c.commands.invariant cs st) here.2 here.1,
    )

pub commands-preserved : goal.commands-preserved
commands-preserved c = λ cs st.
    next_command c.add_command.new.sum cs c.commands-commands.result.now c.commands.command-index c.command-item.result c.commands-test.true c.command-item.is (c.in_ok-add_command.ensures.ok _ (c.commands.invariant cs st))

pub returns-clause-ok : goal.returns-clause-ok
returns-clause-ok c = λ cs st.
    whole_set c.commands.sum cs c.commands-commands.result.now c.args.set.now c.commands.command-index c.commands-commands.ensures.commands c.commands-commands.ensures.order c.commands-test.false (c.commands.invariant cs st)
