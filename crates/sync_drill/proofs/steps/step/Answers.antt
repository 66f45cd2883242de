use Rattle.sync_drill.proofs.Walking.{on_ok, step_done}
use Rattle.sync_drill.proofs.steps.step.Goals as goal

pub returns-in-Ok-clause-step : goal.returns-in-Ok-clause-step
returns-in-Ok-clause-step c =
    on_ok c.do_command.result _ _ (λ done.
    step_done c.args.tree.now _ c.args.sum.now _ c.args.state.now c.draw_step-draws.result _ _ _ c.in-Ok.command c.draw_step-draws.ensures.draws
    c.in_ok-path.ensures c.in_ok-held.ensures c.in_ok-wanted.ensures c.in-Ok.ensures.0 c.in-Ok.ensures.1 done) c.do_command.ensures
