use Rattle.sync_round.proofs.Walks.{looked_ready, looked_refused}
use Rattle.sync_round.proofs.rounding.look_at.Goals as goal

pub returns-in-Ok : goal.returns-in-Ok
returns-in-Ok g c = looked_ready c.args.joint.now c.args.set.now c.args.number c.in_ok-transition.transition _ _ c.in_ok-transition.ensures c.requires.number c.in-Ok.field-0 tt c.in-Ok.ensures.asking c.in-Ok.ensures.answer

pub returns : goal.returns
returns g c = rw c.fault_of.ensures (looked_refused c.args.joint.now c.args.set.now c.args.number c.in_ok-transition.transition _ _ c.in_ok-transition.ensures c.requires.number c.in-Err.fault c.in-Err.ensures.asking c.in-Err.ensures.answer)
