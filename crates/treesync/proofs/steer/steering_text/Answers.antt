use Rattle.treesync.proofs.SteerLemmas.{steer_printed, steer_refused}
use Rattle.treesync.proofs.steer.steering_text.Goals as goal

pub returns-in-Ok : goal.returns-in-Ok
returns-in-Ok c = λ reads h.
    steer_printed c.args.word c.args.set.now c.args.logs.now.joint reads c.in-Ok.rules.items c.deref.result.now c.rules_text.result c.in-Ok.ensures.rules c.deref.ensures.value h.joint c.rules_text.ensures

pub returns-in-Err : goal.returns-in-Err
returns-in-Err c = λ reads h. rw c.steer_refusal.ensures (steer_refused c.args.word c.args.set.now c.args.logs.now.joint reads c.in-Err.fault c.in-Err.ensures.refused h.joint)
