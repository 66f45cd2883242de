use Rattle.std.proofs.Common.{rules, ◌≡◌, Err, ap, ◌∙◌}
use Rattle.sync_round.specs.Faults.{fault_of}
use Rattle.sync_round.specs.declared.faults.RoundFault.TheVariants.{Memory}
use Rattle.sync_round.proofs.Walks.{led_and_refused, led_to_end, nothing_led, ready_for_it}
use Rattle.sync_round.proofs.rounding.lead_on.Goals as goal

pub returns-in_err-transition : goal.returns-in_err-transition
returns-in_err-transition g c =
    let e : c.from_residual.result ≡ Err Memory = search rules in
    rw e (λ logs m stands common. nothing_led c.args.number _ _ (c.requires.ready logs m stands common))

pub finish-requires : goal.finish-requires
finish-requires g c = ready_for_it c.args.joint.now c.args.set.now c.args.number c.in_ok-transition.transition
    ((goal.Tree-dyn g (c.args.tree.now.vtable, c.args.tree.now.value)).live c.args.tree.now.value) ((goal.Tree-dyn g (c.args.tree.now.vtable, c.args.tree.now.value)).live c.args.tree.now.value) c.in_ok-transition.ensures c.requires.number c.requires.ready c.logs-logs.ensures.joint

pub returns-in-Ok : goal.returns-in-Ok
returns-in-Ok g c = led_to_end c.args.joint.now c.args.set.now c.args.number c.in_ok-transition.transition _ _ c.in_ok-transition.ensures c.requires.number c.requires.ready c.in-Ok.changes c.in-Ok.ensures

pub returns : goal.returns
returns g c = rw (c.fault_of.ensures ∙ ap (fault_of c.args.number) c.from.ensures) (led_and_refused c.args.joint.now c.args.set.now c.args.number c.in_ok-transition.transition _ _ c.in_ok-transition.ensures c.requires.number c.requires.ready c.in-Err.fault c.in-Err.ensures)
