use Rattle.std.proofs.Common.{rules, ◌≡◌, ◌+◌, Err, arith}
use Rattle.sync_round.specs.declared.faults.RoundFault.TheVariants.{Memory}
use Rattle.sync_round.proofs.Walks.{lead_can, lead_more, lead_refused, lead_too_far, led_all_on}
use Rattle.sync_round.proofs.rounding.lead_all_on.Goals as goal

pub lead_on-requires-clause-ready : goal.lead_on-requires-clause-ready
lead_on-requires-clause-ready g c =
    lead_can (λ tree. (goal.Tree-dyn g (tree.vtable, tree.value)).live tree.value) c.args.joint.now c.args.set.now c.args.trees.now.items c.trees.trees.items c.trees.place
    (omega (arith, c.trees-test.true, c.logs-place-end.ensures.logs)) c.index_mut.result.now c.index_mut.result.now c.index_mut.ensures.value c.trees.changes c.requires.ready c.trees.invariant

pub returns-in_err-more : goal.returns-in_err-more
returns-in_err-more g c =
    let e : c.from_residual.result ≡ Err c.in_err-more.field-0.0 = search rules in
    rw e (lead_refused (λ tree. (goal.Tree-dyn g (tree.vtable, tree.value)).live tree.value) c.args.joint.now c.args.set.now c.args.trees.now.items c.trees.trees.items c.trees.place
    (omega (arith, c.trees-test.true, c.logs-place-end.ensures.logs)) _ _ c.index_mut.ensures.value c.trees.changes c.requires.ready c.trees.invariant c.in_err-more.field-0.0 c.in_err-more.ensures)

pub returns-in_err-changes : goal.returns-in_err-changes
returns-in_err-changes g c =
    let e : c.from_residual-in_err-changes.result ≡ Err Memory = search rules in
    rw e (lead_too_far (λ tree. (goal.Tree-dyn g (tree.vtable, tree.value)).live tree.value) c.args.joint.now c.args.set.now c.args.trees.now.items c.trees.trees.items c.trees.place
    (omega (arith, c.trees-test.true, c.logs-place-end.ensures.logs)) _ _ c.index_mut.ensures.value c.trees.changes c.requires.ready c.trees.invariant c.in_ok-more.more c.in_ok-more.ensures)

pub trees-preserved : goal.trees-preserved
trees-preserved g c =
    let sum : c.in_ok-changes.changes ≡ c.trees.changes + c.in_ok-more.more = search rules in
    lead_more (λ tree. (goal.Tree-dyn g (tree.vtable, tree.value)).live tree.value) c.args.joint.now c.args.set.now c.args.trees.now.items c.trees.trees.items c.trees.place
    (omega (arith, c.trees-test.true, c.logs-place-end.ensures.logs)) _ _ c.index_mut.ensures.value c.trees.changes c.requires.ready c.trees.invariant c.in_ok-more.more c.in_ok-changes.changes sum c.in_ok-more.ensures

pub returns : goal.returns
returns g c =
    led_all_on (λ tree. (goal.Tree-dyn g (tree.vtable, tree.value)).live tree.value) c.args.joint.now c.args.set.now c.args.trees.now.items c.trees.trees.items c.trees.place
    (omega (arith, c.trees-test.false, c.logs-place-end.ensures.logs)) c.trees.changes c.requires.ready c.trees.invariant
