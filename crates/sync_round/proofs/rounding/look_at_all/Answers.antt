use Rattle.std.proofs.Common.{rules, ◌≡◌, Err, arith}
use Rattle.sync_round.proofs.Walks.{look_on, look_refused, looked_all}
use Rattle.sync_round.proofs.rounding.look_at_all.Goals as goal

pub returns-in_err-look_at : goal.returns-in_err-look_at
returns-in_err-look_at g c =
    let e : c.from_residual.result ≡ Err c.in_err-look_at.field-0.0 = search rules in
    rw e (look_refused (λ tree. (goal.Tree-dyn g (tree.vtable, tree.value)).live tree.value) c.args.joint.now c.args.set.now c.args.trees.now.items c.trees.trees.items c.trees.place
    (omega (arith, c.trees-test.true, c.logs-place-end.ensures.logs)) _ _ c.index_mut.ensures.value c.trees.invariant c.in_err-look_at.field-0.0 c.requires.many c.in_err-look_at.ensures)

pub trees-preserved : goal.trees-preserved
trees-preserved g c =
    look_on (λ tree. (goal.Tree-dyn g (tree.vtable, tree.value)).live tree.value) c.args.joint.now c.args.set.now c.args.trees.now.items c.trees.trees.items c.trees.place
    (omega (arith, c.trees-test.true, c.logs-place-end.ensures.logs)) _ _ c.index_mut.ensures.value c.trees.invariant c.in_ok-look_at.field-0 c.in_ok-look_at.ensures

pub returns : goal.returns
returns g c =
    looked_all (λ tree. (goal.Tree-dyn g (tree.vtable, tree.value)).live tree.value) c.args.joint.now c.args.set.now c.args.trees.now.items c.trees.trees.items c.trees.place
    (omega (arith, c.trees-test.false, c.logs-place-end.ensures.logs)) (tt {0}) c.trees.invariant
