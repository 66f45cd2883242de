use Rattle.std.proofs.Common.{rules, ◌≡◌, Err, arith}
use Rattle.resume_apply.proofs.WholeWalk.{at_end, in_set, walk_begins, walk_can, walk_ends, walk_on, walk_refused}
use Rattle.resume_apply.proofs.finishing.finish.Goals as goal

pub walk-init : goal.walk-init
walk-init g c = walk_begins _ _ c.requires

pub do_command-requires : goal.do_command-requires
do_command-requires g c =
    let in_set = in_set _ _ _ _ c.commands-commands.ensures.commands c.walk-test.true c.command-item.is in
    walk_can c.args.set.now c.walk.command-index c.command-item.result _ _ c.walk.changes c.commands-commands.ensures.order c.commands-commands.ensures.fitting in_set.0 in_set.1 c.walk.invariant

pub walk-preserved : goal.walk-preserved
walk-preserved g c =
    let in_set = in_set _ _ _ _ c.commands-commands.ensures.commands c.walk-test.true c.command-item.is in
    walk_on c.args.set.now c.walk.command-index c.command-item.result _ _ _ c.walk.changes c.in_ok-changes.field-0 c.commands-commands.ensures.fitting in_set.0 in_set.1 c.walk.invariant c.in_ok-changes.ensures

pub returns-in_err-changes : goal.returns-in_err-changes
returns-in_err-changes g c =
    let e : c.from_residual.result ≡ Err c.in_err-changes.field-0.0 = search rules in
    let in_set = in_set _ _ _ _ c.commands-commands.ensures.commands c.walk-test.true c.command-item.is in
    walk_refused c.args.set.now c.walk.command-index c.command-item.result _ _ _ c.walk.changes c.in_err-changes.field-0.0 _ c.commands-commands.ensures.fitting in_set.0 in_set.1 c.walk.invariant c.in_err-changes.ensures e

pub returns : goal.returns
returns g c = walk_ends c.args.set.now c.walk.command-index _ _ c.walk.changes c.commands-commands.ensures.fitting (at_end _ _ _ c.commands-commands.ensures.commands c.walk-test.false) c.walk.invariant

pub overflow_add-changes : goal.overflow_add-changes
overflow_add-changes g c =
    let few = c.walk.invariant.few in
    let two = c.in_ok-changes.ensures.few in
    let test = c.walk-test.true in
    omega arith
