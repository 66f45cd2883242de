use Rattle.std.proofs.Common.{rules, ◌≡◌, ◌≤◌, ◌∙◌, ap, subst, Err, Ok, Option, ℕ, arith}
use Rattle.sync_command.specs.Maps.{at}
use Rattle.resume_apply.specs.Preparing.{IsFew, IsWorkAt}
use Rattle.resume_apply.proofs.WholeWalk.{at_end, in_set}
use Rattle.resume_apply.proofs.Looking.{look_begins, look_diverged, look_ends, look_memory, look_on, look_refused, never_denied}
use Rattle.resume_apply.proofs.preparing.work_left.Goals as goal

pub values-init : goal.values-init
values-init g c = look_begins _ _

pub values-preserved : goal.values-preserved
values-preserved g c =
    let in_set = in_set _ _ _ _ c.commands-commands.ensures.commands c.values-test.true c.command-item.is in
    look_on c.args.set.now c.values.command-index c.command-item.result _ _ _ c.values.work c.in-Ok-Some.more c.in-Ok-Some.field-0 in_set.0 in_set.1 c.values.invariant c.in-Ok-Some.field-0-is
    c.in-Ok-Some.ensures.reading c.in-Ok-Some.ensures.answer c.in-Ok-Some.ensures.few

pub returns-in-Ok : goal.returns-in-Ok
returns-in-Ok g c =
    let in_set = in_set _ _ _ _ c.commands-commands.ensures.commands c.values-test.true c.command-item.is in
    let found = look_diverged c.args.set.now c.values.command-index c.command-item.result _ _ _ c.values.work c.in-Ok-None.field-0 c.in-Ok.path in_set.0 in_set.1 c.values.invariant c.in-Ok-None.field-0-is
    c.in-Ok-None.ensures.reading c.in-Ok-None.ensures.answer (c.in-Ok.ensures ∙ c.path.ensures) in
    record { asking = found.0; answer = found.1 }

pub returns-in-Err-copy : goal.returns-in-Err-copy
returns-in-Err-copy g c =
    let found = look_memory c.args.set.now c.values.command-index _ _ _ c.values.work c.in-Ok-None.field-0 c.values.invariant c.in-Ok-None.ensures.reading in
    record { asking = found.0; answer = found.1 }

pub returns-in-Err : goal.returns-in-Err
returns-in-Err g c =
    let sure = never_denied (Option ℕ) (λ m. IsWorkAt c.command-item.result (at m c.command-item.result.node)) _ c.in-Err.fault c.in-Err.ensures.answer in
    let found = look_refused (Option ℕ) c.args.set.now c.values.command-index _ _ _ c.values.work c.in-Err.fault (Err c.from.result) c.values.invariant c.in-Err.ensures.reading sure (ap Err c.from.ensures) in
    record { asking = found.0; answer = found.1 }

pub overflow_add-work : goal.overflow_add-work
overflow_add-work g c =
    let few = c.values.invariant.few in
    let two : c.in-Ok-Some.more ≤ 2 = subst IsFew c.in-Ok-Some.field-0-is c.in-Ok-Some.ensures.few in
    let test = c.values-test.true in
    omega arith

pub returns : goal.returns
returns g c =
    let done = look_ends c.args.set.now c.values.command-index _ _ c.values.work (at_end _ _ _ c.commands-commands.ensures.commands c.values-test.false) c.values.invariant in
    record { asking = done.0; answer = done.1 }
