use Rattle.std.proofs.Common.{rules, ◌≡◌, Err, Option}
use Rattle.sync_path.specs.Paths.{Node}
use Rattle.resume_apply.proofs.Blocking.{finds_ready, finds_refused, values_held}
use Rattle.resume_apply.proofs.preparing.prepare.Goals as goal

pub returns-in_err-path-clause-answer : goal.returns-in_err-path-clause-answer
returns-in_err-path-clause-answer g c =
    let e : c.from_residual-in_err-path.result ≡ Err c.in_err-path.field-0.0 = search rules in
    finds_refused (Option Node) c.args.set.now c.in_err-path.field-0.0 _ _ c.in_err-path.ensures.refusal e

pub returns-in-None-clause-answer : goal.returns-in-None-clause-answer
returns-in-None-clause-answer g c = finds_ready c.args.set.now c.in_ok-work.work c.in_ok-path.field-0 _ _ c.in_ok-work.ensures.asking.contents c.in-None.is c.in_ok-work.ensures.answer c.in_ok-path.ensures.answer

pub first_blocked-requires : goal.first_blocked-requires
first_blocked-requires g c = values_held c.args.set.now c.in_ok-work.work _ _ c.in_ok-work.ensures.asking.contents c.in_ok-work.ensures.answer
