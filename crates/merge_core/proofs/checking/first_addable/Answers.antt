use Rattle.std.proofs.Common.{arith}
use Rattle.merge_core.specs.Afterwards.{IsAddable}
use Rattle.merge_core.proofs.CheckLoops.{none_to_more, none_to_all, first_here}
use Rattle.merge_core.proofs.checking.first_addable.Goals as goal

pub returns-in-Some : goal.returns-in-Some
returns-in-Some c = first_here c.args.joint.now.sets (IsAddable c.args.joint.now.nodes c.args.parents.now c.args.seen.now c.args.filled.now) c.logs.log c.in-Some.place c.logs.invariant c.in-Some.ensures

pub logs-preserved : goal.logs-preserved
logs-preserved c = none_to_more c.args.joint.now.sets (IsAddable c.args.joint.now.nodes c.args.parents.now c.args.seen.now c.args.filled.now) c.logs.log c.logs.invariant c.in_default.ensures

pub returns : goal.returns
returns c =
    let n = c.logs-log-end.ensures.logs in
    let over = c.logs-test.false in
    none_to_all c.args.joint.now.sets (IsAddable c.args.joint.now.nodes c.args.parents.now c.args.seen.now c.args.filled.now) c.logs.log (omega (arith, n, over)) c.logs.invariant
