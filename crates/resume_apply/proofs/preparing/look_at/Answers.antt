use Rattle.std.proofs.Common.{◌∙◌}
use Rattle.sync_command.specs.Maps.{at}
use Rattle.tree_port.specs.States.{WhereKnown}
use Rattle.resume_apply.proofs.Blocking.{LooksHere, below_kept_all, below_passed_all, here_kept_all, here_passed_all, still_ready}
use Rattle.resume_apply.proofs.preparing.look_at.Goals.{else-branch, in-None, in-Some, then-branch+in_ok-copy}
use Rattle.resume_apply.proofs.preparing.look_at.Goals as goal

pub returns-clause-answer : goal.returns-clause-answer
returns-clause-answer g c =
    let here : WhereKnown ((goal.Tree-dyn g (c.args.tree.now.vtable, c.args.tree.now.value)).live c.args.tree.now.value) (λ m. LooksHere c.args.set.now (at m) c.args.command.now c.args.first.now c.if-branch.first) =
    elim c.if-branch.branch [
      | then-branch+in_ok-copy w ↦ here_kept_all c.args.set.now c.args.command.now c.in_ok-is_left_alone.field-0 w.in_ok-copy.field-0 c.args.first.now c.if-branch.first _ _ w.if-branch.true (w.in_ok-copy.ensures ∙ w.path.ensures) w.keep_first.ensures w.first-is c.in_ok-is_left_alone.ensures.answer
      | else-branch w ↦ here_passed_all c.args.set.now c.args.command.now c.in_ok-is_left_alone.field-0 c.args.first.now c.if-branch.first _ w.if-branch.false w.first-is c.in_ok-is_left_alone.ensures.answer
    ] in
    elim c.match-branch-4.branch [
      | in-Some w ↦ below_kept_all c.args.set.now c.args.command.now c.in_ok-path.field-0 w.in-Some.path c.args.first.now c.if-branch.first c.match-branch-4.first _ _ _ w.in-Some.is w.keep_first-in-Some.ensures w.first-is c.in_ok-is_left_alone.ensures.asking.contents here c.in_ok-path.ensures.answer
      | in-None w ↦ below_passed_all c.args.set.now c.args.command.now c.in_ok-path.field-0 c.args.first.now c.if-branch.first c.match-branch-4.first _ _ w.in-None.is w.first-is c.in_ok-is_left_alone.ensures.asking.contents here c.in_ok-path.ensures.answer
    ]

pub first_left_under-requires-clause-ready : goal.first_left_under-requires-clause-ready
first_left_under-requires-clause-ready g c = still_ready c.args.set.now _ _ c.in_ok-is_left_alone.ensures.asking.contents c.requires.ready
