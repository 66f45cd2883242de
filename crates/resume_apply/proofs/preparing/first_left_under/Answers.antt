use Rattle.std.proofs.Common.{◌∙◌, sym, ap}
use Rattle.sync_command.specs.Values.{is_dir}
use Rattle.resume_apply.proofs.Blocking.{under_flat, under_found, under_ready}
use Rattle.resume_apply.proofs.preparing.first_left_under.Goals as goal

pub returns-then-not-branch-clause-answer : goal.returns-then-not-branch-clause-answer
returns-then-not-branch-clause-answer g c = under_flat c.args.set.now c.args.command.now c.path.result.now c.in_ok-is_dir_at.field-0 _ c.requires.fitting c.requires.named c.path.ensures c.if-not-branch.true c.in_ok-is_dir_at.ensures.reading.tree c.in_ok-is_dir_at.ensures.answer

pub returns-clause-answer : goal.returns-clause-answer
returns-clause-answer g c = under_found c.args.set.now c.args.command.now c.path-2.result.now c.in_ok-children.children.items c.first_unnamed.result _ _ c.requires.fitting c.requires.named c.path-2.ensures
    (ap is_dir (sym c.new_value.ensures) ∙ sym c.is_dir.ensures ∙ c.if-is_dir.false) c.in_ok-is_dir_at.ensures.reading.contents c.in_ok-children.ensures.below c.first_unnamed.ensures c.in_ok-children.ensures.answer

pub returns-then-not-is_dir-clause-answer : goal.returns-then-not-is_dir-clause-answer
returns-then-not-is_dir-clause-answer g c = under_ready c.args.set.now c.args.command.now _ c.requires.fitting c.requires.named
    (ap is_dir (sym c.new_value.ensures) ∙ sym c.is_dir.ensures ∙ c.if-is_dir.false) (ap is_dir (sym c.old.ensures) ∙ sym c.is_dir-2.ensures ∙ c.if-not-is_dir.true) c.requires.ready
