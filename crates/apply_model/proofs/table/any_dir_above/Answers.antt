use Rattle.std.proofs.Common.{sym, ap, ◌∙◌}
use Rattle.std.proofs.lemmas.Bool.{both_ways}
use Rattle.apply_model.specs.Tables.{any_dir_above}
use Rattle.apply_model.proofs.Ready.{dir_here, not_here}
use Rattle.apply_model.proofs.table.any_dir_above.Goals.{else-parent_of-via-then-parent_of+else-is_dir, else-parent_of-via-else-parent_of}
use Rattle.apply_model.proofs.table.any_dir_above.Goals as goal

pub returns-then-is_dir-clause-value : goal.returns-then-is_dir-clause-value
returns-then-is_dir-clause-value c =
    dir_here c.args.path.now c.in-Some.above.now c.in-Some.entry.now c.next.new.self (c.parent_of.ensures.0 c.if-parent_of.true) (sym c.is_dir.ensures ∙ c.if-is_dir.true)
    ∙ ap (any_dir_above c.args.path.now) (sym c.in-Some.ensures.steps) ∙ c.nodes.invariant ∙ ap (any_dir_above c.args.path.now) c.into_iter-above-iterator.ensures.into_iter_gives.0

pub nodes-preserved : goal.nodes-preserved
nodes-preserved c = not_here c.args.path.now c.in-Some.above.now c.in-Some.entry.now c.next.new.self (λ up. elim c.else-parent_of.branch [
  | else-parent_of-via-then-parent_of+else-is_dir w ↦ sym w.is_dir.ensures ∙ w.if-is_dir.false
  | else-parent_of-via-else-parent_of w ↦ absurd (both_ways _ w.if-parent_of.false (c.parent_of.ensures.1 up))
]) ∙ ap (any_dir_above c.args.path.now) (sym c.in-Some.ensures.steps) ∙ c.nodes.invariant
