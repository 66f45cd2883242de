use Rattle.record_core.proofs.LabelWalks.{IsPlainSoFar}
use Rattle.record_core.proofs.labelling.any_has_label.Given as goal

abbrev pub invariant-steps : goal.invariant-steps
invariant-steps g l =
    IsPlainSoFar l.steps l.step-index ((goal.Tree-dyn g (l.initial.tree.vtable, l.initial.tree.value)).live l.initial.tree.value) ((goal.Tree-dyn g (l.tree.vtable, l.tree.value)).live l.tree.value)
