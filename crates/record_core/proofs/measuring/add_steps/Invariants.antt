use Rattle.record_core.proofs.Sizes.{IsAdded}
use Rattle.record_core.proofs.measuring.add_steps.Given as goal

abbrev pub invariant-steps : goal.invariant-steps
invariant-steps g l =
    IsAdded l.steps l.step-index l.fn.size l.next ((goal.Tree-dyn g (l.initial.tree.vtable, l.initial.tree.value)).live l.initial.tree.value) ((goal.Tree-dyn g (l.tree.vtable, l.tree.value)).live l.tree.value)
