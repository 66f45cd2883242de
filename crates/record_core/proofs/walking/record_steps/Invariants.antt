use Rattle.record_core.proofs.Walks.{IsWalked}
use Rattle.record_core.proofs.walking.record_steps.Given as goal

abbrev pub invariant-steps : goal.invariant-steps
invariant-steps g l =
    IsWalked l.steps l.step-index (g.O.Sink.sink l.initial.sink) (g.O.Sink.sink l.sink)
    ((goal.Tree-dyn g (l.initial.tree.vtable, l.initial.tree.value)).live l.initial.tree.value) ((goal.Tree-dyn g (l.tree.vtable, l.tree.value)).live l.tree.value)
