use Rattle.resume_apply.proofs.WholeWalk.{IsWalked}
use Rattle.resume_apply.proofs.finishing.finish.Given as goal

abbrev pub invariant-walk : goal.invariant-walk
invariant-walk g l =
    IsWalked l.set l.command-index ((goal.Tree-dyn g (l.initial.tree.vtable, l.initial.tree.value)).live l.initial.tree.value) ((goal.Tree-dyn g (l.tree.vtable, l.tree.value)).live l.tree.value) l.changes
