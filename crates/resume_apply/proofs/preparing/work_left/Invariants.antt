use Rattle.resume_apply.proofs.Looking.{IsLooked}
use Rattle.resume_apply.proofs.preparing.work_left.Given as goal

abbrev pub invariant-values : goal.invariant-values
invariant-values g l =
    IsLooked l.set l.command-index ((goal.Tree-dyn g (l.initial.tree.vtable, l.initial.tree.value)).live l.initial.tree.value) ((goal.Tree-dyn g (l.tree.vtable, l.tree.value)).live l.tree.value) l.work
