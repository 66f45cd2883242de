use Rattle.resume_apply.proofs.Blocking.{IsSeeking}
use Rattle.resume_apply.proofs.preparing.first_blocked.Given as goal

abbrev pub invariant-nodes : goal.invariant-nodes
invariant-nodes g l =
    IsSeeking l.set l.command-index ((goal.Tree-dyn g (l.initial.tree.vtable, l.initial.tree.value)).live l.initial.tree.value) ((goal.Tree-dyn g (l.tree.vtable, l.tree.value)).live l.tree.value) l.first
