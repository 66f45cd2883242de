use Rattle.std.specs.Prelude.{option_copied}
use Rattle.record_core.proofs.Looked.{HasLooked}
use Rattle.record_core.proofs.sealing.look.Given as goal

abbrev pub invariant-nodes : goal.invariant-nodes
invariant-nodes g l =
    HasLooked (option_copied l.undone) l.sum.touched l.place l.shown ((goal.Tree-dyn g (l.initial.tree.vtable, l.initial.tree.value)).live l.initial.tree.value) ((goal.Tree-dyn g (l.tree.vtable, l.tree.value)).live l.tree.value)
