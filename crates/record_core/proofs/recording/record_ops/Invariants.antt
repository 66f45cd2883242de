use Rattle.record_core.proofs.ScriptRuns.{IsUnderWay}
use Rattle.record_core.proofs.recording.record_ops.Given as goal

abbrev pub invariant-ops : goal.invariant-ops
invariant-ops g l =
    IsUnderWay l.version l.script l.place l.initial.size l.size (g.O.Sink.sink l.initial.sink) (g.O.Sink.sink l.sink)
    ((goal.Tree-dyn g (l.initial.tree.vtable, l.initial.tree.value)).live l.initial.tree.value) ((goal.Tree-dyn g (l.tree.vtable, l.tree.value)).live l.tree.value)
