use Rattle.record_core.proofs.LabelWalks.{AreMoved}
use Rattle.record_core.proofs.planning.moved_steps.Given as goal

abbrev pub invariant-paths : goal.invariant-paths
invariant-paths l = AreMoved l.from l.to l.paths l.path-index l.steps.items
