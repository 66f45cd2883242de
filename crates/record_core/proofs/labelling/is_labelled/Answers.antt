use Rattle.record_core.proofs.LabelWalks.{held_foreign}
use Rattle.record_core.proofs.labelling.is_labelled.Goals as goal

pub returns-in-Two-clause-known : goal.returns-in-Two-clause-known
returns-in-Two-clause-known g c = held_foreign _ c.args.version c.args.steps.now c.in-Two.is
