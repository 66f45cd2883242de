use Rattle.record_core.proofs.LabelWalks.{not_deeper, under_by_test}
use Rattle.record_core.proofs.planning.is_under.Goals as goal

pub returns-then-depth-clause-under : goal.returns-then-depth-clause-under
returns-then-depth-clause-under c = under_by_test c.args.path.now c.args.other.now c.under.result c.depth-2.result c.depth-2.ensures.names c.depth-2.ensures.some c.under.ensures

pub returns-else-depth-clause-under : goal.returns-else-depth-clause-under
returns-else-depth-clause-under c = not_deeper c.args.path.now c.args.other.now c.depth.result c.depth-2.result c.depth.ensures.names c.depth-2.ensures.names c.if-depth.false
