use Rattle.std.proofs.Common.{subst}
use Rattle.record_core.specs.Looks.{Shows, StandsAs}
use Rattle.record_core.proofs.Looked.{out_after_done, out_after_out, out_after_undone}
use Rattle.record_core.proofs.sealing.next.Goals as goal

pub returns-in-Done-shown-2-clause-shows : goal.returns-in-Done-shown-2-clause-shows
returns-in-Done-shown-2-clause-shows c t u x e stands shows =
    out_after_done t u c.args.sum.now.touched c.args.place x e (subst (StandsAs t u x) c.in-Out.is stands) (subst (Shows t u c.args.sum.now.touched c.args.place) c.in-Done-shown-2.is shows)

pub returns-in-Undone-shown-2-clause-shows : goal.returns-in-Undone-shown-2-clause-shows
returns-in-Undone-shown-2-clause-shows c t u x e stands shows =
    out_after_undone t u c.args.sum.now.touched c.args.place x e (subst (StandsAs t u x) c.in-Out.is stands) (subst (Shows t u c.args.sum.now.touched c.args.place) c.in-Undone-shown-2.is shows)

pub returns-in-Out-shown-2-clause-within : goal.returns-in-Out-shown-2-clause-within
returns-in-Out-shown-2-clause-within c = c.first_of.ensures.within

pub returns-in-Out-shown-2-clause-shows : goal.returns-in-Out-shown-2-clause-shows
returns-in-Out-shown-2-clause-shows c t u x e stands shows =
    out_after_out t u c.args.sum.now.touched c.args.place x e c.in-Out-shown-2.kept c.first_of.result c.first_of.ensures.first (subst (StandsAs t u x) c.in-Out.is stands) (subst (Shows t u c.args.sum.now.touched c.args.place) c.in-Out-shown-2.is shows)
