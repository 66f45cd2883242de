use Rattle.std.proofs.lemmas.Result.{IfOk-weaker}
use Rattle.canon_set.proofs.TableLists.{untouched_above}
use Rattle.canon_set.proofs.sums.LogSum.into_parts.Goals as goal

pub returns-clause-above : goal.returns-clause-above
returns-clause-above c cs st = IfOk-weaker c.into_parts.result _ _ (λ parts made. untouched_above c.self.inside.table c.self.inside.count c.args.self c.self.view_is c.self.invariant cs st _ made) c.into_parts.ensures.above
