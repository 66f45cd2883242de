use Rattle.std.proofs.Common.{◌∙◌, sym}
use Rattle.resume_apply.proofs.Blocking.{keeps_first, keeps_other}
use Rattle.resume_apply.proofs.preparing.keep_first.Goals as goal

pub returns-then-goes_first : goal.returns-then-goes_first
returns-then-goes_first c = keeps_first c.args.path c.args.first.now (sym c.goes_first.ensures ∙ c.if-goes_first.true)

pub returns-else-goes_first : goal.returns-else-goes_first
returns-else-goes_first c = keeps_other c.args.path c.args.first.now (sym c.goes_first.ensures ∙ c.if-goes_first.false)
