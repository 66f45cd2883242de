use Rattle.std.proofs.Common.{◌∙◌, sym, ap}
use Rattle.std.specs.Ordering.{is_lt}
use Rattle.sync_path.specs.Paths.{comes_before}
use Rattle.resume_apply.specs.Preparing.{goes_first}
use Rattle.resume_apply.proofs.preparing.goes_first.Goals as goal

pub returns-in-Some : goal.returns-in-Some
unfolding comes_before
returns-in-Some c = c.is_lt.ensures ∙ ap is_lt c.cmp.ensures ∙ ap (λ o. goes_first o c.args.path.now) (sym c.in-Some.is)
