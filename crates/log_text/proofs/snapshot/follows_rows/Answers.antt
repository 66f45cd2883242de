use Rattle.std.proofs.Common.{◌∙◌, ap}
use Rattle.std.specs.Ordering.{is_lt}
use Rattle.log_text.proofs.RowLines.{follows_last}
use Rattle.log_text.proofs.snapshot.follows_rows.Goals as goal

pub returns-in-Some : goal.returns-in-Some
returns-in-Some c = c.is_lt.ensures ∙ ap is_lt c.cmp.ensures ∙ follows_last c.args.rows.now c.in-Some.row.now c.args.path.now c.in-Some.ensures.value
