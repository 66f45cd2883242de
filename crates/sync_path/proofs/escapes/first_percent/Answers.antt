use Rattle.std.proofs.Common.{sym, ◌∙◌}
use Rattle.sync_path.proofs.Graphic.{only_percents}
use Rattle.sync_path.proofs.escapes.first_percent.Goals as goal

pub returns : goal.returns
returns c = c.position_far.ensures ∙ sym (only_percents c.args.text.now c.requires)
