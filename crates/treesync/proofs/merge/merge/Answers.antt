use Rattle.std.proofs.Common.{◌++◌}
use Rattle.treesync.specs.Checks.{HasItems}
use Rattle.treesync.specs.Joining.{log_limits}
use Rattle.treesync.specs.Merge.{IsMergerText}
use Rattle.treesync.specs.Preferences.{preference_limits}
use Rattle.treesync.proofs.MergedLogs.{handed_on, made_of}
use Rattle.treesync.proofs.merge.merge.Goals as goal

pub merger_text-requires : goal.merger_text-requires
merger_text-requires g c = let a = c.in_ok-merged.ensures.answer.allowed in (a.0, a.1)

pub returns-in_err-merged : goal.returns-in_err-merged
returns-in_err-merged g c =
    handed_on IsMergerText c.args.prefs.now c.args.names.now HasItems (preference_limits c.args.prefs.now ++ log_limits c.args.names.now) _ _ c.in_err-merged.field-0.0 c.from_residual.result c.from_residual.ensures.1
    c.in_err-merged.ensures.answer

pub returns : goal.returns
returns g c =
    made_of IsMergerText c.args.prefs.now c.args.names.now HasItems (preference_limits c.args.prefs.now ++ log_limits c.args.names.now) _ _ c.in_ok-merged.merged c.merger_text.result c.in_ok-merged.ensures.answer c.merger_text.ensures
