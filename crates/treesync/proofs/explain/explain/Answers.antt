use Rattle.std.proofs.Common.{◌++◌, Ok}
use Rattle.treesync.specs.Explain.{AreReasons, ShowsReasons}
use Rattle.treesync.specs.Joining.{log_limits}
use Rattle.treesync.specs.Preferences.{preference_limits}
use Rattle.treesync.proofs.MergedLogs.{handed_on, made_of}
use Rattle.treesync.proofs.explain.explain.Goals as goal

pub explain_merged-requires : goal.explain_merged-requires
explain_merged-requires g c = let a = c.in_ok-merged.ensures.answer.allowed in (a.0, a.1)

pub returns-in_err-merged : goal.returns-in_err-merged
returns-in_err-merged g c =
    handed_on AreReasons c.args.prefs.now c.args.names.now ShowsReasons (preference_limits c.args.prefs.now ++ log_limits c.args.names.now) _ _ c.in_err-merged.field-0.0 c.from_residual.result c.from_residual.ensures.1
    c.in_err-merged.ensures.answer

pub returns : goal.returns
returns g c =
    made_of AreReasons c.args.prefs.now c.args.names.now ShowsReasons (preference_limits c.args.prefs.now ++ log_limits c.args.names.now) _ _ c.in_ok-merged.merged (Ok c.explain_merged.result) c.in_ok-merged.ensures.answer c.explain_merged.ensures
