use Rattle.std.proofs.Common.{◌++◌, arith}
use Rattle.treesync.specs.Checks.{HasItems}
use Rattle.treesync.specs.Joining.{log_limits}
use Rattle.treesync.specs.Preferences.{preference_limits}
use Rattle.treesync.specs.Transition.{IsTransitionText}
use Rattle.treesync.proofs.MergedLogs.{handed_on, made_of}
use Rattle.treesync.proofs.transitions.transition.Goals as goal

pub transition_text-requires-clause-number : goal.transition_text-requires-clause-number
transition_text-requires-clause-number g c = (c.requires.number.0, omega (arith, c.in_ok-merged.ensures.many, c.requires.number.1))

pub transition_text-requires-clause-merged : goal.transition_text-requires-clause-merged
transition_text-requires-clause-merged g c = let a = c.in_ok-merged.ensures.answer.allowed in (a.0, a.1)

pub returns-in_err-merged : goal.returns-in_err-merged
returns-in_err-merged g c =
    handed_on (IsTransitionText c.args.number) c.args.prefs.now c.args.names.now HasItems (preference_limits c.args.prefs.now ++ log_limits c.args.names.now) _ _ c.in_err-merged.field-0.0 c.from_residual.result c.from_residual.ensures.1
    c.in_err-merged.ensures.answer

pub returns : goal.returns
returns g c =
    made_of (IsTransitionText c.args.number) c.args.prefs.now c.args.names.now HasItems (preference_limits c.args.prefs.now ++ log_limits c.args.names.now) _ _ c.in_ok-merged.merged c.transition_text.result c.in_ok-merged.ensures.answer
    c.transition_text.ensures
