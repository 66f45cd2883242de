use Rattle.std.proofs.Common.{◌++◌, Err, Ok, refl, sym, subst, ◌∙◌}
use Rattle.treesync.specs.Joining.{log_limits}
use Rattle.treesync.specs.Preferences.{preference_limits}
use Rattle.treesync.specs.Sync.{CanLead, IsMergedBy, StandsForMerged}
use Rattle.treesync.proofs.MergedLogs.{handed_on, made_of}
use Rattle.treesync.proofs.Syncing.{can_lead, first_merged, logs_refused, trees_led}
use Rattle.treesync.proofs.sync.sync.Goals as goal

pub lead_trees-requires : goal.lead_trees-requires
lead_trees-requires g c =
    let a = c.in_ok-merged.ensures.answer.allowed in
    subst (λ n. CanLead n c.in_ok-merged.merged) (c.in_ok-merged.ensures.many ∙ sym c.requires.many) (can_lead c.in_ok-merged.merged a.0 a.1)

pub returns-in_err-merged : goal.returns-in_err-merged
returns-in_err-merged g c = λ many.
    logs_refused c.args.prefs.now c.args.folders.now c.args.names.now _ _ _ c.in_err-merged.field-0.0 c.from_residual.result c.from_residual.ensures.1
    (handed_on IsMergedBy c.args.prefs.now c.args.names.now StandsForMerged (preference_limits c.args.prefs.now ++ log_limits c.args.names.now) _ _ c.in_err-merged.field-0.0 (Err c.in_err-merged.field-0.0) refl c.in_err-merged.ensures.answer)

pub returns : goal.returns
returns g c = λ many.
    trees_led c.args.prefs.now c.args.folders.now c.args.names.now _ _ _ c.in_ok-merged.merged _ _
    (made_of IsMergedBy c.args.prefs.now c.args.names.now StandsForMerged (preference_limits c.args.prefs.now ++ log_limits c.args.names.now) _ _ c.in_ok-merged.merged (Ok c.in_ok-merged.merged) c.in_ok-merged.ensures.answer
    (first_merged c.in_ok-merged.merged)) (c.lead_trees.ensures many)
