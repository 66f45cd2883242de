use Rattle.std.proofs.Common.{Err, ap, ◌∙◌}
use Rattle.sync_drill.proofs.summary.join_all.Goals as goal

pub unreachable-requires : goal.unreachable-requires
unreachable-requires c =
    let common = c.requires.common in
    (c.join.ensures.refused common.0 _ _ _ common.1 (c.in-Err-NoCommonTree.is ∙ ap Err c.in-Err-NoCommonTree.field-0-is)).disagreement.none common.2
