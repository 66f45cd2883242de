use Rattle.std.proofs.Common.{Err, ap, refl, ◌∙◌}
use Rattle.treesync.specs.Joining.{commands_of}
use Rattle.treesync.proofs.joining.joint_of.Goals as goal

pub returns-in-Ok : goal.returns-in-Ok
returns-in-Ok c = λ reads h. let j = c.in-Ok.ensures.joined (commands_of reads) h in (reads, j, (refl, j.common))

pub returns-in-Err-NoCommonTree : goal.returns-in-Err-NoCommonTree
returns-in-Err-NoCommonTree c = λ reads h.
    (c.in-Err-NoCommonTree.first, c.in-Err-NoCommonTree.second, c.in-Err-NoCommonTree.path, refl, c.join.ensures.refused (commands_of reads) _ _ _ h (c.in-Err-NoCommonTree.is ∙ ap Err c.in-Err-NoCommonTree.field-0-is))
