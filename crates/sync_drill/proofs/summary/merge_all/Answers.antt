use Rattle.std.proofs.Common.{[]}
use Rattle.sync_drill.proofs.summary.merge_all.Goals as goal

pub merge-requires : goal.merge-requires
merge-requires c = ([], c.in-Ok.ensures.ranked)

pub returns-in-Ok : goal.returns-in-Ok
returns-in-Ok c = c.merge.ensures [] c.in-Ok.ensures.ranked
