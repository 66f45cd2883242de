use Rattle.std.proofs.Common.{refl}
use Rattle.treesync.proofs.merging.first_merged.Goals as goal

pub returns-clause-merged : goal.returns-clause-merged
returns-clause-merged c = λ reads rules h r. ((rules, reads), record { joined = h; first = c.in_ok-merger.ensures rules r }, refl)
