use Rattle.std.proofs.Common.{arith}
use Rattle.pref_list.proofs.Staging.{under_test}
use Rattle.pref_list.proofs.stages.is_under.Goals as goal

pub returns-then-names-gt0 : goal.returns-then-names-gt0
returns-then-names-gt0 c = under_test _ _ _ (omega arith) c.under.ensures

pub returns-else-names-gt0 : goal.returns-else-names-gt0
returns-else-names-gt0 c = absurd (omega arith)
