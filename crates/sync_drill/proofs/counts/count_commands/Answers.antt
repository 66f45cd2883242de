use Rattle.std.proofs.Common.{◌∙◌, arith, refl}
use Rattle.sync_drill.proofs.Counting.{all_counted, counted, one_counted}
use Rattle.sync_drill.proofs.counts.count_commands.Goals as goal

pub sums-preserved : goal.sums-preserved
sums-preserved c = one_counted c.args.sums.now c.sums.sum-index c.sum-item.result _ _ _ (omega arith) c.sum-item.is (rw (c.in_ok-count.ensures, c.count.ensures) refl) c.sums.invariant

pub returns : goal.returns
returns c = λ made each. all_counted c.args.sums.now c.sums.sum-index _ _ (omega arith) c.sums.invariant ∙ counted c.args.sums.now made each
