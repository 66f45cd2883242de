use Rattle.std.proofs.Common.{Vec, Global}
use Rattle.canon_set.specs.Sums.{Sum}
use Rattle.treesync.specs.Catchup.{AreNetsOf}
use Rattle.treesync.specs.Joining.{AreSumsOf, EachTaken}
use Rattle.treesync.proofs.Rebasing.{judged_refused}
use Rattle.treesync.proofs.catchup.net_sets.Goals as goal

pub returns-in_err-sums-clause-nets : goal.returns-in_err-sums-clause-nets
returns-in_err-sums-clause-nets c = λ reads h.
    judged_refused {X = Vec Sum Global} AreSumsOf AreNetsOf (EachTaken c.args.names.now reads) c.in_err-sums.field-0.0 c.from_residual.result c.from_residual.ensures.1 (c.in_err-sums.ensures.sums reads h)
