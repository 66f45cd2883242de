use Rattle.std.proofs.Common.{subst, sym}
use Rattle.treesync.specs.Joining.{EachStands}
use Rattle.treesync.specs.Logs.{IsLogFile, IsTotal}
use Rattle.treesync.proofs.JoinLemmas.{joined_now}
use Rattle.treesync.proofs.joining.join_logs.Goals as goal

pub returns : goal.returns
returns c = λ reads h.
    joined_now c.args.names.now c.args.logs c.in_ok-sums.sums _ reads h
    (c.joint_version-version.ensures reads (subst (λ logs. EachStands (IsLogFile IsTotal) logs reads) (sym c.deref.ensures.value) h))
    (c.in_ok-sums.ensures.sums reads h) (λ rs s. c.in_ok-joint.ensures rs s)
