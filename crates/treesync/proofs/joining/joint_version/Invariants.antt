use Rattle.std.proofs.Common.{◌≡◌, List, drop}
use Rattle.treesync.specs.Joining.{EachStands, joint_version}
use Rattle.treesync.specs.Logs.{IsLogFile, IsTotal, ReadLog, later_version}
use Rattle.treesync.proofs.joining.joint_version.Given as goal

abbrev pub invariant-logs : goal.invariant-logs
invariant-logs l = (reads : List ReadLog) → EachStands (IsLogFile IsTotal) l.logs reads → later_version l.version (joint_version (drop l.log-index reads)) ≡ joint_version reads
