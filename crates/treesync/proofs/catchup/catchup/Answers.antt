use Rattle.treesync.specs.Catchup.{IsCaughtUp}
use Rattle.treesync.specs.Checks.{HasItems}
use Rattle.treesync.specs.Joining.{AreLogFiles, IsLogs, log_limits}
use Rattle.treesync.specs.declared.logs.TheConstants.{FULL_ALLOWANCE}
use Rattle.treesync.proofs.CheckLemmas.{then_judged}
use Rattle.treesync.proofs.catchup.catchup.Goals as goal

pub caught_up-requires-clause-logs : goal.caught_up-requires-clause-logs
caught_up-requires-clause-logs g c = let read = c.in_ok-logs.ensures.answer.allowed in (read.0, read.1)

pub returns : goal.returns
returns g c =
    then_judged AreLogFiles HasItems (IsLogs FULL_ALLOWANCE c.args.names.now) (IsCaughtUp c.args.names.now) (log_limits c.args.names.now)
    (g.F.Files.files c.args.files.now) (g.F.Files.files c.read_logs.new.files) c.in_ok-logs.logs c.caught_up.result c.in_ok-logs.ensures.answer (λ reads h. c.caught_up.ensures reads h)
