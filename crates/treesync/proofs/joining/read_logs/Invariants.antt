use Rattle.std.proofs.Common.{◌≡◌, ◌≤◌, length, drop}
use Rattle.treesync.specs.Joining.{IsLogs, log_limits}
use Rattle.treesync.specs.declared.input.TheConstants.{FILE_LIMIT}
use Rattle.treesync.proofs.JoinLemmas.{LeadsTo}
use Rattle.treesync.proofs.joining.read_logs.Given as goal

abbrev pub invariant-names : goal.invariant-names
invariant-names g l = record {
  many : length l.logs.items ≡ l.at;
  within : l.left.bytes ≤ FILE_LIMIT;
  leads : LeadsTo (IsLogs l.fn.allowance l.names) (log_limits l.names) (g.F.Files.files l.fn.files) l.logs.items l.left (drop l.at l.names) (g.F.Files.files l.files);
}
