use Rattle.std.proofs.Common.{◌≡◌, ℕ, length, Some, Vec, Global, []}
use Rattle.std.specs.List.{slice_get}
use Rattle.sync_command.specs.Changes.{Change}
use Rattle.refluent.proofs.parts.empty_lists.Given as goal

abbrev pub invariant-logs : goal.invariant-logs
invariant-logs l = record {
  many : length l.lists.items ≡ l._log;
  none : (k : ℕ) (cs : Vec Change Global) → slice_get l.lists.items k ≡ Some cs → cs.items ≡ [];
}
