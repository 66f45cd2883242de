use Rattle.std.proofs.Common.{◌≡◌, ◌+◌, length}
use Rattle.sync_path.specs.Paths.{parts}
use Rattle.sync_path.proofs.AllNames.{IsClean}
use Rattle.sync_path.proofs.names.are_all_names.Given as goal

abbrev pub invariant-names : goal.invariant-names
invariant-names l = record {
  clean : IsClean l.rest l.bytes;
  count : length (parts 47 l.bytes) ≡ l.place + length (parts 47 l.rest);
}
