use Rattle.std.proofs.Common.{◌≡◌, take}
use Rattle.std.specs.List.{list_any}
use Rattle.sync_path.specs.Paths.{is_name_escape}
use Rattle.sync_path.proofs.path.has_name_escape.Given as goal

abbrev pub invariant-loop-byte : goal.invariant-loop-byte
invariant-loop-byte l = l.found ≡ list_any is_name_escape (take l.byte-index l.buffer)
