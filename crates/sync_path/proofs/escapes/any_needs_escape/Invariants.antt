use Rattle.std.proofs.Common.{◌≡◌, take}
use Rattle.std.specs.List.{list_any}
use Rattle.sync_path.specs.Escapes.{needs_escape}
use Rattle.sync_path.proofs.escapes.any_needs_escape.Given as goal

abbrev pub invariant-loop-byte : goal.invariant-loop-byte
invariant-loop-byte l = l.found ≡ list_any needs_escape (take l.byte-index l.bytes)
