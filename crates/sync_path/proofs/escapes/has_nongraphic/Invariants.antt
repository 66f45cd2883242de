use Rattle.std.proofs.Common.{◌≡◌, take}
use Rattle.std.specs.List.{list_any}
use Rattle.sync_path.specs.Escapes.{is_nongraphic}
use Rattle.sync_path.proofs.escapes.has_nongraphic.Given as goal

abbrev pub invariant-loop-byte : goal.invariant-loop-byte
invariant-loop-byte l = l.found ≡ list_any is_nongraphic (take l.byte-index l.text)
