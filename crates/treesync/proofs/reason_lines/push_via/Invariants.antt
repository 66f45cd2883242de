use Rattle.std.proofs.Common.{◌≡◌, ◌++◌, take}
use Rattle.treesync.specs.Explain.{via_text}
use Rattle.treesync.proofs.reason_lines.push_via.Given as goal

abbrev pub invariant-places : goal.invariant-places
invariant-places l = record {
  pushed : l.line.items ≡ l.fn.line.items ++ via_text l.fn.joint.nodes (take l.place-index l.via);
}
