use Rattle.std.proofs.Common.{◌≡◌, ℕ, length, Some, Vec, Global}
use Rattle.std.specs.List.{slice_get}
use Rattle.pref_list.specs.Ranking.{set_from}
use Rattle.pref_list.proofs.PlaceLists.{FilledTo, FilledWithin}
use Rattle.pref_list.proofs.nodes.nodes_of.Given as goal

abbrev pub invariant-logs : goal.invariant-logs
invariant-logs l = record {
  many : length l.lists.items ≡ l.log;
  each : (k : ℕ) (places : Vec ℕ Global) → slice_get l.lists.items k ≡ Some places → length places.items ≡ length (set_from l.joint.sets k);
}

abbrev pub invariant-nodes : goal.invariant-nodes
invariant-nodes l = FilledTo l.joint.nodes l.joint.sets l.lists.items l.node

abbrev pub invariant-picks : goal.invariant-picks
invariant-picks l = FilledWithin l.joint.nodes l.joint.sets l.lists.items l.node l.pick-items l.pick-index
