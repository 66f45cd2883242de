use Rattle.std.proofs.Common.{◌≡◌, ◌≤◌, ℕ, Some}
use Rattle.std.specs.List.{slice_get}
use Rattle.sync_command.specs.Changes.{Change}
use Rattle.pref_list.specs.Ranking.{set_of}
use Rattle.merge_core.specs.Afterwards.{IsAddable}
use Rattle.merge_core.proofs.checking.first_addable.Given as goal

abbrev pub invariant-logs : goal.invariant-logs
invariant-logs l = (k i : ℕ) (c : Change) → k ≤ l.log → slice_get (set_of l.joint.sets k) i ≡ Some c → IsAddable l.joint.nodes l.parents l.seen l.filled c → ⊥
