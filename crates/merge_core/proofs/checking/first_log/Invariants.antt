use Rattle.std.proofs.Common.{◌≡◌, ◌<◌, ℕ, Some}
use Rattle.std.specs.List.{slice_get}
use Rattle.refluent.specs.declared.joint.Pick.{Pick}
use Rattle.pref_list.specs.Picks.{command_of}
use Rattle.merge_core.proofs.checking.first_log.Given as goal

abbrev pub invariant-picks : goal.invariant-picks
invariant-picks l = (k : ℕ) (pick : Pick) → k < l.at → slice_get l.picks k ≡ Some pick → command_of l.joint.sets pick ≡ Some l.command → ⊥
