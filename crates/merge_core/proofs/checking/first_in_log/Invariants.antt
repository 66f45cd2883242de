use Rattle.refluent.specs.Families.{NonePasses}
use Rattle.pref_list.specs.Ranking.{set_of}
use Rattle.merge_core.specs.Afterwards.{IsPlaceOf, IsAddable}
use Rattle.merge_core.proofs.checking.first_in_log.Given as goal

abbrev pub invariant-places : goal.invariant-places
invariant-places l = NonePasses (IsPlaceOf (set_of l.joint.sets l.log) (IsAddable l.joint.nodes l.parents l.seen l.filled)) 0 l.place
