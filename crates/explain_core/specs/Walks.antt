-- The state of a walk over the drawn commands, by its fields.
use Rattle.std.specs.Prelude.{List, [], map, drop}
use Rattle.refluent.specs.Drawn.{drawn_of}
use Rattle.pref_list.specs.Orders.{IsRankingOf}
use Rattle.explain_core.specs.declared.reasons.Reason.{Reason}
use Rattle.explain_core.specs.declared.walk.Walk.{Walk}
use Rattle.explain_core.specs.Chains.{without}
use Rattle.explain_core.specs.Nexts.{AreNexts}
use Rattle.explain_core.specs.Reasons.{reason_of}

-- the tables are those of the joint and the set
pub record IsAt (w : Walk) : Type 0 where
  pub drawn : IsRankingOf w.joint.now.sets [] w.drawn
  pub nexts : AreNexts w.joint.now.nodes w.set.now 0 w.nexts.items

-- the reasons that are still to come
abbrev pub left_of : Walk → List Reason
left_of w = map (reason_of w.joint.now w.set.now) (without w.set.now (drop w.at (drawn_of w.joint.now.sets)))
