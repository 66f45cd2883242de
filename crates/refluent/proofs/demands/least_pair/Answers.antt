use Rattle.refluent.proofs.Pairs.{settled_by, rows_nothing, rows_seen, rows_first}
use Rattle.refluent.proofs.demands.least_pair.Goals as goal
use Rattle.refluent.proofs.demands.least_pair.Goals.{in-Anything, in-AnyDirectory+then-not-is_dir_seen+in_default, in-AnyDirectory+else-not-is_dir_seen}

pub returns-in-None : goal.returns-in-None
returns-in-None c = settled_by _ _ _ _ c.in-Absent.is c.rows-test.true c.index-demands-place.is c.in-None.is c.first_incompatible-in-Absent.ensures c.rows.invariant.rows

pub rows-preserved : goal.rows-preserved
rows-preserved c = elim c.match-demand.branch [
  | in-Anything w ↦ rows_nothing _ _ _ _ _ w.in-Anything.is c.rows-test.true c.index-demands-place.is w.is_dir_seen-is c.rows.invariant
  | in-AnyDirectory+then-not-is_dir_seen+in_default w ↦ rows_first _ _ _ _ _ _ w.in-AnyDirectory.is c.rows-test.true c.index-demands-place.is w.in_default.is w.first_incompatible.ensures c.rows.invariant
  | in-AnyDirectory+else-not-is_dir_seen w ↦ rows_seen _ _ _ _ _ w.in-AnyDirectory.is c.rows-test.true c.index-demands-place.is w.if-not-is_dir_seen.false c.rows.invariant
]
