use Rattle.refluent.proofs.Rowing.{RowsTo}
use Rattle.refluent.proofs.parts.rows_of.Given as goal

abbrev pub invariant-groups : goal.invariant-groups
invariant-groups l = RowsTo l.claims l.groups l.rows.items l.place
