use Rattle.std.proofs.Common.{◌<◌, length, arith, rules}
use Rattle.refluent.proofs.Wanting.{parent_below, group_run, run_logs, for_root, for_child, none_of}
use Rattle.refluent.proofs.table.demand.Goals as goal
use Rattle.refluent.proofs.table.demand.Goals.{in-Some, in_default}

pub bounds-groups-parent : goal.bounds-groups-parent
bounds-groups-parent c = parent_below _ _ c.requires.table _ c.requires.place _ _ c.in-Some.is

pub run-requires-clause-start : goal.run-requires-clause-start
run-requires-clause-start c = (group_run _ _ c.requires.table _ (parent_below _ _ c.requires.table _ c.requires.place _ _ c.in-Some.is) _).0

pub run-requires-clause-end : goal.run-requires-clause-end
run-requires-clause-end c = (group_run _ _ c.requires.table _ (parent_below _ _ c.requires.table _ c.requires.place _ _ c.in-Some.is) _).1

pub run-requires-2-clause-start : goal.run-requires-2-clause-start
run-requires-2-clause-start c = (group_run _ _ c.requires.table _ c.requires.place _).0

pub run-requires-2-clause-end : goal.run-requires-2-clause-end
run-requires-2-clause-end c = (group_run _ _ c.requires.table _ c.requires.place _).1

pub write_absent-requires : goal.write_absent-requires
write_absent-requires c k d at = let h = run_logs _ _ c.requires.table c.in-Some.parent (parent_below _ _ c.requires.table _ c.requires.place _ _ c.in-Some.is) _ _ c.requires.logs _ c.run.ensures k d at in omega (arith, c.clear.auto.demands)

pub write_own-requires : goal.write_own-requires
write_own-requires c k d at = let h = run_logs _ _ c.requires.table _ c.requires.place _ _ c.requires.logs _ c.run-2.ensures k d at in omega (arith, c.clear.auto.demands, c.match-group.auto.demands)

pub returns : goal.returns
returns c = elim c.match-group.branch [
  | in-Some w ↦ for_child _ _ c.requires.table _ c.requires.place _ _ _ _ _ _ _ _ _ c.clear.ensures w.in-Some.is w.run.ensures w.write_absent.ensures w.demands-is c.run-2.ensures c.write_own.ensures
  | in_default w ↦ for_root _ _ c.requires.table _ c.requires.place _ _ _ _ _ c.clear.ensures (none_of _ w.in_default.not-Some) w.demands-is c.run-2.ensures c.write_own.ensures
]

pub offset_bounds-groups-parent : goal.offset_bounds-groups-parent
offset_bounds-groups-parent c = let h : c.in-Some.parent < length c.args.groups.now = parent_below _ _ c.requires.table _ c.requires.place _ _ c.in-Some.is in search rules
