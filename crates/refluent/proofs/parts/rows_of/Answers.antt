use Rattle.std.proofs.Common.{arith}
use Rattle.refluent.proofs.Rowing.{group_bounds, rows_more, rows_done}
use Rattle.refluent.proofs.parts.rows_of.Goals as goal

pub node-requires : goal.node-requires
node-requires c = (group_bounds _ _ c.requires c.groups.place c.groups-test.true _).0

pub run-requires-clause-start : goal.run-requires-clause-start
run-requires-clause-start c = (group_bounds _ _ c.requires c.groups.place c.groups-test.true _).1

pub run-requires-clause-end : goal.run-requires-clause-end
run-requires-clause-end c = (group_bounds _ _ c.requires c.groups.place c.groups-test.true _).2

pub groups-preserved : goal.groups-preserved
groups-preserved c = rows_more c.args.claims.now c.run.result.now c.args.groups.now c.groups.rows.items c.push.new.self.items c.groups.place c.groups-test.true _ c.in_ok-path.path c.node.result.now c.in_ok-value.value c.groups.invariant c.node.ensures c.in_ok-path.ensures c.run.ensures c.in_ok-value.ensures c.in_ok-push.ensures.items

pub returns : goal.returns
returns c = rows_done _ _ _ c.groups.place (omega (arith, c.groups.auto.place-end)) c.groups.invariant
