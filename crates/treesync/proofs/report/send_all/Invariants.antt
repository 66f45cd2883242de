use Rattle.std.proofs.Common.{◌≡◌, Ok}
use Rattle.sync_port.specs.States.{IfKnown}
use Rattle.sync_port.specs.Sending.{Sends}
use Rattle.treesync.proofs.Sending.{joined}
use Rattle.treesync.proofs.report.send_all.Given as goal

abbrev pub invariant-texts : goal.invariant-texts
invariant-texts g l = record {
  faults : (g.E.Sink.sink l.err).faults ≡ (g.E.Sink.sink l.fn.err).faults;
  sent : IfKnown (g.E.Sink.sink l.fn.err) (g.E.Sink.sink l.err) (Sends {T = Unit {0}} (joined l.texts l.text-index) (Ok tt));
}
