use Rattle.std.proofs.Common.{length, ◌-◌, ◌≡◌, ◌≤◌, ◌++◌, take}
use Rattle.sync_port.specs.States.{IfKnown}
use Rattle.sync_port.proofs.sending.send.Given as goal

abbrev pub invariant-writes : goal.invariant-writes
invariant-writes g l =
    (l.sent ≤ length l.bytes) × ((g.O.Sink.sink l.sink).faults ≡ (g.O.Sink.sink l.fn.sink).faults)
    × IfKnown (g.O.Sink.sink l.fn.sink) (g.O.Sink.sink l.sink) (λ m k. (k.written ≡ m.written ++ take l.sent l.bytes) × (k.flushed ≡ m.flushed))

abbrev pub decreases-writes : goal.decreases-writes
decreases-writes g l = length l.bytes - l.sent
