use Rattle.treesync.proofs.Sending.{says}
use Rattle.treesync.proofs.report.say_end.Goals as goal

pub returns-then-status-eq4-clause-says : goal.returns-then-status-eq4-clause-says
returns-then-status-eq4-clause-says g c =
    rw c.if-status-eq4.true (says (g.E.Sink.sink c.args.err.now) (g.E.Sink.sink c.say_what.new.err) _ c.say_what.result c.say_what.ensures.faults c.say_what.ensures.contents)

pub returns-then-status-eq16-clause-says : goal.returns-then-status-eq16-clause-says
returns-then-status-eq16-clause-says g c =
    rw c.if-status-eq16.true (says (g.E.Sink.sink c.args.err.now) (g.E.Sink.sink c.say_what-then-status-eq16.new.err) _ c.say_what-then-status-eq16.result
    c.say_what-then-status-eq16.ensures.faults c.say_what-then-status-eq16.ensures.contents)
