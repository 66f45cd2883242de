use Rattle.treesync.proofs.Sending.{says}
use Rattle.treesync.proofs.report.report.Goals as goal

pub returns-in-Ok-clause-says : goal.returns-in-Ok-clause-says
returns-in-Ok-clause-says g c = rw c.in-Ok.is c.say_end.ensures.says

pub returns-in-Err-clause-says : goal.returns-in-Err-clause-says
returns-in-Err-clause-says g c =
    rw c.in-Err.is (says (g.E.Sink.sink c.args.err.now) (g.E.Sink.sink c.say.new.err) _ c.say.result c.say.ensures.faults c.say.ensures.contents)
