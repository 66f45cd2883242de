use Rattle.treesync.proofs.Sending.{flushes}
use Rattle.treesync.proofs.report.print.Goals as goal

pub returns-clause-contents : goal.returns-clause-contents
returns-clause-contents g c =
    flushes (g.O.Sink.sink c.args.out.now).contents (g.O.Sink.sink c.send.new.sink).contents (g.O.Sink.sink c.flush.new.self).contents c.args.text.now _ c.flush.result
    c.in_ok-send.ensures.contents c.flush.ensures.contents
