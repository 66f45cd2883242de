use Rattle.log_text.proofs.ReadLog.{taken_next}
use Rattle.log_text.proofs.reader.LogReader.take.Goals as goal

pub returns-clause-reads : goal.returns-clause-reads
returns-clause-reads c text taken k =
    taken_next c.args.self.now.lines c.args.self.now.queue c.take.new.self taken text c.take.result c.take.ensures.version c.take.ensures.count c.take.ensures.waiting k
