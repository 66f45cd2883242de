use Rattle.log_text.proofs.ReadLog.{new_log}
use Rattle.log_text.proofs.reader.LogReader.new.Goals as goal

pub returns-clause-reads : goal.returns-clause-reads
returns-clause-reads c =
    new_log c.new.result c.new-2.result c.new.ensures.stage c.new.ensures.opened c.new.ensures.line c.new-2.ensures.version c.new-2.ensures.count c.new-2.ensures.waiting
