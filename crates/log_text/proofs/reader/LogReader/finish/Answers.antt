use Rattle.log_text.proofs.ReadLog.{ends_right, ends_wrong}
use Rattle.log_text.proofs.reader.LogReader.finish.Goals as goal

pub returns-in-Ok-clause-ends : goal.returns-in-Ok-clause-ends
returns-in-Ok-clause-ends c text taken k = ends_right c.args.self.queue taken text c.read_count.result c.read_count.ensures (c.in-Ok.ensures.ends taken text k)

pub returns-clause-ends : goal.returns-clause-ends
returns-clause-ends c text taken k = ends_wrong c.args.self.queue taken c.args.self.queue.waiting.items text c.in-Err.fault (c.in-Err.ensures.ends taken text k)
