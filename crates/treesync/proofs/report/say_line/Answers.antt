use Rattle.treesync.proofs.report.say_line.Goals as goal

pub returns-in-OfLogs : goal.returns-in-OfLogs
returns-in-OfLogs g c = rw c.in-OfLogs.is c.say_disagreement.ensures

pub returns-in-CanAdd : goal.returns-in-CanAdd
returns-in-CanAdd g c = rw c.in-CanAdd.is c.say_can_add.ensures
