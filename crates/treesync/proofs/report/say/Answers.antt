use Rattle.treesync.proofs.report.say.Goals as goal

pub returns-in-InvalidArguments : goal.returns-in-InvalidArguments
returns-in-InvalidArguments g c = rw c.in-InvalidArguments.is c.say_what.ensures

pub returns-in-OutOfMemory : goal.returns-in-OutOfMemory
returns-in-OutOfMemory g c = rw c.in-OutOfMemory.is c.say_what-in-OutOfMemory.ensures
