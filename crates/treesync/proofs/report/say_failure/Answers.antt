use Rattle.treesync.proofs.report.say_failure.Goals as goal

pub returns-in-ReadFailed : goal.returns-in-ReadFailed
returns-in-ReadFailed g c = rw c.in-ReadFailed.is c.say_of_file.ensures

pub returns-in-TreeFailed : goal.returns-in-TreeFailed
returns-in-TreeFailed g c = rw c.in-TreeFailed.is c.say_of_file-in-TreeFailed.ensures

pub returns-in-TreeDenied : goal.returns-in-TreeDenied
returns-in-TreeDenied g c = rw c.in-TreeDenied.is c.say_of_file-in-TreeDenied.ensures
