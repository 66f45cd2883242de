use Rattle.record_core.proofs.Looked.{sums_all, sums_broken, sums_on}
use Rattle.std.proofs.Common.{ap, Err}
use Rattle.record_core.proofs.sealing.sum_of.Goals as goal

pub returns-in-Err-Broken : goal.returns-in-Err-Broken
returns-in-Err-Broken c = sums_broken c.commands.sum c.args.commands.now c.commands.place c.in_ok-copy.field-0 c.index-commands-place.result c.commands.invariant c.commands-test.true c.index-commands-place.is c.in_ok-copy.ensures
    (c.in-Err-Broken.ensures.broken _ c.commands.invariant (ap Err c.in-Err-Broken.field-0-is))

pub commands-preserved : goal.commands-preserved
commands-preserved c = sums_on c.add.new.self c.args.commands.now c.commands.place c.in_ok-copy.field-0 c.index-commands-place.result c.commands-test.true c.index-commands-place.is c.in_ok-copy.ensures (c.in-Ok.ensures.ok _ c.commands.invariant)

pub returns : goal.returns
returns c = sums_all c.commands.sum c.args.commands.now c.commands.place c.commands.invariant c.commands-test.false
