use Rattle.resume_apply.proofs.Blocking.{seeking_ends, seeking_on, still_ready}
use Rattle.resume_apply.proofs.WholeWalk.{at_end, command_is, in_set}
use Rattle.resume_apply.proofs.preparing.first_blocked.Goals as goal

pub look_at-requires-clause-named : goal.look_at-requires-clause-named
look_at-requires-clause-named g c =
    let in_set = in_set _ _ _ _ c.commands-commands.ensures.commands c.nodes-test.true c.command-item.is in
    command_is c.args.set.now c.nodes.command-index c.command-item.result c.commands-commands.ensures.fitting.fits.one in_set.0 in_set.1

pub nodes-preserved : goal.nodes-preserved
nodes-preserved g c =
    let in_set = in_set _ _ _ _ c.commands-commands.ensures.commands c.nodes-test.true c.command-item.is in
    seeking_on c.args.set.now c.nodes.command-index c.command-item.result _ _ _ c.in_ok-look_at.field-0 c.nodes.first c.look_at.new.first in_set.0 in_set.1 c.nodes.invariant c.in_ok-look_at.ensures.asking c.in_ok-look_at.ensures.answer

pub returns-clause-answer : goal.returns-clause-answer
returns-clause-answer g c = (seeking_ends c.args.set.now c.nodes.command-index _ _ c.nodes.first (at_end _ _ _ c.commands-commands.ensures.commands c.nodes-test.false) c.nodes.invariant).1

pub look_at-requires-clause-ready : goal.look_at-requires-clause-ready
look_at-requires-clause-ready g c = still_ready c.args.set.now _ _ c.nodes.invariant.asked.contents c.nodes.invariant.ready
