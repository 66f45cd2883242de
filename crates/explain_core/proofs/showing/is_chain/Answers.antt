use Rattle.std.proofs.Common.{ap, sym, ◌∙◌}
use Rattle.sync_command.specs.Trees.{command_at}
use Rattle.explain_core.specs.FirstChains.{first_tree}
use Rattle.explain_core.proofs.Testing.{chain_along, chain_here}
use Rattle.explain_core.proofs.showing.is_chain.Goals as goal

pub returns-then-is_empty : goal.returns-then-is_empty
returns-then-is_empty c xs e =
    chain_here c.args.joint.now.nodes (first_tree c.args.joint.now) c.args.set.now c.args.command.now c.commands-commands.ensures.fitting.fits.one c.args.via.now xs e
    c.in-Some.own.now (ap (command_at c.args.set.now) (sym c.path.ensures) ∙ sym c.in-Some.ensures) (sym c.if-is_empty.ensures) c.same.result c.same.ensures.0 c.same.ensures.1

pub returns-then-not-is_empty : goal.returns-then-not-is_empty
returns-then-not-is_empty c xs e =
    chain_along c.args.joint.now.nodes (first_tree c.args.joint.now) c.args.set.now c.args.command.now c.commands-commands.ensures.fitting.fits.one c.args.via.now xs e
    (ap (command_at c.args.set.now) (sym c.path.ensures) ∙ sym c.in-None.ensures) (sym c.if-not-is_empty.ensures) c.is_way.result (c.is_way.ensures xs e)
