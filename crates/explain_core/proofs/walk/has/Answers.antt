use Rattle.std.proofs.Common.{ap, sym, ◌∙◌}
use Rattle.sync_command.specs.Trees.{command_at}
use Rattle.explain_core.proofs.Listing.{has_is, has_not}
use Rattle.explain_core.proofs.walk.has.Goals as goal

pub returns-in-Some : goal.returns-in-Some
returns-in-Some c =
    has_is c.args.set.now c.args.command.now c.in-Some.own.now c.commands-commands.ensures.fitting.fits.one (ap (command_at c.args.set.now) (sym c.path.ensures) ∙ sym c.in-Some.ensures)
    c.same.result c.same.ensures.0 c.same.ensures.1

pub returns-in-None : goal.returns-in-None
returns-in-None c = has_not c.args.set.now c.args.command.now c.commands-commands.ensures.fitting.fits.one (ap (command_at c.args.set.now) (sym c.path.ensures) ∙ sym c.in-None.ensures)
