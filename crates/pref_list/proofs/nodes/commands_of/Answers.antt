use Rattle.std.proofs.Common.{sym, ◌∙◌}
use Rattle.pref_list.proofs.Named.{set_at_number}
use Rattle.pref_list.proofs.nodes.commands_of.Goals as goal

pub returns-clause-commands : goal.returns-clause-commands
returns-clause-commands c = c.commands.ensures.commands ∙ sym (set_at_number _ _ _ c.requires.0 c.set.ensures)
