use Rattle.std.proofs.Common.{ap, sym, ◌∙◌}
use Rattle.std.specs.Prelude.{is_some}
use Rattle.sync_command.specs.Trees.{command_at}
use Rattle.pref_list.proofs.Named.{set_at_number}
use Rattle.pref_list.proofs.ranking.has_command.Goals as goal

pub returns-in-Some : goal.returns-in-Some
returns-in-Some c = ap is_some c.in-Some.ensures ∙ ap (λ s. is_some (command_at s c.args.path.now)) (sym (set_at_number _ _ _ c.requires.0 c.set.ensures))

pub returns-in-None : goal.returns-in-None
returns-in-None c = ap is_some c.in-None.ensures ∙ ap (λ s. is_some (command_at s c.args.path.now)) (sym (set_at_number _ _ _ c.requires.0 c.set.ensures))
