use Rattle.std.proofs.Common.{sym, subst, ◌∙◌}
use Rattle.std.specs.List.{AllByRecursion}
use Rattle.log_text.specs.Logs.{IsOfVersion}
use Rattle.treesync.proofs.Labels.{inverse_printable}
use Rattle.treesync.proofs.undo.inverse_text.Goals as goal

pub print_log-requires : goal.print_log-requires
print_log-requires c =
    subst (AllByRecursion (IsOfVersion c.args.version)) (sym (c.commands.ensures.commands ∙ c.in_ok-inverse.ensures)) (inverse_printable c.args.version c.args.set.now c.requires)
