use Rattle.std.proofs.Common.{sym, subst}
use Rattle.std.specs.List.{AllByRecursion}
use Rattle.log_text.specs.Logs.{IsOfVersion}
use Rattle.treesync.proofs.Jobs.{net_refused, set_printable}
use Rattle.treesync.proofs.canon.net_text.Goals as goal

pub returns-in-Some : goal.returns-in-Some
returns-in-Some c = λ read h. net_refused c.args.log.commands.broken c.args.log.commands.sum c.args.word read c.in-Some.number c.in-Some.is h.commands

pub print_log-requires : goal.print_log-requires
print_log-requires c =
    let h = c.requires.1 in
    subst (AllByRecursion (IsOfVersion c.args.log.version)) (sym c.commands.ensures.commands)
    (set_printable c.args.log.commands.broken c.args.log.commands.sum c.in_ok-set-in-None.set c.in-None.is (λ cs s. c.in_ok-set-in-None.ensures cs s)
    c.args.log.version c.requires.0 h.version h.commands h.printable)
