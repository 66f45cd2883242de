use Rattle.std.proofs.Common.{rules, subst, sym}
use Rattle.std.specs.List.{AllByRecursion}
use Rattle.log_text.specs.Logs.{IsOfVersion}
use Rattle.treesync.proofs.TransitionLemmas.{merger_drawn, merger_fits, transition_printable, transition_printed}
use Rattle.treesync.proofs.transitions.transition_text.Goals as goal

pub transition-requires-clause-drawn : goal.transition-requires-clause-drawn
transition-requires-clause-drawn c = let r = c.requires.merged in merger_drawn c.args.merged.now.logs r.0.1 r.1.joined r.0.0 c.args.merged.now.merger r.1.first

pub transition-requires-clause-fits : goal.transition-requires-clause-fits
transition-requires-clause-fits c = let r = c.requires.merged in merger_fits c.args.merged.now.logs r.0.1 r.1.joined r.0.0 c.args.merged.now.merger r.1.first

pub print_log-requires : goal.print_log-requires
print_log-requires c =
    let r = c.requires.merged in
    subst (AllByRecursion (IsOfVersion c.args.merged.now.logs.version)) (sym c.commands.ensures.commands)
    (transition_printable c.args.merged.now.logs r.0.1 r.1.joined r.0.0 c.args.merged.now.merger r.1.first c.args.number c.requires.number.0 c.requires.number.1 c.in_ok-set.set c.in_ok-set.ensures)

pub returns : goal.returns
returns c = λ asked of.
    transition_printed c.args.merged.now.logs asked.1 of.joined asked.0 c.args.merged.now.merger of.first c.args.number c.requires.number.0 c.requires.number.1 c.in_ok-set.set c.in_ok-set.ensures c.print_log.new.out (search rules)
