use Rattle.std.proofs.Common.{rules, subst, sym}
use Rattle.std.specs.List.{AllByRecursion}
use Rattle.log_text.specs.Logs.{IsOfVersion}
use Rattle.treesync.proofs.MergeLemmas.{merger_printable, merger_printed}
use Rattle.treesync.proofs.merge.merger_text.Goals as goal

pub print_log-requires : goal.print_log-requires
print_log-requires c =
    let r = c.requires in
    subst (AllByRecursion (IsOfVersion c.args.merged.now.logs.version)) (sym c.commands.ensures.commands)
    (merger_printable c.args.merged.now.logs r.0.0 c.args.merged.now.merger r.1.first r.0.1 r.1.joined)

pub returns : goal.returns
returns c = λ asked of.
    merger_printed c.args.merged.now.logs asked.0 c.args.merged.now.merger of.first asked.1 of.joined c.print_log.new.out c.commands.ensures.order (search rules)
