use Rattle.std.proofs.Common.{◌∙◌, ap, Ok, sym}
use Rattle.std.proofs.lemmas.Result.{err_from_is_err_and}
use Rattle.sync_path.specs.Paths.{parts}
use Rattle.log_text.specs.Frame.{framed_of}
use Rattle.pref_list.specs.Prefs.{prefs_of, prefs_head, judge_rule, without_head}
use Rattle.pref_list.proofs.RuleLines.{fails_without_head}
use Rattle.pref_list.proofs.prefs.read_prefs.Goals as goal

pub returns-in_err-read_text : goal.returns-in_err-read_text
unfolding prefs_of
returns-in_err-read_text c =
    let p = err_from_is_err_and c.from_residual.result c.from_residual.ensures.1 in
    rw (p.1, p.2) (fails_without_head c.in_err-read_text.field-0.0 (framed_of prefs_head judge_rule (parts 10 c.args.text.now)) (c.in_err-read_text.ensures tt tt c.new-form.ensures))

pub returns : goal.returns
unfolding prefs_of
returns c =
    let f = c.in_ok-read_text.ensures tt tt c.new-form.ensures in
    ap without_head f.2 ∙ ap Ok (sym f.1 ∙ ap (λ v. v.items) (sym c.into_rules.ensures))
