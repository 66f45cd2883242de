use Rattle.std.proofs.Common.{[], ◌∙◌, ap, subst, unwrap_or}
use Rattle.sync_command.specs.declared.values.Version.TheVariants.{One}
use Rattle.log_text.specs.Pieces.{head_if}
use Rattle.std.proofs.lemmas.Result.{err_from_is_err_and}
use Rattle.log_text.specs.OpenLogs.{ended_part, IsOpenLog, FailsOpenLog}
use Rattle.log_text.proofs.LogLaws.{complete_of_version}
use Rattle.log_text.proofs.OpenLogLemmas.{new_list, open_refused, open_fails, open_ends}
use Rattle.log_text.proofs.open_log.read_open_log.Goals as goal

pub returns-in_err-feed-clause-reads : goal.returns-in_err-feed-clause-reads
returns-in_err-feed-clause-reads c =
    let p = err_from_is_err_and c.from_residual.result c.from_residual.ensures.1 in
    let k = new_list c.new-lines.result c.new-form.result c.new-lines.ensures.stage c.new-lines.ensures.opened c.new-lines.ensures.line c.new-form.ensures.version c.new-form.ensures.commands in
    let h = open_refused c.feed.new.self c.feed.new.form c.ended_part-ended_lines.result.now c.in_err-feed.field-0.0 c.in_err-feed.ensures.stage (c.in_err-feed.ensures.knows tt [] k) in
    rw (p.1, p.2) (subst (λ t. FailsOpenLog t c.in_err-feed.field-0.0) c.ended_part-ended_lines.ensures h)

pub returns-in_err-ended-clause-reads : goal.returns-in_err-ended-clause-reads
returns-in_err-ended-clause-reads c =
    let p = err_from_is_err_and c.from_residual-in_err-ended.result c.from_residual-in_err-ended.ensures.1 in
    let k = new_list c.new-lines.result c.new-form.result c.new-lines.ensures.stage c.new-lines.ensures.opened c.new-lines.ensures.line c.new-form.ensures.version c.new-form.ensures.commands in
    let h = open_fails c.feed.new.form c.ended_part-ended_lines.result.now c.in_err-ended.field-0.0 (c.in_err-ended.ensures tt c.ended_part-ended_lines.result.now (c.in_ok-feed.ensures.knows tt [] k)) in
    rw (p.1, p.2) (subst (λ t. FailsOpenLog t c.in_err-ended.field-0.0) c.ended_part-ended_lines.ensures h)

pub returns-clause-reads : goal.returns-clause-reads
returns-clause-reads c =
    let k = new_list c.new-lines.result c.new-form.result c.new-lines.ensures.stage c.new-lines.ensures.opened c.new-lines.ensures.line c.new-form.ensures.version c.new-form.ensures.commands in
    let known = c.in_ok-feed.ensures.knows tt [] k in
    let version = c.version_if.ensures ∙ (λ i. unwrap_or (head_if (c.has_opened-opened.ensures i) (c.into_parts-version.ensures.version i)) One) in
    subst (λ t. IsOpenLog t c.version_if.result c.into_parts-version.result.1.items c.in_ok-ended.ended) c.ended_part-ended_lines.ensures
    (open_ends c.feed.new.self c.feed.new.form c.ended_part-ended_lines.result.now c.in_ok-ended.ended c.version_if.result c.into_parts-version.result.1.items known
    (c.in_ok-ended.ensures tt c.ended_part-ended_lines.result.now known) version (ap (λ v. v.items) c.into_parts-version.ensures.commands))

pub returns-clause-printable : goal.returns-clause-printable
returns-clause-printable c =
    let h = returns-clause-reads c in
    complete_of_version (ended_part c.args.text.now) c.version_if.result c.into_parts-version.result.1.items h.first h.complete_commands
