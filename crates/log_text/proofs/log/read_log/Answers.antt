use Rattle.std.proofs.Common.{◌∙◌, ap, Ok, sym}
use Rattle.std.proofs.lemmas.Result.{err_from_is_err_and}
use Rattle.sync_command.specs.declared.values.Version.TheVariants.{One}
use Rattle.log_text.specs.Logs.{log_of}
use Rattle.log_text.proofs.LogLaws.{log_of_version}
use Rattle.log_text.proofs.log.read_log.Goals as goal

pub returns-in_err-read_text-clause-reads : goal.returns-in_err-read_text-clause-reads
unfolding log_of
returns-in_err-read_text-clause-reads c =
    let p = err_from_is_err_and c.from_residual.result c.from_residual.ensures.1 in
    rw (p.1, p.2) (c.in_err-read_text.ensures tt One (record { version = c.new-form.ensures.version; commands = c.new-form.ensures.commands }))

pub returns-clause-reads : goal.returns-clause-reads
unfolding log_of
returns-clause-reads c =
    let f = c.in_ok-read_text.ensures tt One (record { version = c.new-form.ensures.version; commands = c.new-form.ensures.commands }) in
    let version = sym f.1.version ∙ sym c.into_parts.ensures.version in
    let commands = sym f.1.commands ∙ ap (λ v. v.items) (sym c.into_parts.ensures.commands) in
    f.2 ∙ (λ i. Ok (version i, commands i))

pub returns-clause-printable : goal.returns-clause-printable
returns-clause-printable c = log_of_version c.args.text.now c.into_parts.result.0 c.into_parts.result.1.items (returns-clause-reads c)
