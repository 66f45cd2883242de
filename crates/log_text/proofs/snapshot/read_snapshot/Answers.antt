use Rattle.std.proofs.Common.{◌∙◌, ap, Ok, sym}
use Rattle.std.proofs.lemmas.Result.{err_from_is_err_and}
use Rattle.sync_command.specs.declared.values.Version.TheVariants.{One}
use Rattle.log_text.specs.Snapshots.{snapshot_of}
use Rattle.log_text.proofs.RowLaws.{rows_of_version}
use Rattle.log_text.proofs.snapshot.read_snapshot.Goals as goal

pub returns-in_err-read_text-clause-reads : goal.returns-in_err-read_text-clause-reads
unfolding snapshot_of
returns-in_err-read_text-clause-reads c =
    let p = err_from_is_err_and c.from_residual.result c.from_residual.ensures.1 in
    rw (p.1, p.2) (c.in_err-read_text.ensures tt One c.new-form.ensures)

pub returns-clause-reads : goal.returns-clause-reads
unfolding snapshot_of
returns-clause-reads c =
    let f = c.in_ok-read_text.ensures tt One c.new-form.ensures in
    let version = ap (λ xs. xs.0) (sym f.1) ∙ sym c.into_parts.ensures.version in
    let rows = ap (λ xs. xs.1) (sym f.1) ∙ sym c.into_parts.ensures.rows in
    f.2 ∙ (λ i. Ok (version i, rows i))

pub returns-clause-printable : goal.returns-clause-printable
returns-clause-printable c = rows_of_version c.args.text.now c.into_parts.result.0 c.into_parts.result.1.items (returns-clause-reads c)
