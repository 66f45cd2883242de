use Rattle.std.proofs.Common.{◌∙◌, ap, Ok, sym}
use Rattle.std.proofs.lemmas.Result.{err_from_is_err_and}
use Rattle.sync_command.specs.declared.values.Version.TheVariants.{One}
use Rattle.record_core.specs.Scripts.{script_of}
use Rattle.record_core.proofs.script.read_script.Goals as goal

pub returns-in_err-read_text : goal.returns-in_err-read_text
unfolding script_of
returns-in_err-read_text c =
    let p = err_from_is_err_and c.from_residual.result c.from_residual.ensures.1 in
    rw (p.1, p.2) (c.in_err-read_text.ensures tt One (record { version = c.new-form.ensures.version; ops = c.new-form.ensures.ops }))

pub returns : goal.returns
unfolding script_of
returns c =
    let f = c.in_ok-read_text.ensures tt One (record { version = c.new-form.ensures.version; ops = c.new-form.ensures.ops }) in
    let version = sym f.1.version ∙ sym c.into_parts.ensures.version in
    let ops = sym f.1.ops ∙ ap (λ v. v.items) (sym c.into_parts.ensures.ops) in
    f.2 ∙ (λ i. Ok (version i, ops i))
