use Rattle.std.proofs.Common.{◌≡◌, Ok, subst, sym, ◌∙◌}
use Rattle.std.specs.List.{AllByRecursion}
use Rattle.log_text.specs.Logs.{IsOfVersion, log_text}
use Rattle.rounds.specs.Compositions.{inverse_set}
use Rattle.treesync.specs.Checks.{HasItems, IsJudged}
use Rattle.treesync.specs.Steer.{IsNetSet}
use Rattle.treesync.proofs.CheckLemmas.{judged_handed_on, judged_next}
use Rattle.treesync.proofs.Labels.{net_printable}
use Rattle.treesync.proofs.undo.undone.Goals as goal

pub returns-in_err-set : goal.returns-in_err-set
returns-in_err-set c = λ read h.
    judged_handed_on (λ set cs. set ≡ cs) HasItems (IsNetSet c.args.word read) (λ set answer. answer ≡ Ok (log_text read.version (inverse_set set)))
    c.in_err-set.field-0.0 c.from_residual.result c.from_residual.ensures.1 (c.in_err-set.ensures read h)

pub inverse_text-requires : goal.inverse_text-requires
inverse_text-requires c =
    let (read, h) = c.requires in
    let found = c.in_ok-set.ensures read h in
    subst (λ v. AllByRecursion (IsOfVersion v) c.in_ok-set.set) (sym h.version)
    (subst (AllByRecursion (IsOfVersion read.version)) (sym (found.1 ∙ found.2.1)) (net_printable read.version read.commands h.printable))

pub returns : goal.returns
returns c = λ read h.
    judged_next (λ set cs. set ≡ cs) HasItems (IsNetSet c.args.word read) (λ set answer. answer ≡ Ok (log_text read.version (inverse_set set))) c.in_ok-set.set c.inverse_text.result (c.in_ok-set.ensures read h) (λ cs e p.
    subst (λ v. IsJudged HasItems (λ answer. answer ≡ Ok (log_text v (inverse_set cs))) c.inverse_text.result) h.version
    (subst (λ s. IsJudged HasItems (λ answer. answer ≡ Ok (log_text c.args.log.version (inverse_set s))) c.inverse_text.result) e c.inverse_text.ensures))
