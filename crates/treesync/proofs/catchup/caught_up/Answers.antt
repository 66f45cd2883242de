use Rattle.std.proofs.Common.{◌≡◌, ◌∙◌, List, Ok, Err, ap, subst, sym}
use Rattle.std.specs.List.{AllByRecursion}
use Rattle.sync_command.specs.Changes.{Change}
use Rattle.canon_set.specs.Sets.{canonical}
use Rattle.log_text.specs.Logs.{IsOfVersion, log_text}
use Rattle.rounds.specs.Compositions.{composition}
use Rattle.treesync.specs.Catchup.{AreNetsOf, IsComposed, nets_of}
use Rattle.treesync.specs.Checks.{HasItems, IsJudged, Next}
use Rattle.treesync.specs.Joining.{EachStands, EachTaken, joint_version}
use Rattle.treesync.specs.Logs.{IsLogFile, IsTotal}
use Rattle.treesync.proofs.Catching.{composition_printable}
use Rattle.treesync.proofs.CheckLemmas.{judged_handed_on, judged_next}
use Rattle.treesync.proofs.JoinLemmas.{are_printable}
use Rattle.treesync.proofs.catchup.caught_up.Goals as goal

pub set_text-requires : goal.set_text-requires
set_text-requires c =
    let (reads, h) = c.requires.logs in
    let nets = c.in_ok-sets.ensures.nets reads h in
    let set = c.in_ok-set.ensures in
    let these : c.deref-2.result.now ≡ nets_of reads = c.deref-2.ensures.value ∙ nets.1 ∙ ap nets_of nets.2.0 in
    let is : c.in_ok-set.set ≡ canonical (composition (nets_of reads)) = set.1 ∙ set.2.1 ∙ ap (λ s. canonical (composition s)) these in
    let version : c.joint_version-version.result ≡ joint_version reads = c.joint_version-version.ensures reads (subst (λ l. EachStands (IsLogFile IsTotal) l reads) (sym c.deref.ensures.value) h) in
    subst (λ v. AllByRecursion (IsOfVersion v) c.in_ok-set.set) (sym version) (subst (AllByRecursion (IsOfVersion (joint_version reads))) (sym is) (composition_printable reads (are_printable c.args.logs.items reads h)))

pub returns : goal.returns
returns c = λ reads h.
    let version : c.joint_version-version.result ≡ joint_version reads = c.joint_version-version.ensures reads (subst (λ l. EachStands (IsLogFile IsTotal) l reads) (sym c.deref.ensures.value) h) in
    judged_next AreNetsOf HasItems (EachTaken c.args.names.now reads) (λ taken. Next (IsComposed c.args.names.now (nets_of taken)) (λ set answer. answer ≡ Ok (log_text (joint_version taken) set))) c.in_ok-sets.sets c.set_text.result (c.in_ok-sets.ensures.nets reads h) (λ taken n t.
    judged_next (λ set cs. set ≡ cs) HasItems (IsComposed c.args.names.now (nets_of taken)) (λ set answer. answer ≡ Ok (log_text (joint_version taken) set)) c.in_ok-set.set c.set_text.result
    (subst (λ s. IsJudged (λ (set : List Change) cs. set ≡ cs) (IsComposed c.args.names.now s) (Ok c.in_ok-set.set)) (c.deref-2.ensures.value ∙ n) c.in_ok-set.ensures) (λ cs e p.
    subst (λ v. IsJudged HasItems (λ answer. answer ≡ Ok (log_text v cs)) c.set_text.result) (version ∙ ap joint_version (sym t.0))
    (subst (λ s. IsJudged HasItems (λ answer. answer ≡ Ok (log_text c.joint_version-version.result s)) c.set_text.result) e c.set_text.ensures)))

pub returns-in_err-set : goal.returns-in_err-set
returns-in_err-set c = λ reads h.
    judged_next AreNetsOf HasItems (EachTaken c.args.names.now reads) (λ taken. Next (IsComposed c.args.names.now (nets_of taken)) (λ set answer. answer ≡ Ok (log_text (joint_version taken) set))) c.in_ok-sets.sets c.from_residual-in_err-set.result (c.in_ok-sets.ensures.nets reads h) (λ taken n t.
    judged_handed_on (λ set cs. set ≡ cs) HasItems (IsComposed c.args.names.now (nets_of taken)) (λ set answer. answer ≡ Ok (log_text (joint_version taken) set)) c.in_err-set.field-0.0 c.from_residual-in_err-set.result c.from_residual-in_err-set.ensures.1
    (subst (λ s. IsJudged {X = List Change} (λ set cs. set ≡ cs) (IsComposed c.args.names.now s) (Err c.in_err-set.field-0.0)) (c.deref-2.ensures.value ∙ n) c.in_err-set.ensures))
