use Rattle.std.proofs.Common.{◌≡◌, ◌∙◌, List, Ok, Err, subst, sym}
use Rattle.sync_command.specs.Changes.{Change}
use Rattle.canon_set.specs.Sums.{StandsFor}
use Rattle.treesync.specs.Catchup.{AreNetsOf, IsComposed, nets_of}
use Rattle.treesync.specs.Checks.{HasItems, IsJudged, Next}
use Rattle.treesync.specs.Joining.{AllTaken, AreJoined, EachStands, EachTaken, joint_version}
use Rattle.treesync.specs.Logs.{IsLogFile, IsTotal, ReadLog, later_version}
use Rattle.treesync.specs.Rebase.{IsMergedOnto, IsMergedWork, IsTakenWork, as_logs, side_number}
use Rattle.treesync.specs.Transition.{IsTransitioned}
use Rattle.treesync.proofs.CheckLemmas.{judged_handed_on, judged_next}
use Rattle.treesync.proofs.Rebasing.{two_joined, work_printable}
use Rattle.treesync.proofs.rebase.rebased.Goals as goal

pub returns-in_err-set : goal.returns-in_err-set
returns-in_err-set c = λ read reads hw hs.
    judged_next (λ sum (r : ReadLog). StandsFor sum r.commands) HasItems (IsTakenWork c.args.word read) (λ taken. Next (EachTaken c.args.names.now reads) (IsMergedOnto c.args.wanted.now.side c.args.wanted.now.word c.args.wanted.now.rules.items c.args.names.now taken))
    c.in_ok-sum.sum c.from_residual-in_err-set.result (c.in_ok-sum.ensures read hw) (λ taken s t.
    judged_next AreNetsOf HasItems (EachTaken c.args.names.now reads) (IsMergedOnto c.args.wanted.now.side c.args.wanted.now.word c.args.wanted.now.rules.items c.args.names.now taken) c.in_ok-nets.nets c.from_residual-in_err-set.result (c.in_ok-nets.ensures.nets reads hs) (λ sets n e.
    judged_handed_on (λ set cs. set ≡ cs) HasItems (IsComposed c.args.names.now (nets_of sets)) (IsMergedWork c.args.wanted.now.side c.args.wanted.now.word c.args.wanted.now.rules.items taken sets) c.in_err-set.field-0.0 c.from_residual-in_err-set.result c.from_residual-in_err-set.ensures.1
    (subst (λ s. IsJudged {X = List Change} (λ set cs. set ≡ cs) (IsComposed c.args.names.now s) (Err c.in_err-set.field-0.0)) (c.deref-2.ensures.value ∙ n) c.in_err-set.ensures)))

pub returns-in_err-joined : goal.returns-in_err-joined
returns-in_err-joined c = λ read reads hw hs.
    let version : c.later_version-version.result ≡ later_version read.version (joint_version reads) =
    c.later_version-version.ensures ∙ (λ i. later_version (hw.version i) (c.joint_version.ensures reads (subst (λ l. EachStands (IsLogFile IsTotal) l reads) (sym c.deref.ensures.value) hs) i)) in
    judged_next (λ sum (r : ReadLog). StandsFor sum r.commands) HasItems (IsTakenWork c.args.word read) (λ taken. Next (EachTaken c.args.names.now reads) (IsMergedOnto c.args.wanted.now.side c.args.wanted.now.word c.args.wanted.now.rules.items c.args.names.now taken))
    c.in_ok-sum.sum c.from_residual-in_err-joined.result (c.in_ok-sum.ensures read hw) (λ taken s t.
    judged_next AreNetsOf HasItems (EachTaken c.args.names.now reads) (IsMergedOnto c.args.wanted.now.side c.args.wanted.now.word c.args.wanted.now.rules.items c.args.names.now taken) c.in_ok-nets.nets c.from_residual-in_err-joined.result (c.in_ok-nets.ensures.nets reads hs) (λ sets n e.
    let found = subst (λ s. IsJudged (λ (set : List Change) cs. set ≡ cs) (IsComposed c.args.names.now s) (Ok c.in_ok-set.set)) (c.deref-2.ensures.value ∙ n) c.in_ok-set.ensures in
    judged_next (λ set cs. set ≡ cs) HasItems (IsComposed c.args.names.now (nets_of sets)) (IsMergedWork c.args.wanted.now.side c.args.wanted.now.word c.args.wanted.now.rules.items taken sets) c.in_ok-set.set c.from_residual-in_err-joined.result found (λ cs same p.
    judged_handed_on AreJoined HasItems (AllTaken (as_logs taken sets cs)) (IsTransitioned (side_number c.args.wanted.now.side) c.args.wanted.now.word c.args.wanted.now.rules.items) c.in_err-joined.field-0.0 c.from_residual-in_err-joined.result c.from_residual-in_err-joined.ensures.1
    (subst (λ x. IsJudged AreJoined (AllTaken (as_logs taken sets x)) (Err c.in_err-joined.field-0.0)) same
    (c.in_err-joined.ensures taken sets s (version ∙ (λ i. later_version (sym t.0 i).version (joint_version (sym e.0 i))))
    (work_printable c.args.work c.args.sets.items read taken reads sets c.in_ok-set.set hw hs t.0 e.0 (same ∙ p.1)))))))

pub side_text-requires-clause-two : goal.side_text-requires-clause-two
side_text-requires-clause-two c =
    let (read, hw) = c.requires.work in
    let (reads, hs) = c.requires.sets in
    let sum = c.in_ok-sum.ensures read hw in
    let nets = c.in_ok-nets.ensures.nets reads hs in
    let found = subst (λ s. IsJudged (λ (set : List Change) cs. set ≡ cs) (IsComposed c.args.names.now s) (Ok c.in_ok-set.set)) (c.deref-2.ensures.value ∙ nets.1) c.in_ok-set.ensures in
    let version : c.later_version-version.result ≡ later_version read.version (joint_version reads) =
    c.later_version-version.ensures ∙ (λ i. later_version (hw.version i) (c.joint_version.ensures reads (subst (λ l. EachStands (IsLogFile IsTotal) l reads) (sym c.deref.ensures.value) hs) i)) in
    two_joined c.in_ok-joined.joined sum.0 nets.0 c.in_ok-set.set
    (c.in_ok-joined.ensures sum.0 nets.0 sum.1 (version ∙ (λ i. later_version (sym sum.2.0 i).version (joint_version (sym nets.2.0 i))))
    (work_printable c.args.work c.args.sets.items read sum.0 reads nets.0 c.in_ok-set.set hw hs sum.2.0 nets.2.0 (found.1 ∙ found.2.1)))

pub side_text-requires-clause-logs : goal.side_text-requires-clause-logs
side_text-requires-clause-logs c =
    let (read, hw) = c.requires.work in
    let (reads, hs) = c.requires.sets in
    let sum = c.in_ok-sum.ensures read hw in
    let nets = c.in_ok-nets.ensures.nets reads hs in
    let found = subst (λ s. IsJudged (λ (set : List Change) cs. set ≡ cs) (IsComposed c.args.names.now s) (Ok c.in_ok-set.set)) (c.deref-2.ensures.value ∙ nets.1) c.in_ok-set.ensures in
    let version : c.later_version-version.result ≡ later_version read.version (joint_version reads) =
    c.later_version-version.ensures ∙ (λ i. later_version (hw.version i) (c.joint_version.ensures reads (subst (λ l. EachStands (IsLogFile IsTotal) l reads) (sym c.deref.ensures.value) hs) i)) in
    let joined = c.in_ok-joined.ensures sum.0 nets.0 sum.1 (version ∙ (λ i. later_version (sym sum.2.0 i).version (joint_version (sym nets.2.0 i))))
    (work_printable c.args.work c.args.sets.items read sum.0 reads nets.0 c.in_ok-set.set hw hs sum.2.0 nets.2.0 (found.1 ∙ found.2.1)) in
    (joined.0, joined.1)

pub returns : goal.returns
returns c = λ read reads hw hs.
    let version : c.later_version-version.result ≡ later_version read.version (joint_version reads) =
    c.later_version-version.ensures ∙ (λ i. later_version (hw.version i) (c.joint_version.ensures reads (subst (λ l. EachStands (IsLogFile IsTotal) l reads) (sym c.deref.ensures.value) hs) i)) in
    judged_next (λ sum (r : ReadLog). StandsFor sum r.commands) HasItems (IsTakenWork c.args.word read) (λ taken. Next (EachTaken c.args.names.now reads) (IsMergedOnto c.args.wanted.now.side c.args.wanted.now.word c.args.wanted.now.rules.items c.args.names.now taken))
    c.in_ok-sum.sum c.side_text.result (c.in_ok-sum.ensures read hw) (λ taken s t.
    judged_next AreNetsOf HasItems (EachTaken c.args.names.now reads) (IsMergedOnto c.args.wanted.now.side c.args.wanted.now.word c.args.wanted.now.rules.items c.args.names.now taken) c.in_ok-nets.nets c.side_text.result (c.in_ok-nets.ensures.nets reads hs) (λ sets n e.
    let found = subst (λ s. IsJudged (λ (set : List Change) cs. set ≡ cs) (IsComposed c.args.names.now s) (Ok c.in_ok-set.set)) (c.deref-2.ensures.value ∙ n) c.in_ok-set.ensures in
    judged_next (λ set cs. set ≡ cs) HasItems (IsComposed c.args.names.now (nets_of sets)) (IsMergedWork c.args.wanted.now.side c.args.wanted.now.word c.args.wanted.now.rules.items taken sets) c.in_ok-set.set c.side_text.result found (λ cs same p.
    judged_next AreJoined HasItems (AllTaken (as_logs taken sets cs)) (IsTransitioned (side_number c.args.wanted.now.side) c.args.wanted.now.word c.args.wanted.now.rules.items) c.in_ok-joined.joined c.side_text.result
    (subst (λ x. IsJudged AreJoined (AllTaken (as_logs taken sets x)) (Ok c.in_ok-joined.joined)) same
    (c.in_ok-joined.ensures taken sets s (version ∙ (λ i. later_version (sym t.0 i).version (joint_version (sym e.0 i))))
    (work_printable c.args.work c.args.sets.items read taken reads sets c.in_ok-set.set hw hs t.0 e.0 (same ∙ p.1)))) (λ js j a. c.side_text.ensures js j))))
