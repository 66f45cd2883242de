use Rattle.std.proofs.Common.{◌∷◌, [], ◌∙◌, Ok, Err, refl, subst}
use Rattle.treesync.specs.Checks.{Answers, HasItems, IsJudged, Judged, Then}
use Rattle.treesync.specs.Joining.{AreLogFiles, IsLogs, left_after, log_limits}
use Rattle.treesync.specs.Logs.{IsLog, IsLogFile, IsTotal}
use Rattle.treesync.specs.Rebase.{IsRebased}
use Rattle.treesync.specs.declared.input.TheConstants.{FILE_LIMIT}
use Rattle.treesync.specs.declared.logs.TheConstants.{FULL_ALLOWANCE}
use Rattle.treesync.proofs.CheckLemmas.{fewer_files, then_handed_on, then_judged, then_next}
use Rattle.treesync.proofs.JoinLemmas.{LogFiles}
use Rattle.treesync.proofs.Rebasing.{left_same}
use Rattle.treesync.proofs.rebase.rebase_under.Goals as goal

pub returns-in_err-log : goal.returns-in_err-log
returns-in_err-log g c =
    fewer_files HasItems _ ((c.args.work.now.text, FILE_LIMIT) ∷ []) (log_limits c.args.names.now) _ _ _ _ refl
    (then_handed_on (IsLogFile IsTotal) HasItems (IsLog FULL_ALLOWANCE c.args.work.now.place c.args.work.now.text)
    (λ read. Then (IsLogs (left_after FULL_ALLOWANCE read) c.args.names.now) (λ reads. Judged (IsRebased c.args.wanted.now.side c.args.wanted.now.word c.args.wanted.now.rules.items c.args.work.now.place c.args.names.now read reads))) ((c.args.work.now.text, FILE_LIMIT) ∷ [])
    (g.F.Files.files c.args.files.now) (g.F.Files.files c.read_sum.new.files) c.in_err-log.field-0.0 c.from_residual.result c.from_residual.ensures.1
    (rw (c.place.ensures, c.as_str.ensures) at c.in_err-log.ensures))

pub returns-in_err-sets : goal.returns-in_err-sets
returns-in_err-sets g c =
    then_next (IsLogFile IsTotal) HasItems (IsLog FULL_ALLOWANCE c.args.work.now.place c.args.work.now.text)
    (λ read. Then (IsLogs (left_after FULL_ALLOWANCE read) c.args.names.now) (λ reads. Judged (IsRebased c.args.wanted.now.side c.args.wanted.now.word c.args.wanted.now.rules.items c.args.work.now.place c.args.names.now read reads))) ((c.args.work.now.text, FILE_LIMIT) ∷ []) (log_limits c.args.names.now) _
    (g.F.Files.files c.args.files.now) (g.F.Files.files c.read_sum.new.files) (g.F.Files.files c.read_logs.new.files) c.in_ok-log.log c.from_residual-in_err-sets.result refl (rw (c.place.ensures, c.as_str.ensures) at c.in_ok-log.ensures) (λ read h.
    then_handed_on {X = LogFiles} AreLogFiles HasItems (IsLogs (left_after FULL_ALLOWANCE read) c.args.names.now) (λ reads. Judged (IsRebased c.args.wanted.now.side c.args.wanted.now.word c.args.wanted.now.rules.items c.args.work.now.place c.args.names.now read reads)) (log_limits c.args.names.now)
    (g.F.Files.files c.read_sum.new.files) (g.F.Files.files c.read_logs.new.files) c.in_err-sets.field-0.0 c.from_residual-in_err-sets.result c.from_residual-in_err-sets.ensures.1
    (subst (λ l. Answers {X = LogFiles} AreLogFiles (IsLogs l c.args.names.now) (log_limits c.args.names.now) (g.F.Files.files c.read_sum.new.files) (g.F.Files.files c.read_logs.new.files) (Err c.in_err-sets.field-0.0))
    (c.left_after-left.ensures ∙ left_same FULL_ALLOWANCE c.in_ok-log.log read h) c.in_err-sets.ensures.answer))

pub returns : goal.returns
returns g c =
    then_next (IsLogFile IsTotal) HasItems (IsLog FULL_ALLOWANCE c.args.work.now.place c.args.work.now.text)
    (λ read. Then (IsLogs (left_after FULL_ALLOWANCE read) c.args.names.now) (λ reads. Judged (IsRebased c.args.wanted.now.side c.args.wanted.now.word c.args.wanted.now.rules.items c.args.work.now.place c.args.names.now read reads))) ((c.args.work.now.text, FILE_LIMIT) ∷ []) (log_limits c.args.names.now) _
    (g.F.Files.files c.args.files.now) (g.F.Files.files c.read_sum.new.files) (g.F.Files.files c.read_logs.new.files) c.in_ok-log.log c.rebased.result refl (rw (c.place.ensures, c.as_str.ensures) at c.in_ok-log.ensures) (λ read h.
    then_judged AreLogFiles HasItems (IsLogs (left_after FULL_ALLOWANCE read) c.args.names.now) (λ reads. IsRebased c.args.wanted.now.side c.args.wanted.now.word c.args.wanted.now.rules.items c.args.work.now.place c.args.names.now read reads) (log_limits c.args.names.now)
    (g.F.Files.files c.read_sum.new.files) (g.F.Files.files c.read_logs.new.files) c.in_ok-sets.sets c.rebased.result
    (subst (λ l. Answers AreLogFiles (IsLogs l c.args.names.now) (log_limits c.args.names.now) (g.F.Files.files c.read_sum.new.files) (g.F.Files.files c.read_logs.new.files) (Ok c.in_ok-sets.sets))
    (c.left_after-left.ensures ∙ left_same FULL_ALLOWANCE c.in_ok-log.log read h) c.in_ok-sets.ensures.answer) (λ reads hs.
    subst (λ w. IsJudged HasItems (IsRebased c.args.wanted.now.side c.args.wanted.now.word c.args.wanted.now.rules.items w c.args.names.now read reads) c.rebased.result) c.place-2.ensures (c.rebased.ensures read reads h hs)))
