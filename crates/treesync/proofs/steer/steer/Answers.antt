use Rattle.std.proofs.Common.{◌∷◌, [], refl}
use Rattle.treesync.specs.Checks.{HasItems, Judged, Then}
use Rattle.treesync.specs.Joining.{AreLogFiles, IsLogs, log_limits}
use Rattle.treesync.specs.Logs.{IsLog, IsLogFile, IsTotal, ReadLog}
use Rattle.treesync.specs.Steer.{IsSteering}
use Rattle.treesync.specs.declared.input.TheConstants.{FILE_LIMIT}
use Rattle.treesync.specs.declared.logs.TheConstants.{FULL_ALLOWANCE}
use Rattle.treesync.proofs.CheckLemmas.{fewer_files, then_handed_on, then_judged, then_next}
use Rattle.treesync.proofs.steer.steer.Goals as goal

pub returns-in_err-read : goal.returns-in_err-read
returns-in_err-read g c =
    fewer_files HasItems _ ((c.args.set.now, FILE_LIMIT) ∷ []) (log_limits c.args.names.now) _ _ _ _ refl
    (then_handed_on (IsLogFile IsTotal) HasItems (IsLog FULL_ALLOWANCE c.args.word c.args.set.now) (λ (read : ReadLog). Then (IsLogs FULL_ALLOWANCE c.args.names.now) (λ reads. Judged (IsSteering c.args.word c.args.names.now read reads))) ((c.args.set.now, FILE_LIMIT) ∷ [])
    (g.F.Files.files c.args.files.now) (g.F.Files.files c.read_sum.new.files) c.in_err-read.field-0.0 c.from_residual.result c.from_residual.ensures.1 c.in_err-read.ensures)

pub returns-in_err-logs : goal.returns-in_err-logs
returns-in_err-logs g c =
    then_next (IsLogFile IsTotal) HasItems (IsLog FULL_ALLOWANCE c.args.word c.args.set.now) (λ (read : ReadLog). Then (IsLogs FULL_ALLOWANCE c.args.names.now) (λ reads. Judged (IsSteering c.args.word c.args.names.now read reads))) ((c.args.set.now, FILE_LIMIT) ∷ []) (log_limits c.args.names.now) _
    (g.F.Files.files c.args.files.now) (g.F.Files.files c.read_sum.new.files) (g.F.Files.files c.read_logs.new.files) c.in_ok-read.read c.from_residual-in_err-logs.result refl c.in_ok-read.ensures (λ read h.
    then_handed_on AreLogFiles HasItems (IsLogs FULL_ALLOWANCE c.args.names.now) (λ reads. Judged (IsSteering c.args.word c.args.names.now read reads)) (log_limits c.args.names.now)
    (g.F.Files.files c.read_sum.new.files) (g.F.Files.files c.read_logs.new.files) c.in_err-logs.field-0.0 c.from_residual-in_err-logs.result c.from_residual-in_err-logs.ensures.1 c.in_err-logs.ensures.answer)

pub returns : goal.returns
returns g c =
    then_next (IsLogFile IsTotal) HasItems (IsLog FULL_ALLOWANCE c.args.word c.args.set.now) (λ (read : ReadLog). Then (IsLogs FULL_ALLOWANCE c.args.names.now) (λ reads. Judged (IsSteering c.args.word c.args.names.now read reads))) ((c.args.set.now, FILE_LIMIT) ∷ []) (log_limits c.args.names.now) _
    (g.F.Files.files c.args.files.now) (g.F.Files.files c.read_sum.new.files) (g.F.Files.files c.read_logs.new.files) c.in_ok-read.read c.steered.result refl c.in_ok-read.ensures (λ read h.
    then_judged AreLogFiles HasItems (IsLogs FULL_ALLOWANCE c.args.names.now) (λ reads. IsSteering c.args.word c.args.names.now read reads) (log_limits c.args.names.now)
    (g.F.Files.files c.read_sum.new.files) (g.F.Files.files c.read_logs.new.files) c.in_ok-logs.logs c.steered.result c.in_ok-logs.ensures.answer (λ reads hs. c.steered.ensures read reads h hs))
