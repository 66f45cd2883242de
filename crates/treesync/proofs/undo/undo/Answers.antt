use Rattle.std.proofs.Common.{◌∷◌, []}
use Rattle.treesync.specs.Checks.{HasItems}
use Rattle.treesync.specs.Logs.{IsLog, IsLogFile, IsTotal}
use Rattle.treesync.specs.Undo.{IsUndoing}
use Rattle.treesync.specs.declared.input.TheConstants.{FILE_LIMIT}
use Rattle.treesync.specs.declared.logs.TheConstants.{FULL_ALLOWANCE}
use Rattle.treesync.proofs.CheckLemmas.{then_handed_on, then_judged}
use Rattle.treesync.proofs.undo.undo.Goals as goal

pub returns-in_err-log : goal.returns-in_err-log
returns-in_err-log g c =
    then_handed_on (IsLogFile IsTotal) HasItems (IsLog FULL_ALLOWANCE c.args.word c.args.name.now) _ ((c.args.name.now, FILE_LIMIT) ∷ [])
    (g.F.Files.files c.args.files.now) (g.F.Files.files c.read_sum.new.files) c.in_err-log.field-0.0 c.from_residual.result c.from_residual.ensures.1 c.in_err-log.ensures

pub returns : goal.returns
returns g c =
    then_judged (IsLogFile IsTotal) HasItems (IsLog FULL_ALLOWANCE c.args.word c.args.name.now) (IsUndoing c.args.word) ((c.args.name.now, FILE_LIMIT) ∷ [])
    (g.F.Files.files c.args.files.now) (g.F.Files.files c.read_sum.new.files) c.in_ok-log.log c.undone.result c.in_ok-log.ensures (λ read h. c.undone.ensures read h)
