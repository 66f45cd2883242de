use Rattle.std.proofs.Common.{◌∷◌, []}
use Rattle.treesync.specs.Canon.{IsNet}
use Rattle.treesync.specs.Checks.{HasItems}
use Rattle.treesync.specs.Logs.{IsLog, IsLogFile, IsTotal}
use Rattle.treesync.specs.declared.input.TheConstants.{FILE_LIMIT}
use Rattle.treesync.specs.declared.logs.TheConstants.{FULL_ALLOWANCE}
use Rattle.treesync.proofs.CheckLemmas.{then_judged}
use Rattle.treesync.proofs.canon.canon.Goals as goal

pub returns : goal.returns
returns g c =
    then_judged (IsLogFile IsTotal) HasItems (IsLog FULL_ALLOWANCE c.args.word c.args.name.now) (IsNet c.args.word) ((c.args.name.now, FILE_LIMIT) ∷ [])
    (g.F.Files.files c.args.files.now) (g.F.Files.files c.read_sum.new.files) c.in_ok-log.log c.net_text.result c.in_ok-log.ensures (λ read h. c.net_text.ensures read h)
