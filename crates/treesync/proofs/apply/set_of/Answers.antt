use Rattle.std.proofs.Common.{◌≡◌, ◌∷◌, []}
use Rattle.treesync.specs.Logs.{IsLog, IsLogFile, IsTotal, ReadLog}
use Rattle.treesync.specs.Steer.{IsNetSet}
use Rattle.treesync.specs.declared.input.TheConstants.{FILE_LIMIT}
use Rattle.treesync.specs.declared.logs.TheConstants.{FULL_ALLOWANCE}
use Rattle.treesync.proofs.CheckLemmas.{then_judged}
use Rattle.treesync.proofs.apply.set_of.Goals as goal

pub returns : goal.returns
returns g c =
    then_judged (IsLogFile IsTotal) (λ set cs. set ≡ cs) (IsLog FULL_ALLOWANCE c.args.file.now.place c.args.file.now.text) (λ (read : ReadLog). IsNetSet c.args.file.now.place read) ((c.args.file.now.text, FILE_LIMIT) ∷ [])
    (g.F.Files.files c.args.files.now) (g.F.Files.files c.read_sum.new.files) c.in_ok-log.log c.net_set.result
    (rw (c.place.ensures, c.as_str.ensures) at c.in_ok-log.ensures) (λ read h. rw c.place-2.ensures at (c.net_set.ensures read h))
