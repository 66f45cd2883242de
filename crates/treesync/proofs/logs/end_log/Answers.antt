use Rattle.std.proofs.Common.{ap, ◌∙◌, refl, unwrap_or}
use Rattle.sync_command.specs.declared.values.Version.TheVariants.{One}
use Rattle.treesync.specs.declared.logs.LogFile.{LogFile}
use Rattle.treesync.proofs.LogReading.{ended, fault_ended, too_many, well_ended}
use Rattle.treesync.proofs.logs.end_log.Goals as goal

pub returns-in-Err : goal.returns-in-Err
returns-in-Err g c = λ text fed same.
    rw c.text_refusal.ensures
    (fault_ended g.T.TakesCommands.stands c.args.word c.args.most c.args.size text c.in-Err.fault (c.in-Err.ensures.ends text fed.holds.taken fed.holds.read))

pub returns-then-count-most : goal.returns-then-count-most
returns-then-count-most g c = λ text fed same.
    too_many g.T.TakesCommands.stands c.args.word c.args.most c.args.size text fed.holds.taken c.in-Ok.count c.if-count-most.true
    (ended g.T.TakesCommands.stands c.args.intake.reader c.args.intake.into text c.in-Ok.count fed (c.in-Ok.ensures.ends text fed.holds.taken fed.holds.read))

pub returns : goal.returns
returns g c = λ text fed same.
    let log : LogFile g.row.T.Denot = record { size = c.args.size; version = c.unwrap_or-version.result; count = c.in-Ok.count; commands = c.args.intake.into } in
    well_ended g.T.TakesCommands.stands c.args.word c.args.most c.args.size text log fed.holds.taken c.if-count-most.false refl
    (c.unwrap_or-version.ensures ∙ ap (λ o. unwrap_or o One) (c.version.ensures.exact text fed.holds.taken fed.holds.read)) fed.holds.commands
    (ended g.T.TakesCommands.stands c.args.intake.reader c.args.intake.into text c.in-Ok.count fed (c.in-Ok.ensures.ends text fed.holds.taken fed.holds.read))
