use Rattle.std.proofs.Common.{refl}
use Rattle.record_core.specs.Seals.{OpenLog}
use Rattle.record_core.proofs.SealedLists.{fails_text}
use Rattle.record_core.proofs.sealing.seal.Goals as goal

pub returns-in-Ok-clause-answer : goal.returns-in-Ok-clause-answer
returns-in-Ok-clause-answer g c =
    let log : OpenLog = record { version = c.in_ok-version.version; commands = c.in_ok-version.commands.items; ended = c.in_ok-version.ended } in
    record { log = log; read = c.in_ok-version.ensures.reads; same_version = refl; answer = c.in-Ok.ensures.answer log refl refl }

pub returns-in-Ok-clause-printable : goal.returns-in-Ok-clause-printable
returns-in-Ok-clause-printable g c = c.in-Ok.ensures.printable c.in_ok-version.version c.in_ok-version.ensures.printable

pub returns-in-Err-clause-answer : goal.returns-in-Err-clause-answer
returns-in-Err-clause-answer g c =
    let log : OpenLog = record { version = c.in_ok-version.version; commands = c.in_ok-version.commands.items; ended = c.in_ok-version.ended } in
    fails_text c.args.text.now log _ c.in-Err.fault c.in_ok-version.ensures.reads (c.in-Err.ensures.answer log refl refl)
