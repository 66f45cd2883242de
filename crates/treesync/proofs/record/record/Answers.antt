use Rattle.std.proofs.Common.{map, string_bytes, refl}
use Rattle.treesync.proofs.Recordings.{recorded_err, recorded_ok}
use Rattle.treesync.proofs.record.record.Goals as goal

pub returns-in-Ok-clause-ran : goal.returns-in-Ok-clause-ran
returns-in-Ok-clause-ran g c = λ one.
    recorded_ok c.args.folder.now c.args.file.now (map string_bytes c.args.words.now) _ _ _ c.in-Ok.version c.in-Ok.script c.script_file.result c.in-Ok.is c.script_file.ensures c.deref.result.now c.deref.ensures.value
    c.record_on_only-recorded.result _ c.end_recording.ensures.out (c.record_on_only-recorded.ensures one) c.place.result c.place-in-Ok.result c.place.ensures c.place-in-Ok.ensures c.end_recording.ensures.status c.end_recording.ensures.says

pub returns-in-Err-clause-ran : goal.returns-in-Err-clause-ran
returns-in-Err-clause-ran g c = λ one.
    recorded_err c.args.folder.now c.args.file.now (map string_bytes c.args.words.now) _ _ _ c.in-Err.refusal c.script_file.result c.in-Err.is c.script_file.ensures refl c.report.ensures.prints c.report.ensures.says
