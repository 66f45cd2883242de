use Rattle.treesync.proofs.Jobs.{log_read, log_refused}
use Rattle.treesync.proofs.replay.replay.Goals as goal

pub returns-in_err-read : goal.returns-in_err-read
returns-in_err-read g c =
    log_refused c.args.snap_word c.args.snap.now c.args.log_word c.args.log.now (g.F.Files.files c.args.files.now) (g.F.Files.files c.snapshot_file.new.files) (g.F.Files.files c.read_log.new.files)
    c.in_ok-snapshot.snapshot c.from_residual-in_err-read.result c.in_ok-snapshot.ensures.answer c.in_err-read.field-0.0 c.from_residual-in_err-read.ensures.1 c.in_err-read.ensures

pub returns : goal.returns
returns g c =
    log_read c.args.snap_word c.args.snap.now c.args.log_word c.args.log.now (g.F.Files.files c.args.files.now) (g.F.Files.files c.snapshot_file.new.files) (g.F.Files.files c.read_log.new.files)
    c.in_ok-snapshot.snapshot c.text_after.result c.in_ok-snapshot.ensures.answer c.in_ok-read.read c.in_ok-read.ensures (λ read h. c.text_after.ensures read h)
