use Rattle.std.proofs.Common.{◌≡◌, ◌<◌, ◌≤◌, ◌++◌, [], ◌∷◌, length, take, arith, rules, length-append, length-take}
use Rattle.sync_path.specs.Paths.{parts}
use Rattle.log_text.specs.Logs.{log_of}
use Rattle.treesync.specs.Checks.{Judged}
use Rattle.treesync.specs.Files.{IsFile}
use Rattle.treesync.specs.Logs.{IsLogFile, log_answer}
use Rattle.treesync.specs.declared.refusal.Refusal.TheVariants.{Found}
use Rattle.treesync.specs.declared.refusal.Finding.TheVariants.{TooLarge}
use Rattle.treesync.proofs.CheckLemmas.{then_judged, then_refused}
use Rattle.treesync.proofs.FileReading.{AreBytes, all_read, read_more, too_large}
use Rattle.treesync.proofs.LogReading.{judged_same}
use Rattle.treesync.proofs.logs.read_log.Goals as goal

pub returns-then-count-eq0 : goal.returns-then-count-eq0
returns-then-count-eq0 g c =
    let r = c.pieces.invariant.read in
    let some : 0 < length c.read_piece.new.buffer = first_of (search rules, omega (arith, c.in-Ok.ensures.length)) in
    let within : length r.0 ≤ c.args.allowance.bytes = omega (arith, r.1, c.pieces-test.true) in
    then_judged AreBytes (IsLogFile g.T.TakesCommands.stands) (IsFile c.args.allowance.bytes c.args.word c.args.name.now)
    (λ bytes answer. answer ≡ log_answer c.args.allowance.commands c.args.word (length bytes) (log_of (parts 10 bytes)))
    ((c.args.name.now, c.args.allowance.bytes) ∷ []) (g.F.Files.files c.args.files.now) (g.F.Files.files c.read_piece.new.files) r.0 c.end_log.result
    (all_read c.args.allowance.bytes c.args.word c.args.name.now r.0 c.read_piece.new.buffer c.in-Ok.count (g.F.Files.files c.args.files.now) (g.F.Files.files c.pieces.files) (g.F.Files.files c.read_piece.new.files)
    c.if-count-eq0.true some within r.3 c.in-Ok.ensures.faults c.in-Ok.ensures.contents)
    (λ a e. judged_same g.T.TakesCommands.stands c.args.word c.args.allowance.commands c.pieces.size r.0 a c.end_log.result e r.1 (c.end_log.ensures r.0 r.2 r.1))

pub pieces-preserved : goal.pieces-preserved
pieces-preserved g c =
    let r = c.pieces.invariant.read in
    record {
      within = omega (arith, c.in-Ok.ensures.limit);
      read = (
        r.0 ++ take c.in-Ok.count c.read_piece.new.buffer,
        omega (arith, r.1, c.in-Ok.ensures.bound, length-append r.0 (take c.in-Ok.count c.read_piece.new.buffer), length-take c.in-Ok.count c.read_piece.new.buffer),
        c.in_ok-feed.ensures r.0 r.2,
        read_more c.args.name.now r.0 c.read_piece.new.buffer c.in-Ok.count (g.F.Files.files c.args.files.now) (g.F.Files.files c.pieces.files) (g.F.Files.files c.read_piece.new.files)
            c.in-Ok.ensures.bound r.3 c.in-Ok.ensures.faults c.in-Ok.ensures.contents,
      );
    }

pub returns : goal.returns
returns g c =
    let r = c.pieces.invariant.read in
    then_refused AreBytes (IsLogFile g.T.TakesCommands.stands) (IsFile c.args.allowance.bytes c.args.word c.args.name.now)
    (λ bytes. Judged (λ answer. answer ≡ log_answer c.args.allowance.commands c.args.word (length bytes) (log_of (parts 10 bytes))))
    ((c.args.name.now, c.args.allowance.bytes) ∷ []) (g.F.Files.files c.args.files.now) (g.F.Files.files c.pieces.files) (Found (TooLarge c.args.word))
    (too_large c.args.allowance.bytes c.args.word c.args.name.now r.0 (g.F.Files.files c.args.files.now) (g.F.Files.files c.pieces.files) (omega (arith, r.1, c.pieces.invariant.within, c.pieces-test.false)) r.3)
