use Rattle.std.proofs.Common.{Err, Global, Vec, ℕ, sym, subst}
use Rattle.treesync.specs.Checks.{HasItems, IsJudged}
use Rattle.treesync.specs.Replay.{IsAfter}
use Rattle.treesync.proofs.Jobs.{after_printed, rows_printable, run_refused}
use Rattle.treesync.proofs.replay.text_after.Goals as goal

pub returns-in-Err : goal.returns-in-Err
returns-in-Err c = λ read h.
    subst (λ r. IsJudged {X = Vec ℕ Global} HasItems (IsAfter c.args.word (c.args.snapshot.0, c.args.snapshot.1.items) read) (Err r)) (sym c.refusal_of.ensures)
    (run_refused c.args.word c.args.snapshot.0 c.args.snapshot.1.items read c.args.log.commands c.replay_owned.new.tree c.in-Err.fault h.commands
    (rw c.in_ok-tree.ensures at c.in-Err.ensures.err))

pub tree_text-requires : goal.tree_text-requires
tree_text-requires c =
    let h = c.requires.log.1 in
    let done = rw c.in_ok-tree.ensures at c.in-Ok.ensures.ok in
    rw c.later_version-version.ensures
    (rows_printable c.args.snapshot.1.items c.args.log.commands c.replay_owned.new.tree done.1 c.args.snapshot.0 c.args.log.version c.requires.log.0 h.commands h.version c.requires.printable h.printable)

pub returns-in-Ok : goal.returns-in-Ok
returns-in-Ok c = λ read h.
    let done = rw c.in_ok-tree.ensures at c.in-Ok.ensures.ok in
    after_printed c.args.snapshot.1.items c.args.log.commands c.replay_owned.new.tree done.1 c.args.snapshot.0 c.args.log.version c.args.word read c.tree_text.result h.commands h.version done.0
    (rw c.later_version-version.ensures at c.tree_text.ensures)
