use Rattle.std.proofs.Common.{ℕ, List, length}
use Rattle.log_text.specs.LogPieces.{waiting_of}
use Rattle.treesync.specs.Logs.{HoldsLog}
use Rattle.treesync.proofs.logs.LogIntake.hand_on.Given as goal

abbrev pub invariant-waiting : goal.invariant-waiting
invariant-waiting g l =
    (text : List ℕ) → HoldsLog g.T.TakesCommands.stands l.initial.self.reader l.initial.self.into text → HoldsLog g.T.TakesCommands.stands l.self.reader l.self.into text

abbrev pub decreases-waiting : goal.decreases-waiting
decreases-waiting g l = length (waiting_of l.self.reader)
