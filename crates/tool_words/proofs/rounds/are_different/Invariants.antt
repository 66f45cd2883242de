use Rattle.std.proofs.Common.{◌≡◌, drop}
use Rattle.tool_words.specs.Rounds.{are_different}
use Rattle.tool_words.proofs.rounds.are_different.Given as goal

-- what is left of the operands decides
abbrev pub invariant-loop-at : goal.invariant-loop-at
invariant-loop-at l = are_different (drop l.at l.operands) ≡ are_different l.fn.operands
