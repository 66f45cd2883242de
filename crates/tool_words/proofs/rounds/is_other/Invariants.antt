use Rattle.std.proofs.Common.{◌≡◌, drop}
use Rattle.tool_words.specs.Rounds.{is_other}
use Rattle.tool_words.proofs.rounds.is_other.Given as goal

-- what is left of the operands decides
abbrev pub invariant-loop-at : goal.invariant-loop-at
invariant-loop-at l = is_other l.text (drop l.at l.operands) ≡ is_other l.fn.text (drop l.fn.first l.fn.operands)
