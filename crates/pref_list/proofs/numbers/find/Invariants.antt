use Rattle.pref_list.proofs.Numbering.{IsFrom, rest_of}
use Rattle.pref_list.proofs.numbers.find.Given as goal

abbrev pub invariant-chain : goal.invariant-chain
invariant-chain l = IsFrom l.joint.sets l.picks l.command l.at

abbrev pub decreases-chain : goal.decreases-chain
decreases-chain l = rest_of l.at
