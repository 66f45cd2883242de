use Rattle.std.proofs.Common.{◌≡◌, drop}
use Rattle.refluent.specs.JointParts.{value_by}
use Rattle.refluent.proofs.parts.value_of.Given as goal

abbrev pub invariant-claims : goal.invariant-claims
invariant-claims l = value_by l.claims ≡ value_by (drop l.claim-index l.claims)
