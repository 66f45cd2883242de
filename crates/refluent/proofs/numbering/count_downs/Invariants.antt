use Rattle.std.proofs.Common.{◌≡◌, length}
use Rattle.refluent.proofs.Numbered.{AreDowns}
use Rattle.refluent.proofs.numbering.count_downs.Given as goal

abbrev pub invariant-claims : goal.invariant-claims
invariant-claims l = record { many : length l.downs.items ≡ l.count; each : AreDowns l.claims l.claim-index l.downs.items }
