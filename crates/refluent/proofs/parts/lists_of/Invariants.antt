use Rattle.refluent.proofs.Listing.{ListsTo}
use Rattle.refluent.proofs.parts.lists_of.Given as goal

abbrev pub invariant-claims : goal.invariant-claims
invariant-claims l = ListsTo l.lists.items l.yielded l.count
