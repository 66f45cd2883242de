use Rattle.std.proofs.Common.{◌≡◌, ◌+◌, ℕ, length}
use Rattle.refluent.specs.Families.{AreFamilies}
use Rattle.refluent.proofs.families.families_of.Given as goal

abbrev pub invariant-places : goal.invariant-places
invariant-places l = (k : ℕ) → k + l.done ≡ length l.links → AreFamilies l.links k l.children.items l.siblings.items
