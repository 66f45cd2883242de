use Rattle.std.proofs.Common.{◌≡◌, map}
use Rattle.canon_set.specs.Sets.{canonical}
use Rattle.refluent.proofs.parts.sets_of.Given as goal

abbrev pub invariant-lists : goal.invariant-lists
invariant-lists l = l.sets.items ≡ map (λ v. canonical v.items) l.yielded
