use Rattle.std.proofs.Common.{length, ◌-◌}
use Rattle.std.specs.Prelude.{option_copied}
use Rattle.tree_port.proofs.Listed.{AreFirst}
use Rattle.tree_port.proofs.host.listing.are_below.Given as goal

abbrev pub invariant-places : goal.invariant-places
invariant-places l = AreFirst (option_copied l.above) l.paths l.place

abbrev pub decreases-places : goal.decreases-places
decreases-places l = length l.paths - l.place
