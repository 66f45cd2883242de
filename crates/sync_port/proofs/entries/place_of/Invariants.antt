use Rattle.std.proofs.Common.{◌≡◌, ◌≤◌, ◌-◌, length, take, None}
use Rattle.sync_port.specs.Entries.{held_in}
use Rattle.sync_port.proofs.entries.place_of.Given as goal

abbrev pub invariant-places : goal.invariant-places
invariant-places l = (l.place ≤ length l.entries) × (held_in (take l.place l.entries) l.name ≡ None)

abbrev pub decreases-places : goal.decreases-places
decreases-places l = length l.entries - l.place
