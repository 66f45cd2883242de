use Rattle.std.proofs.Common.{◌≡◌, length}
use Rattle.refluent.proofs.Climbing.{Grows}
use Rattle.refluent.proofs.table.groups_of.Given as goal

abbrev pub invariant-claims : goal.invariant-claims
invariant-claims l = record { grows : Grows l.claims l.groups.items l.start l.place; whole : l.place ≡ length l.claims → l.start ≡ length l.claims }
