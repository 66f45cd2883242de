use Rattle.std.proofs.Common.{◌≡◌, length}
use Rattle.refluent.specs.Numberings.{IsNumbered}
use Rattle.refluent.proofs.numbering.Numbering.add_group.Given as goal

abbrev pub invariant-own : goal.invariant-own
invariant-own l = record {
  few : length l.self.downs.items ≡ length l.initial.self.downs.items;
  numbered : IsNumbered l.claims l.place l.self;
}
