use Rattle.std.proofs.Common.{◌≡◌, length}
use Rattle.refluent.specs.Numberings.{AreLinks}
use Rattle.refluent.proofs.Numbered.{IsNumberedTo}
use Rattle.refluent.proofs.numbering.number_commands.Given as goal

abbrev pub invariant-groups : goal.invariant-groups
invariant-groups l = record {
  few : length l.numbering.downs.items ≡ l.count;
  numbered : IsNumberedTo l.claims l.groups l.place l.numbering;
  links : AreLinks l.claims l.groups l.links.items l.place;
}
