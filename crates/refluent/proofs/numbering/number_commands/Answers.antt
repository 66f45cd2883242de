use Rattle.std.proofs.Common.{arith, sym, ◌∙◌, subst}
use Rattle.std.proofs.lemmas.Option.{slice_get-get_or}
use Rattle.refluent.specs.Numberings.{AreLinks}
use Rattle.refluent.proofs.Numbered.{to_first, to_next, numbered_at, links_first, links_next}
use Rattle.refluent.proofs.numbering.number_commands.Goals as goal

pub groups-init : goal.groups-init
groups-init c = record {
  few = c.in_ok-numbering.ensures.many;
  numbered = to_first _ _ c.requires.ordered.sorted c.requires.table _ c.in_ok-numbering.ensures.numbered;
  links = subst (λ l. AreLinks c.args.claims.now c.args.groups.now l 0) (sym c.in_ok-links.ensures.items) (links_first c.args.claims.now c.args.groups.now);
}

pub add_group-requires-clause-group : goal.add_group-requires-clause-group
add_group-requires-clause-group c = (c.requires.table.each _ _ (slice_get-get_or _ _ _ c.groups-test.true)).0

pub add_group-requires-clause-so_far : goal.add_group-requires-clause-so_far
add_group-requires-clause-so_far c = numbered_at _ _ _ _ (slice_get-get_or _ _ _ c.groups-test.true) _ c.groups.invariant.numbered

pub groups-preserved : goal.groups-preserved
groups-preserved c = record {
  few = c.in_ok-add_group.ensures.few ∙ c.groups.invariant.few;
  numbered = to_next _ _ c.requires.ordered.sorted c.requires.table _ _ (slice_get-get_or _ _ _ c.groups-test.true) _ c.in_ok-add_group.ensures.numbered;
  links = links_next _ _ _ _ (slice_get-get_or _ _ _ c.groups-test.true) _ _ c.groups.invariant.links _ (numbered_at _ _ _ _ (slice_get-get_or _ _ _ c.groups-test.true) _ c.groups.invariant.numbered) _ (omega (arith, c.len.ensures, c.groups.numbering.picks.ok)) c.in_ok-push.ensures.items;
}
