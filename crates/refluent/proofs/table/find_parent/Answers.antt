use Rattle.std.proofs.Common.{length, sym, refl, ap, ◌∙◌}
use Rattle.std.proofs.lemmas.Option.{slice_get-get_or, slice_get_read}
use Rattle.refluent.proofs.Climbing.{climb_first, climb_next, climb_found, for_claim, root_none, start_low, less_rest, under_known, deep_of}
use Rattle.refluent.proofs.table.find_parent.Goals as goal

pub returns-then-depth-eq1 : goal.returns-then-depth-eq1
returns-then-depth-eq1 c = for_claim _ _ _ c.index-claims-start.result _ (slice_get_read _ _ _ _ refl c.requires.low c.index-claims-start.is) (root_none _ _ _ (ap (λ x. length x.path) c.index-claims-start.is ∙ sym c.depth.ensures.names ∙ c.if-depth-eq1.true))

pub above-init : goal.above-init
above-init c = climb_first _ _ _ c.requires.table c.requires.sorted c.requires.closed c.requires.fresh c.index-claims-start.result (slice_get_read _ _ _ _ refl c.requires.low c.index-claims-start.is) _ c.last_place-at.ensures.none c.last_place-at.ensures.some

pub node-requires : goal.node-requires
node-requires c = start_low _ _ _ c.requires.table c.in-Some.place (c.above.invariant.low c.in-Some.place c.in-Some.is) _

pub returns-then-under : goal.returns-then-under
returns-then-under c = for_claim _ _ _ c.index-claims-start.result _ (slice_get_read _ _ _ _ refl c.requires.low c.index-claims-start.is)
    (climb_found _ _ _ c.requires.table c.requires.sorted c.requires.closed c.requires.fresh c.index-claims-start.result (slice_get_read _ _ _ _ refl c.requires.low c.index-claims-start.is) _ c.above.invariant c.in-Some.place _ c.in-Some.is
    (slice_get-get_or _ _ _ (c.above.invariant.low c.in-Some.place c.in-Some.is)) c.under.result (under_known c.under.result _ c.index-claims-start.result.path _ _ (ap (λ x. x.path) (sym c.index-claims-start.is)) c.node.ensures c.under.ensures) c.if-under.true (deep_of _ _ _ c.depth.ensures.names (ap (λ x. x.path) (sym c.index-claims-start.is)) c.depth.ensures.some c.if-depth-eq1.false))

pub above-smaller : goal.above-smaller
above-smaller c = less_rest _ _ _ c.requires.table c.in-Some.place (c.above.invariant.low c.in-Some.place c.in-Some.is) _ _ c.in-Some.is

pub above-preserved : goal.above-preserved
above-preserved c = climb_next _ _ _ c.requires.table c.requires.sorted c.requires.closed c.requires.fresh c.index-claims-start.result (slice_get_read _ _ _ _ refl c.requires.low c.index-claims-start.is) _ c.above.invariant c.in-Some.place _ c.in-Some.is
    (slice_get-get_or _ _ _ (c.above.invariant.low c.in-Some.place c.in-Some.is)) c.under.result (under_known c.under.result _ c.index-claims-start.result.path _ _ (ap (λ x. x.path) (sym c.index-claims-start.is)) c.node.ensures c.under.ensures) c.if-under.false
