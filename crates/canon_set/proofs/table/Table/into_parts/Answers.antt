use Rattle.std.proofs.Common.{not, sym, ap, ◌∙◌}
use Rattle.std.specs.Prelude.{is_none}
use Rattle.std.proofs.lemmas.Map.Iter.{iter_end}
use Rattle.canon_set.specs.Tables.{touch_from, is_untouched}
use Rattle.canon_set.proofs.TableMaps.{place_index}
use Rattle.canon_set.proofs.TableLists.{list_first, list_turn, list_end, filter_more, filter_same, filter_all}
use Rattle.canon_set.proofs.table.Table.into_parts.Goals as goal

pub touched-init : goal.touched-init
touched-init c = list_first touch_from _ _ _ c.in_ok-touches.ensures.items c.into_iter-path-iterator-2.ensures.into_iter_gives.0

pub touched-preserved : goal.touched-preserved
touched-preserved c = list_turn touch_from _ _ _ _ _ _ c.in-Some-2.ensures.steps c.in_ok-push-2.ensures.items c.touched.invariant

pub returns-clause-touched : goal.returns-clause-touched
returns-clause-touched c = list_end touch_from _ _ _ c.in-None-2.ensures.steps.0 c.touched.invariant

pub returns-clause-above : goal.returns-clause-above
returns-clause-above c = let g = c.into_iter-path-iterator.ensures.into_iter_gives in
    let all = iter_end (λ x. x) c.args.self.above.entries c.above.yielded c.into_iter-path-iterator.result c.above.path-iterator c.next.new.self c.next.result g.0 c.above.yielded_by c.in-None.is c.next.ensures.steps in
    filter_all (is_untouched c.args.self) c.above.yielded c.args.self.above.entries c.above.paths.items all.0 c.above.invariant

pub above-preserved-in-Continue-branch-2 : goal.above-preserved-in-Continue-branch-2
above-preserved-in-Continue-branch-2 c = filter_more (is_untouched c.args.self) c.above.paths.items _ c.above.yielded (c.in-Some.path, c.in-Some.field-0-1)
    (ap is_none (place_index c.args.self.touched.entries c.in-Some.path ∙ sym c.get_index_of.ensures.index) ∙ ap not c.is_none.ensures ∙ ap (λ b. not (not b)) c.if-is_none.true) c.in_ok-push.ensures.items c.above.invariant

pub above-preserved : goal.above-preserved
above-preserved c = filter_same (is_untouched c.args.self) c.above.paths.items c.above.yielded (c.in-Some.path, c.in-Some.field-0-1)
    (ap is_none (place_index c.args.self.touched.entries c.in-Some.path ∙ sym c.get_index_of.ensures.index) ∙ ap not c.is_none.ensures ∙ ap (λ b. not (not b)) c.if-is_none.false) c.above.invariant
