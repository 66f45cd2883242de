use Rattle.canon_set.proofs.TableLists.{changes_first, changes_turn, changes_end}
use Rattle.std.proofs.lemmas.Map.Iter.{rest_more, rest_all}
use Rattle.canon_set.proofs.table.Table.into_changes.Goals as goal

pub touched-init : goal.touched-init
touched-init c = changes_first _ _ _ c.in_ok-commands.ensures.items c.into_iter-path-iterator.ensures.into_iter_gives.0

pub touched-preserved : goal.touched-preserved
touched-preserved c = changes_turn _ _ _ _ _ _ (rest_more (λ x. x) _ _ c.next.result _ c.in-Some.is c.next.ensures.steps) c.in_ok-push_change.ensures c.touched.invariant

pub returns : goal.returns
returns c = changes_end _ _ _ (rest_all (λ x. x) _ _ c.next.result c.in-None.is c.next.ensures.steps) c.touched.invariant
