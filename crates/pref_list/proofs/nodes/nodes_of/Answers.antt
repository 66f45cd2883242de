use Rattle.std.proofs.Common.{arith, refl}
use Rattle.std.proofs.lemmas.Option.{slice_get_read}
use Rattle.pref_list.proofs.PlaceLists.{all_filled, below_len, one_node, one_within, pick_entry, picks_at}
use Rattle.pref_list.proofs.nodes.nodes_of.Goals as goal

pub overflow_sub-pick : goal.overflow_sub-pick
overflow_sub-pick c = let entry = pick_entry _ _ _ _ (picks_at _ _ _ _ (omega arith) c.commands-pick-items.ensures) _ _ _ c.picks.invariant (omega arith) in entry.counted

pub index_mut-requires : goal.index_mut-requires
index_mut-requires c = let entry = pick_entry _ _ _ _ (picks_at _ _ _ _ (omega arith) c.commands-pick-items.ensures) _ _ _ c.picks.invariant (omega arith) in below_len c.picks.lists _ entry.list

pub index_mut-requires-in-picks : goal.index_mut-requires-in-picks
index_mut-requires-in-picks c =
    let entry = pick_entry _ _ _ _ (picks_at _ _ _ _ (omega arith) c.commands-pick-items.ensures) _ _ _ c.picks.invariant (omega arith) in
    below_len c.index_mut.result.now _ (entry.place _ (slice_get_read _ _ _ _ refl entry.list c.index_mut.ensures.value))

pub picks-preserved : goal.picks-preserved
picks-preserved c = one_within _ _ _ _ (picks_at _ _ _ _ (omega arith) c.commands-pick-items.ensures) _ _ _ _ c.picks.invariant (omega arith) c.index_mut.ensures.value

pub nodes-preserved : goal.nodes-preserved
nodes-preserved c = one_node _ _ _ _ (picks_at _ _ _ _ (omega arith) c.commands-pick-items.ensures) _ c.logs-count.ensures.joint refl _ _ (omega arith) c.picks.invariant

pub returns : goal.returns
returns c = all_filled _ c.logs-count.ensures.joint _ _ (omega arith) c.nodes.invariant
