use Rattle.std.proofs.Common.{arith, subst, sym, ◌+◌}
use Rattle.pref_list.specs.Ranking.{set_of}
use Rattle.pref_list.specs.Numbers.{AreBefore, AreNodesOf}
use Rattle.pref_list.proofs.InOrder.{none_before}
use Rattle.pref_list.proofs.Numbered.{AllNumbersTo, list_at, no_lists, one_list_more}
use Rattle.pref_list.proofs.numbers.number_all.Goals as goal

pub number_set-requires-clause-nodes : goal.number_set-requires-clause-nodes
number_set-requires-clause-nodes c = subst (λ l. AreNodesOf c.args.joint.now.nodes (set_of c.args.joint.now.sets (c.logs.log + 1)) l) (sym c.deref.ensures.value)
    (list_at _ _ _ _ _ c.in_ok-nodes.ensures (omega arith) c.index-places.ensures)

pub logs-preserved : goal.logs-preserved
logs-preserved c = one_list_more _ _ _ _ _ _ _ _ _ _ _ _ c.logs.invariant c.in_ok-numbers.ensures.before c.in_ok-numbers.ensures.chained c.in_ok-numbers.ensures.kept c.in_ok-numbers.ensures.numbers c.in_ok-push.ensures.items

pub logs-init : goal.logs-init
logs-init c = subst (λ l. AllNumbersTo c.args.joint.now.sets c.args.joint.now.nodes c.in_ok-chains.chains.picks.items c.in_ok-chains.chains.heads.items c.in_ok-chains.chains.nexts.items 0 l) (sym c.in_ok-lists.ensures.items)
    (no_lists _ _ _ _ _ (subst (λ p. AreBefore p 1 0) (sym c.in_ok-chains.ensures.none) (none_before 1 0)) c.in_ok-chains.ensures.chained)
