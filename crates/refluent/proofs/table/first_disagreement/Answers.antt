use Rattle.std.proofs.Common.{◌≡◌, length, sym, ◌∙◌, arith, ap}
use Rattle.refluent.proofs.Disagreeing.{step_all, written, within_step}
use Rattle.refluent.proofs.table.first_disagreement.Goals as goal

pub nodes-preserved : goal.nodes-preserved
nodes-preserved c = let long : length c.demand.new.demands ≡ length c.nodes.demands.items = c.demand.auto.demands ∙ ap length c.as_mut_slice.ensures.value in
    let items = written c.demand.new.demands c.nodes.demands.items c.nodes.demands.len (omega (arith, c.nodes.demands.ok)) long in
    record {
      many = ap length items ∙ long ∙ c.nodes.invariant.many;
      within = within_step _ _ _ _ (c.as_slice.ensures.value ∙ items) (long ∙ c.nodes.invariant.many) c.nodes.best c.least_pair.result c.better-best.result c.least_pair.ensures c.better-best.ensures c.nodes.invariant.within;
      best = λ logs are many. step_all logs _ _ _ c.nodes-test.true _ (c.demand.ensures logs) (long ∙ c.nodes.invariant.many ∙ sym many) c.nodes.best c.least_pair.result c.better-best.result (c.as_slice.ensures.value ∙ items) c.least_pair.ensures c.better-best.ensures (c.nodes.invariant.best logs are many) are;
    }
