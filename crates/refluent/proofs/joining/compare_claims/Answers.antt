use Rattle.refluent.specs.Tables.{IsTable}
use Rattle.std.proofs.Common.{subst}
use Rattle.refluent.proofs.Judging.{agreed, disagreed, disagreement_group, place_within, pair_within}
use Rattle.refluent.proofs.joining.compare_claims.Goals as goal

pub node-requires : goal.node-requires
node-requires c = disagreement_group c.args.claims.items c.as_slice.result.now _ c.in_ok-groups.groups.items _ c.as_slice.ensures.value c.as_slice-in-Some.ensures.value c.as_slice-nodes.ensures.value c.in_ok-groups.ensures c.in-Some.disagreement.place
    (place_within _ c.in-Some.disagreement _ _ _ c.as_slice-3.ensures.value c.in-Some.is c.in_ok-first_disagreement.ensures.within) _

pub returns-in-None-clause-comparison : goal.returns-in-None-clause-comparison
returns-in-None-clause-comparison c sums logs stand many are = agreed c.args.claims.items c.as_slice.result.now _ c.in_ok-groups.groups.items _ c.as_slice.ensures.value c.as_slice-2.ensures.value c.as_slice-3.ensures.value c.in_ok-groups.ensures _ c.in-None.is c.requires.sorted sums logs stand are
    (λ a. c.in_ok-first_disagreement.ensures.least logs a many)

pub returns-in_ok-path-in-Some-clause-comparison : goal.returns-in_ok-path-in-Some-clause-comparison
returns-in_ok-path-in-Some-clause-comparison c sums logs stand many are = disagreed c.args.claims.items c.as_slice.result.now _ _ c.in_ok-groups.groups.items _ _ c.as_slice.ensures.value c.as_slice-2.ensures.value c.as_slice-in-Some.ensures.value c.as_slice-3.ensures.value c.as_slice-nodes.ensures.value c.in_ok-groups.ensures _ c.in-Some.disagreement c.in-Some.is sums logs stand are
    (λ a. c.in_ok-first_disagreement.ensures.least logs a many) _ _ _ c.in_ok-path-in-Some.ensures c.node.ensures

pub returns-in_ok-path-in-Some-clause-range : goal.returns-in_ok-path-in-Some-clause-range
returns-in_ok-path-in-Some-clause-range c = pair_within _ c.in-Some.disagreement _ _ c.in-Some.is c.in_ok-first_disagreement.ensures.within

pub returns-in-None-clause-range : goal.returns-in-None-clause-range
returns-in-None-clause-range c = (c.requires.ordered, subst (λ l. IsTable l c.in_ok-groups.groups.items) c.as_slice.ensures.value c.in_ok-groups.ensures)
