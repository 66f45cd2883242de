use Rattle.std.proofs.Common.{◌+◌, arith, ◌∙◌, subst}
use Rattle.refluent.specs.Comparisons.{IsComparison, IsComparisonOf}
use Rattle.refluent.proofs.Gathering.{are_sorted, each_length, are_ordered}
use Rattle.refluent.proofs.Comparing.{still, closed, below, agreed_tree, refused_by_one, err_is}
use Rattle.refluent.proofs.joining.compare_logs.Goals as goal

pub compare_claims-requires-clause-sorted : goal.compare_claims-requires-clause-sorted
compare_claims-requires-clause-sorted c = are_sorted c.sorted-claims.result.items c.sorted-claims.ensures.sorted

pub compare_claims-requires-clause-closed : goal.compare_claims-requires-clause-closed
compare_claims-requires-clause-closed c = closed c.args.sums.items c.in_ok-gather.ensures.sums c.in_ok-gather.field-0.items c.sorted-claims.result.items c.sorted-claims.ensures.permutation c.in_ok-gather.ensures.claims

pub compare_claims-requires-clause-logs : goal.compare_claims-requires-clause-logs
compare_claims-requires-clause-logs c = below c.args.sums.items c.in_ok-gather.ensures.sums c.in_ok-gather.field-0.items c.sorted-claims.result.items c.sorted-claims.ensures.permutation c.in_ok-gather.ensures.claims c.len-count.result (omega (arith, c.len-count.ensures, c.args.sums.ok))

pub returns-in-Agreed-clause-agreed : goal.returns-in-Agreed-clause-agreed
returns-in-Agreed-clause-agreed c logs stand = agreed_tree c.args.sums.items logs c.in-Agreed.claims.items c.in-Agreed.groups.items stand (subst (λ k. IsComparison logs k) c.in-Agreed.is (c.in_ok-claims.ensures.comparison c.args.sums.items logs stand (each_length c.args.sums.items logs stand ∙ omega (arith, c.len-count.ensures, c.args.sums.ok)) (still c.args.sums.items c.in_ok-gather.ensures.sums c.in_ok-gather.field-0.items c.sorted-claims.result.items c.sorted-claims.ensures.permutation c.in_ok-gather.ensures.claims logs stand)))

pub returns-in-Disagreed-clause-refused : goal.returns-in-Disagreed-clause-refused
returns-in-Disagreed-clause-refused c logs first second path stand is =
    let e = err_is (c.in-Disagreed.first + 1) (c.in-Disagreed.second + 1) first second c.in-Disagreed.path path is in
    refused_by_one logs c.in-Disagreed.first c.in-Disagreed.second first second c.in-Disagreed.path path e.0 e.1 e.2
    (subst (λ k. IsComparison logs k) c.in-Disagreed.is (c.in_ok-claims.ensures.comparison c.args.sums.items logs stand (each_length c.args.sums.items logs stand ∙ omega (arith, c.len-count.ensures, c.args.sums.ok)) (still c.args.sums.items c.in_ok-gather.ensures.sums c.in_ok-gather.field-0.items c.sorted-claims.result.items c.sorted-claims.ensures.permutation c.in_ok-gather.ensures.claims logs stand)))

pub compare_claims-requires-clause-ordered : goal.compare_claims-requires-clause-ordered
compare_claims-requires-clause-ordered c = are_ordered c.in_ok-gather.field-0.items c.sorted-claims.result.items c.sorted-claims.ensures.permutation c.sorted-claims.ensures.sorted c.in_ok-gather.ensures.once

pub returns-in-Agreed-clause-table : goal.returns-in-Agreed-clause-table
returns-in-Agreed-clause-table c = subst (λ k. IsComparisonOf c.len-count.result k) c.in-Agreed.is c.in_ok-claims.ensures.range
