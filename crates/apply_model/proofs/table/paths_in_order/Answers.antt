use Rattle.std.proofs.Common.{is_lt, rules}
use Rattle.std.proofs.lemmas.List.Sorted.{answers_always, ranks_by}
use Rattle.sync_path.specs.Order.{path_cmp_total}
use Rattle.sync_path.specs.Paths.{Node, path_cmp}
use Rattle.apply_model.proofs.table.paths_in_order.Goals as goal

pub returns-clause-sorted : goal.returns-clause-sorted
returns-clause-sorted c = c.sort_unstable_by.ensures.sorted (λ (a b : Node). is_lt (path_cmp a b)) (ranks_by path_cmp_total (λ (p : Node). p)) (answers_always _ _ _ (λ f a r f' k. search rules))
