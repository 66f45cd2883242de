use Rattle.std.proofs.Common.{map}
use Rattle.sync_round.specs.Rounds.{OfRound}
use Rattle.sync_round.proofs.Trees.{FirstOnes}
use Rattle.sync_round.proofs.Walks.{IsLedTo}
use Rattle.sync_round.proofs.rounding.lead_all_on.Given as goal

abbrev pub invariant-trees : goal.invariant-trees
invariant-trees g l =
    OfRound l.joint l.set (λ sets. FirstOnes IsLedTo l.place l.changes sets
    (map (λ tree. (goal.Tree-dyn g (tree.vtable, tree.value)).live tree.value) l.initial.trees.items)
    (map (λ tree. (goal.Tree-dyn g (tree.vtable, tree.value)).live tree.value) l.trees.items))
