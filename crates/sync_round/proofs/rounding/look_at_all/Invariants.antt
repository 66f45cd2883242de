use Rattle.std.proofs.Common.{map}
use Rattle.sync_round.specs.Rounds.{OfRound}
use Rattle.sync_round.proofs.Trees.{FirstOnes}
use Rattle.sync_round.proofs.Walks.{IsFoundReadyOne}
use Rattle.sync_round.proofs.rounding.look_at_all.Given as goal

abbrev pub invariant-trees : goal.invariant-trees
invariant-trees g l =
    OfRound l.joint l.set (λ sets. FirstOnes IsFoundReadyOne l.place 0 sets
    (map (λ tree. (goal.Tree-dyn g (tree.vtable, tree.value)).live tree.value) l.initial.trees.items)
    (map (λ tree. (goal.Tree-dyn g (tree.vtable, tree.value)).live tree.value) l.trees.items))
