use Rattle.rounds.proofs.Rebased.{next_law, tree_law}
use Rattle.rounds.proofs.laws.rebased_sets_lead_to_the_merger.Goals as goal

pub returns-clause-tree : goal.returns-clause-tree
returns-clause-tree c = tree_law

pub returns-clause-next : goal.returns-clause-next
returns-clause-next c = next_law
