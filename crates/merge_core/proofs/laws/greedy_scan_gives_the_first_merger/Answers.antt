use Rattle.merge_core.proofs.MergerLaws.{greedy_law}
use Rattle.merge_core.proofs.laws.greedy_scan_gives_the_first_merger.Goals as goal

pub returns : goal.returns
returns c = greedy_law
