use Rattle.clash_list.proofs.ClashLaws.{only_law}
use Rattle.clash_list.proofs.laws.all_drawn_commands_are_the_only_merger.Goals as goal

pub returns : goal.returns
returns c = only_law
