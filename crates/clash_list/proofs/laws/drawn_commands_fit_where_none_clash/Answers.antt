use Rattle.clash_list.proofs.ClashLaws.{clash_law}
use Rattle.clash_list.proofs.laws.drawn_commands_fit_where_none_clash.Goals as goal

pub returns : goal.returns
returns c = clash_law
