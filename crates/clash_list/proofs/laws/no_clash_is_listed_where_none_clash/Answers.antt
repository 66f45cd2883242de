use Rattle.clash_list.proofs.Listing.{listed_law}
use Rattle.clash_list.proofs.laws.no_clash_is_listed_where_none_clash.Goals as goal

pub returns : goal.returns
returns c = listed_law
