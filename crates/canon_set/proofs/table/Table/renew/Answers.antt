use Rattle.canon_set.proofs.Tables.{place_low}
use Rattle.canon_set.proofs.table.Table.renew.Goals as goal

pub set_last-requires : goal.set_last-requires
set_last-requires c = place_low _ _ c.args.command.node c.args.place c.recount.ensures.touched c.requires.place
