use Rattle.canon_set.specs.Tables.{entry_at}
use Rattle.canon_set.proofs.Tables.{entry_of}
use Rattle.canon_set.proofs.sums.LogSum.entry.Goals as goal

pub returns : goal.returns
returns c = entry_of _ c.args.self.now (entry_at c.self.inside.table) c.self.view_is c.self.invariant c.args.path.now c.entry.result c.entry.ensures
