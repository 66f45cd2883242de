use Rattle.sync_path.proofs.Cuts.{cut_none, cut_some, bytes_some}
use Rattle.std.proofs.Common.{sym}
use Rattle.sync_path.proofs.bytes.split_near.Goals as goal

pub returns-in-Some-clause-parts : goal.returns-in-Some-clause-parts
returns-in-Some-clause-parts c = cut_some c.args.separator c.args.bytes.now c.in-Some.at (sym c.in-Some.ensures)

pub returns-in-Some-clause-bytes : goal.returns-in-Some-clause-bytes
returns-in-Some-clause-bytes c = bytes_some c.args.separator c.args.bytes.now c.in-Some.at (sym c.in-Some.ensures)

pub returns-in-None-clause-parts : goal.returns-in-None-clause-parts
returns-in-None-clause-parts c = cut_none c.args.separator c.args.bytes.now (sym c.in-None.ensures)
