use Rattle.treesync.proofs.Applying.{not_ready}
use Rattle.treesync.proofs.apply.apply_set.Goals as goal

pub returns-in-Err : goal.returns-in-Err
returns-in-Err g c = rw c.apply_refusal.ensures (not_ready c.args.word c.args.set.now _ _ c.in-Err.fault c.in-Err.ensures.asking c.in-Err.ensures.answer)
