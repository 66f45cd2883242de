use Rattle.std.specs.Prelude.{option_copied}
use Rattle.canon_set.specs.Touches.{lent_touch}
use Rattle.record_core.proofs.Looked.{look_on}
use Rattle.record_core.proofs.sealing.look.Goals as goal

pub nodes-preserved : goal.nodes-preserved
nodes-preserved g c =
    look_on (option_copied c.args.undone) c.args.sum.now.touched c.nodes.place (lent_touch c.touch.result) c.in_ok-here.here c.nodes.shown c.next-shown.result _ _ _ c.touch.ensures c.nodes.invariant c.in_ok-here.ensures.asks c.in_ok-here.ensures.known c.next-shown.ensures.within c.in_ok-here.ensures.has_last c.next-shown.ensures.undone c.next-shown.ensures.shows
