use Rattle.std.proofs.Common.{get_or, refl}
use Rattle.explain_core.proofs.Testing.{down_all, down_goes, down_stops}
use Rattle.explain_core.proofs.showing.leads_down.Goals as goal

pub returns-then-not-is_child : goal.returns-then-not-is_child
returns-then-not-is_child c n xs top e =
    down_stops c.args.joint.now.nodes n c.args.via.now xs e c.via.next-index c.via.before (get_or c.args.via.now c.via.next-index 0) c.via-test.true refl (c.via.invariant.from n xs top e)
    c.is_child.result c.is_child.ensures c.if-not-is_child.true

pub via-preserved : goal.via-preserved
via-preserved c = record {
  low = c.requires.via c.via.next-index c.via-test.true;
  from = λ n xs top e. down_goes c.args.joint.now.nodes n c.args.via.now xs e c.via.next-index c.via.before (get_or c.args.via.now c.via.next-index 0) c.via-test.true refl (c.via.invariant.from n xs top e)
      c.is_child.result c.is_child.ensures c.if-not-is_child.false;
}

pub returns : goal.returns
returns c n xs top e = down_all c.args.joint.now.nodes n c.args.via.now xs e c.via.next-index c.via.before c.via-test.false (c.via.invariant.from n xs top e)
