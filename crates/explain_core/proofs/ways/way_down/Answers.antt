use Rattle.std.proofs.Common.{sym, subst, drop, length}
use Rattle.explain_core.specs.Reasons.{AreAt}
use Rattle.explain_core.specs.FirstChains.{way_down}
use Rattle.explain_core.proofs.Climbing.{DownTo, down_ends, down_has, down_low, down_on, down_smaller}
use Rattle.explain_core.proofs.ways.way_down.Goals as goal

pub parent-requires : goal.parent-requires
parent-requires c =
    let u = c.requires.under in
    let d = c.down.invariant u.0 u.1 u.2 u.3 in
    down_low c.args.joint.now c.requires.joint u.0 u.1 c.down.via.items c.down.at d c.args.place u.2

pub down-smaller : goal.down-smaller
down-smaller c =
    let u = c.requires.under in
    let d = c.down.invariant u.0 u.1 u.2 u.3 in
    down_smaller c.args.joint.now c.requires.joint u.0 u.1 c.down.via.items c.down.at d c.args.place u.2 c.down-test.true c.in-Some.up c.in-Some.ensures

pub down-preserved : goal.down-preserved
down-preserved c n p top low =
    let d = c.down.invariant n p top low in
    subst (λ l. DownTo c.args.joint.now.nodes n p l c.in-Some.up) (sym c.in_ok-push.ensures.items)
    (down_on c.args.joint.now c.requires.joint n p c.down.via.items c.down.at d c.args.place top c.down-test.true c.in-Some.up c.in-Some.ensures)

pub unreachable-requires : goal.unreachable-requires
unreachable-requires c =
    let u = c.requires.under in
    let d = c.down.invariant u.0 u.1 u.2 u.3 in
    down_has c.args.joint.now c.requires.joint u.0 u.1 c.down.via.items c.down.at d c.args.place u.2 c.down-test.true c.in-None.ensures

pub returns : goal.returns
returns c n p top low =
    let d = c.down.invariant n p top low in
    subst (λ l. AreAt c.args.joint.now.nodes l (way_down n (drop (length n) p))) (sym c.reverse.ensures.items)
    (down_ends c.args.joint.now c.requires.joint n p c.down.via.items c.down.at d c.args.place top c.down-test.false)
