use Rattle.std.proofs.Common.{◌<◌, arith, length}
use Rattle.refluent.specs.Drawn.{drawn_of}
use Rattle.explain_core.specs.Reasons.{reason_of}
use Rattle.explain_core.proofs.Listing.{drawn_at, drawn_pick, next_reason}
use Rattle.explain_core.proofs.walk.Walk.next.Goals as goal

pub reason-requires-clause-pick : goal.reason-requires-clause-pick
reason-requires-clause-pick c = drawn_pick c.args.self.now.joint.now.sets c.args.self.now.drawn c.requires.drawn c.next_left_out-self.result c.entry-pick.result c.entry-pick.ensures

pub returns-clause-next : goal.returns-clause-next
returns-clause-next c =
    let low : c.next_left_out-self.result < length c.args.self.now.drawn = let n = c.len.ensures in let m = c.if-self-len.false in omega (arith, n, m) in
    let out = c.next_left_out-self.ensures.out low in
    let drawn = drawn_at c.args.self.now.joint.now.sets c.args.self.now.drawn c.requires.drawn c.next_left_out-self.result c.entry-pick.result c.entry-pick.ensures in
    next_reason (reason_of c.args.self.now.joint.now c.args.self.now.set.now) c.args.self.now.set.now (drawn_of c.args.self.now.joint.now.sets) c.args.self.now.at c.next_left_out-self.result
    c.next_left_out-self.ensures.rest out.0 out.1 out.2 drawn.0 drawn.2 c.in_ok-found.found (c.in_ok-found.ensures drawn.0 drawn.1)
