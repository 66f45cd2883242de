use Rattle.std.proofs.Common.{arith, sym, subst, ◌∙◌, ◌≡◌, ◌-◌, ◌+◌, ◌<◌, ℕ, length}
use Rattle.std.specs.Prelude.{slice_set}
use Rattle.refluent.specs.Families.{IsFirstPlace}
use Rattle.explain_core.specs.Nexts.{IsLeftAt}
use Rattle.explain_core.proofs.Finding.{AreFrom, are_from_more, next_here, next_later}
use Rattle.explain_core.proofs.Placing.{path_below}
use Rattle.explain_core.proofs.nexts.nexts_of.Goals as goal
use Rattle.explain_core.proofs.nexts.nexts_of.Goals.{then-is_left, else-is_left}

pub places-preserved : goal.places-preserved
places-preserved c =
    let count = c.nodes-count.ensures in
    let low = c.places-test.true in
    let place : ℕ = c.nodes-count.result - 1 - c.places.done in
    let within : place < length c.args.joint.now.nodes = omega (arith, count, low) in
    let p = path_below c.args.joint.now.nodes place within in
    let from : length c.args.joint.now.nodes - c.places.done ≡ place + 1 = omega (arith, count, low) in
    let here : place ≡ length c.args.joint.now.nodes - (c.places.done + 1) = omega (arith, count, low) in
    let next : IsFirstPlace (IsLeftAt c.args.joint.now.nodes c.args.set.now) place (length c.args.joint.now.nodes) c.if-is_left.next = elim c.if-is_left.branch [
      | then-is_left w ↦ subst (IsFirstPlace (IsLeftAt c.args.joint.now.nodes c.args.set.now) place (length c.args.joint.now.nodes)) (sym w.next-is)
          (next_here c.args.joint.now.nodes c.args.set.now place within p.0 p.1 (sym (c.is_left.ensures p.0 p.1) ∙ w.if-is_left.true))
      | else-is_left w ↦ subst (IsFirstPlace (IsLeftAt c.args.joint.now.nodes c.args.set.now) place (length c.args.joint.now.nodes)) (sym w.next-is)
          (next_later c.args.joint.now.nodes c.args.set.now place c.places.next p.0 p.1 (sym (c.is_left.ensures p.0 p.1) ∙ w.if-is_left.false)
          (subst (λ k. IsFirstPlace (IsLeftAt c.args.joint.now.nodes c.args.set.now) k (length c.args.joint.now.nodes) c.places.next) from c.places.invariant.next))
    ] in
    subst (λ k. AreFrom c.args.joint.now.nodes c.args.set.now k c.if-is_left.next (slice_set c.places.nexts.items place c.if-is_left.next)) here
    (are_from_more c.args.joint.now.nodes c.args.set.now (length c.args.joint.now.nodes - c.places.done) place c.places.next c.if-is_left.next c.places.nexts.items from c.places.invariant next)
