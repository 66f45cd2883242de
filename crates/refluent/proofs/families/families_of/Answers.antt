use Rattle.std.proofs.Common.{◌+◌, arith, refl}
use Rattle.refluent.proofs.FamilySteps.{families_step, up_here}
use Rattle.refluent.proofs.families.families_of.Goals as goal

pub places-preserved : goal.places-preserved
places-preserved c k e = families_step c.args.links.now k _ c.up_of-up.result c.places.children.items c.places.siblings.items _ _ (omega (arith, e)) (omega (arith, e))
    (up_here c.args.links.now _ _ _ _ (omega (arith, e)) refl c.up_of-up.ensures) (c.requires.up _ (omega (arith, e))) (c.places.invariant (k + 1) (omega (arith, e))) c.put_first.ensures.siblings c.put_first.ensures.children
