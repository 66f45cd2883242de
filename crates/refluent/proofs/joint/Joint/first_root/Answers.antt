use Rattle.std.proofs.Common.{arith, subst, None}
use Rattle.refluent.specs.Families.{IsFirstChild}
use Rattle.refluent.proofs.FamilyPaths.{root_found}
use Rattle.refluent.proofs.joint.Joint.first_root.Goals as goal

pub returns : goal.returns
returns c = subst (λ j. IsFirstChild j.nodes None 0 c.index.result.now) c.self.view_is
    (root_found _ _ _ c.self.invariant.1 c.len-roots.result (omega (arith, c.len-roots.ensures, c.self.inside.nodes.ok)) c.index.result.now c.index.ensures)
