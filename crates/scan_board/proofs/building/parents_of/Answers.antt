use Rattle.std.proofs.Common.{◌≡◌, ◌<◌, ap, sym, subst, ◌∙◌, ℕ, List, Option, arith, length}
use Rattle.sync_path.specs.Paths.{parent}
use Rattle.refluent.specs.Joints.{path_at}
use Rattle.scan_board.specs.Linked.{IsOptionWithin, through}
use Rattle.scan_board.proofs.Keys.{path_is, parent_within, index_long, read, up_next}
use Rattle.scan_board.proofs.building.parents_of.Goals as goal

pub through-parent-requires : goal.through-parent-requires
through-parent-requires c =
    let low : c.nodes.node < length c.args.naming.now.names.back.items = omega (arith, c.nodes-test.true, c.len-node-end.ensures, c.args.naming.now.names.back.ok.0) in
    let p = path_is c.args.joint.now c.args.naming.now c.requires c.nodes.node low in
    subst (λ (n : ℕ). IsOptionWithin c.parent.result n) (sym (ap length c.deref.ensures.value ∙ index_long c.args.joint.now c.args.naming.now c.requires))
    (parent_within c.args.joint.now.nodes (parent p.0) c.parent.result (c.parent.ensures p.0 (ap (path_at c.args.joint.now.nodes) (read c.args.naming.now.names.back.items c.nodes.node c.index-place.result.now 0 low c.index-place.ensures) ∙ p.1)))

pub nodes-preserved : goal.nodes-preserved
nodes-preserved c =
    let low : c.nodes.node < length c.args.naming.now.names.back.items = omega (arith, c.nodes-test.true, c.len-node-end.ensures, c.args.naming.now.names.back.ok.0) in
    up_next c.args.joint.now c.args.naming.now c.nodes.parents.items c.push.new.self.items c.nodes.node c.index-place.result.now c.parent.result c.through-parent.result c.nodes.invariant (read c.args.naming.now.names.back.items c.nodes.node c.index-place.result.now 0 low c.index-place.ensures) c.parent.ensures
    (c.through-parent.ensures ∙ ap (λ (l : List (Option ℕ)). through l c.parent.result) c.deref.ensures.value) c.in_ok-push.ensures.items
