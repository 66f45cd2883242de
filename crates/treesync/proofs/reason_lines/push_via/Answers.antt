use Rattle.std.proofs.Common.{◌++◌, ◌∷◌, [], ◌∙◌, ap, rules}
use Rattle.std.specs.List.{slice_index}
use Rattle.refluent.specs.Joints.{path_at}
use Rattle.treesync.specs.Conflicts.{node_text}
use Rattle.treesync.proofs.Explaining.{via_more}
use Rattle.treesync.proofs.reason_lines.push_via.Goals as goal

pub places-preserved : goal.places-preserved
places-preserved c = record {
  pushed = c.in_ok-push_node.ensures
      ∙ ap (λ l. l ++ node_text (path_at c.args.joint.now.nodes (slice_index c.args.via.now c.places.place-index))) (c.in_ok-push.ensures.items ∙ ap (λ l. l ++ 32 ∷ []) c.places.invariant.pushed)
      ∙ via_more c.args.joint.now.nodes c.args.line.now.items c.args.via.now c.places.place-index (search rules);
}
