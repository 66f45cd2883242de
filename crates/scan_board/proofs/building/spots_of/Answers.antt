use Rattle.std.proofs.Common.{◌≡◌, ◌<◌, ℕ, false, refl, ap, sym, ◌∙◌, None, arith, length}
use Rattle.std.specs.Prelude.{slice_index, unwrap_or}
use Rattle.sync_command.specs.Values.{kind_of}
use Rattle.refluent.specs.Joints.{value_at}
use Rattle.scan_board.specs.Linked.{option_at}
use Rattle.scan_board.proofs.Keys.{read, spot_next}
use Rattle.scan_board.proofs.building.spots_of.Goals as goal

pub nodes-preserved : goal.nodes-preserved
nodes-preserved c =
    let low : c.nodes.node < length c.args.naming.now.names.back.items = omega (arith, c.nodes-test.true, c.len-count.ensures, c.args.naming.now.names.back.ok.0) in
    let here : c.index-place.result.now ≡ slice_index c.args.naming.now.names.back.items c.nodes.node = read c.args.naming.now.names.back.items c.nodes.node c.index-place.result.now 0 low c.index-place.ensures in
    let heads : c.index-place.result.now < length c.args.naming.now.rows.heads.items = rw here (c.requires.naming.names.back_in c.nodes.node low) in
    let families : c.nodes.node < length c.args.families.now.parents.items = rw c.requires.families.parents.len low in
    spot_next c.args.joint.now c.args.naming.now c.args.families.now c.args.dirs.now c.nodes.spots.items c.push.new.self.items c.nodes.node
    (record { starts = c.kind.result; parent = c.index-in-nodes.result.now; first_child = c.index-in-nodes-2.result.now; next_child = c.index-in-nodes-3.result.now; first = c.unwrap_or-first.result; tally = record { dirs = slice_index c.args.dirs.now c.nodes.node; shut = false; bare = false } })
    c.first.result.now c.nodes.invariant (ap (value_at c.args.joint.now.nodes) (sym here) ∙ c.first.ensures) c.kind.ensures
    (read c.args.families.now.parents.items c.nodes.node c.index-in-nodes.result.now None families c.index-in-nodes.ensures)
    (read c.args.families.now.kids.heads.items c.nodes.node c.index-in-nodes-2.result.now None (rw c.requires.families.kids.heads_len low) c.index-in-nodes-2.ensures)
    (read c.args.families.now.kids.nexts.items c.nodes.node c.index-in-nodes-3.result.now None (rw c.requires.families.kids.nexts_len families) c.index-in-nodes-3.ensures)
    (c.unwrap_or-first.ensures ∙ ap (λ o. unwrap_or o 0) (read c.args.naming.now.rows.heads.items c.index-place.result.now c.index.result.now None heads c.index.ensures ∙ ap (option_at c.args.naming.now.rows.heads.items) here))
    refl refl refl c.in_ok-push.ensures.items
