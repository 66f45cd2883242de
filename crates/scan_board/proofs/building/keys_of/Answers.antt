use Rattle.std.proofs.Common.{◌≡◌, ◌<◌, refl, sym, subst, arith, length}
use Rattle.std.proofs.lemmas.Option.{slice_get_read}
use Rattle.pref_list.specs.Numbers.{AreAllNodesOf}
use Rattle.scan_board.proofs.Keys.{pick_is_one, key_next}
use Rattle.scan_board.proofs.building.keys_of.Goals as goal

pub node_at-node-requires : goal.node_at-node-requires
node_at-node-requires c =
    let low : c.numbers.number < length c.args.numbers.now.picks.items = omega (arith, c.numbers-test.true, c.len-number-end.ensures, c.args.numbers.now.picks.ok.0) in (
      c.args.joint.now.nodes,
      c.args.joint.now.sets,
      subst (AreAllNodesOf c.args.joint.now.nodes c.args.joint.now.sets) (sym c.deref.ensures.value) c.in_ok-nodes.ensures,
      pick_is_one c.args.joint.now.sets c.args.numbers.now.picks.items c.requires.least c.numbers.number c.index-pick.result.now (slice_get_read c.args.numbers.now.picks.items (length c.args.numbers.now.picks.items) c.numbers.number c.index-pick.result.now refl low c.index-pick.ensures),
    )

pub numbers-preserved : goal.numbers-preserved
numbers-preserved c =
    let low : c.numbers.number < length c.args.numbers.now.picks.items = omega (arith, c.numbers-test.true, c.len-number-end.ensures, c.args.numbers.now.picks.ok.0) in
    key_next c.args.joint.now c.args.numbers.now.picks.items c.numbers.keys.items c.push.new.self.items c.numbers.number c.node_at-node.result c.index-pick.result.now c.numbers.invariant
    (slice_get_read c.args.numbers.now.picks.items (length c.args.numbers.now.picks.items) c.numbers.number c.index-pick.result.now refl low c.index-pick.ensures)
    (λ d e. c.node_at-node.ensures c.args.joint.now.nodes c.args.joint.now.sets d (subst (AreAllNodesOf c.args.joint.now.nodes c.args.joint.now.sets) (sym c.deref.ensures.value) c.in_ok-nodes.ensures) e) c.in_ok-push.ensures.items
