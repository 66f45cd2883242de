use Rattle.std.proofs.Common.{arith, ap, sym, ◌∙◌, length}
use Rattle.std.proofs.lemmas.Option.{slice_get-get_or}
use Rattle.pref_list.specs.Ranking.{set_of}
use Rattle.merge_core.proofs.CheckLoops.{commands_are, there_at, node_low, can_here, cannot_here}
use Rattle.merge_core.proofs.checking.first_in_log.Goals as goal

pub bounds-nodes-place : goal.bounds-nodes-place
bounds-nodes-place c =
    let own = ap length (commands_are c.args.joint.now.sets c.args.log c.set.result.now c.commands-commands.result.now c.requires.log.0 c.set.ensures c.commands-commands.ensures.commands) in
    let m = c.requires.nodes.many in
    let low = c.places-test.true in
    omega (arith, own, m, low)

pub can_add-requires-clause-place : goal.can_add-requires-clause-place
can_add-requires-clause-place c =
    let own = commands_are c.args.joint.now.sets c.args.log c.set.result.now c.commands-commands.result.now c.requires.log.0 c.set.ensures c.commands-commands.ensures.commands in
    let n = ap length own in
    let m = c.requires.nodes.many in
    let low = c.places-test.true in
    let there = there_at c.args.joint.now.sets c.args.log c.places.place c.commands-commands.result.now c.index-commands-place.result own low c.index-commands-place.is in
    let place = slice_get-get_or c.args.nodes.now c.places.place 0 (omega (arith, n, m, low)) in
    node_low c.args.joint.now.nodes c.args.parents.now c.requires.parents _ c.index-commands-place.result.node (c.requires.nodes.each c.places.place _ c.index-commands-place.result place there)

pub returns-then-can_add : goal.returns-then-can_add
returns-then-can_add c =
    let own = commands_are c.args.joint.now.sets c.args.log c.set.result.now c.commands-commands.result.now c.requires.log.0 c.set.ensures c.commands-commands.ensures.commands in
    let n = ap length own in
    let m = c.requires.nodes.many in
    let low = c.places-test.true in
    let there = there_at c.args.joint.now.sets c.args.log c.places.place c.commands-commands.result.now c.index-commands-place.result own low c.index-commands-place.is in
    let place = slice_get-get_or c.args.nodes.now c.places.place 0 (omega (arith, n, m, low)) in (
      omega arith,
      omega (arith, n, low),
      can_here c.args.joint.now.nodes c.args.parents.now c.args.seen.now c.args.filled.now c.requires.parents (set_of c.args.joint.now.sets c.args.log) c.args.nodes.now c.requires.nodes c.places.place _ c.index-commands-place.result there place
          (sym c.can_add.ensures ∙ c.if-can_add.true),
      c.places.invariant,
    )

pub places-preserved : goal.places-preserved
places-preserved c =
    let own = commands_are c.args.joint.now.sets c.args.log c.set.result.now c.commands-commands.result.now c.requires.log.0 c.set.ensures c.commands-commands.ensures.commands in
    let n = ap length own in
    let m = c.requires.nodes.many in
    let low = c.places-test.true in
    let there = there_at c.args.joint.now.sets c.args.log c.places.place c.commands-commands.result.now c.index-commands-place.result own low c.index-commands-place.is in
    let place = slice_get-get_or c.args.nodes.now c.places.place 0 (omega (arith, n, m, low)) in
    cannot_here c.args.joint.now.nodes c.args.parents.now c.args.seen.now c.args.filled.now c.requires.parents (set_of c.args.joint.now.sets c.args.log) c.args.nodes.now c.requires.nodes c.places.place _ c.index-commands-place.result there place
    (sym c.can_add.ensures ∙ c.if-can_add.false) c.places.invariant

pub returns : goal.returns
returns c j from low so =
    let own = commands_are c.args.joint.now.sets c.args.log c.set.result.now c.commands-commands.result.now c.requires.log.0 c.set.ensures c.commands-commands.ensures.commands in
    let n = ap length own in
    let over = c.places-test.false in
    c.places.invariant j from (omega (arith, n, over, low)) so
