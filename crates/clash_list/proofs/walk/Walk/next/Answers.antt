use Rattle.std.proofs.Common.{sym, arith, ◌∙◌, ◌≤◌, ◌≡◌, [], length}
use Rattle.clash_list.specs.WalkStates.{left_of}
use Rattle.clash_list.proofs.Walking.{over_left}
use Rattle.clash_list.proofs.walk.Walk.next.Goals as goal

pub returns-clause-next : goal.returns-clause-next
returns-clause-next c = let s = c.groups.self in let state = c.groups.invariant.state in
    let high : length s.joint.now.nodes ≤ s.node = omega (arith, c.nodes.ensures, c.groups-test.false) in
    let over : left_of s ≡ [] = over_left s.joint.now s.node s.child s.lefts.items s.rights.items s.cursor.left s.cursor.right high state.below (state.over high) in
    (sym c.groups.invariant.left ∙ over, over)
