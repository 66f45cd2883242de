use Rattle.std.proofs.Common.{ap, ◌∙◌, arith}
use Rattle.scan_board.proofs.Walking.{down_start, down_inside, down_step, down_falls, down_ends}
use Rattle.scan_board.specs.Tables.{State, is_open}
use Rattle.scan_board.proofs.Closing.{covered_start, covered_step, covered_ends}
use Rattle.scan_board.proofs.Sound.{sound_start, sound_step, sound_ends, covered_down}
use Rattle.scan_board.proofs.turning.bare_down.Goals as goal

pub loop-top-init : goal.loop-top-init
loop-top-init g c = (
  down_start c.args.board.now c.push.new.self c.args.node c.args.steps.now c.push.new.steps c.requires.node_in c.requires.pile c.push.ensures.board c.push.ensures.written c.push.ensures.step,
  covered_start c.args.board.now c.push.new.self c.args.node c.push.ensures.written,
  sound_start c.args.board.now c.push.new.self c.args.node c.requires.pile c.push.ensures.written,
)

pub cover-requires-clause-node_in : goal.cover-requires-clause-node_in
cover-requires-clause-node_in g c = (down_inside c.args.board.now c.loop-top.board c.pop.new.self c.in-Some.top c.args.steps.now c.loop-top.steps c.requires.board c.loop-top.invariant.0 c.in-Some.ensures.some).0

pub cover-requires-clause-space : goal.cover-requires-clause-space
cover-requires-clause-space g c = (down_inside c.args.board.now c.loop-top.board c.pop.new.self c.in-Some.top c.args.steps.now c.loop-top.steps c.requires.board c.loop-top.invariant.0 c.in-Some.ensures.some).1

pub cover-requires-clause-within : goal.cover-requires-clause-within
cover-requires-clause-within g c = (down_inside c.args.board.now c.loop-top.board c.pop.new.self c.in-Some.top c.args.steps.now c.loop-top.steps c.requires.board c.loop-top.invariant.0 c.in-Some.ensures.some).2

pub loop-top-smaller : goal.loop-top-smaller
loop-top-smaller g c = down_falls c.loop-top.board c.pop.new.self c.cover.new.board c.in-Some.top c.in-Some.ensures.some c.cover.ensures.pile

pub loop-top-preserved : goal.loop-top-preserved
loop-top-preserved g c = (
  down_step c.args.board.now c.loop-top.board c.pop.new.self c.cover.new.board c.in-Some.top c.args.steps.now c.loop-top.steps c.pop.new.steps c.cover.new.steps
      c.requires.board c.loop-top.invariant.0 c.in-Some.ensures.some c.pop.ensures.step c.cover.ensures.board c.cover.ensures.same c.cover.ensures.grows c.cover.ensures.within c.cover.ensures.pile c.cover.ensures.steps,
  covered_step c.args.board.now c.loop-top.board c.pop.new.self c.cover.new.board c.args.node c.in-Some.top (ap (λ x. x.tables) c.loop-top.invariant.0.same) c.in-Some.ensures.some (ap (λ x. x.tables) c.cover.ensures.same) c.loop-top.invariant.1
      c.cover.ensures.grows c.cover.ensures.bare_here c.cover.ensures.bare_others c.cover.ensures.closed c.cover.ensures.piled c.cover.ensures.pile_kept,
  sound_step c.args.board.now c.loop-top.board c.pop.new.self c.cover.new.board c.args.node c.in-Some.top (ap (λ x. x.tables) c.loop-top.invariant.0.same) c.in-Some.ensures.some c.loop-top.invariant.2
      c.cover.ensures.bare_here c.cover.ensures.bare_others c.cover.ensures.why c.cover.ensures.piles c.cover.ensures.dirs,
)

pub returns-clause-same : goal.returns-clause-same
returns-clause-same g c = (down_ends c.args.board.now c.loop-top.board c.pop.new.self c.args.steps.now c.loop-top.steps c.requires.pile c.loop-top.invariant.0 c.in_default.ensures.none.0 c.in_default.ensures.none.1).0

pub returns-clause-grows : goal.returns-clause-grows
returns-clause-grows g c = (down_ends c.args.board.now c.loop-top.board c.pop.new.self c.args.steps.now c.loop-top.steps c.requires.pile c.loop-top.invariant.0 c.in_default.ensures.none.0 c.in_default.ensures.none.1).1

pub returns-clause-steps : goal.returns-clause-steps
returns-clause-steps g c =
    let k = (down_ends c.args.board.now c.loop-top.board c.pop.new.self c.args.steps.now c.loop-top.steps c.requires.pile c.loop-top.invariant.0 c.in_default.ensures.none.0 c.in_default.ensures.none.1).2 in
    omega (arith, c.pop.ensures.step)

pub returns-clause-closed : goal.returns-clause-closed
returns-clause-closed g c deep i a under y =
    ap (λ (x : State). is_open x i) c.in_default.ensures.none.1 ∙
    covered_ends c.args.board.now c.loop-top.board c.args.node c.requires.board c.loop-top.invariant.0.grows c.in_default.ensures.none.0 c.loop-top.invariant.1 deep i a under y

pub returns-clause-walk : goal.returns-clause-walk
returns-clause-walk g c = sound_ends c.args.board.now c.loop-top.board c.pop.new.self c.args.node c.in_default.ensures.none.1 c.loop-top.invariant.2

pub returns-clause-covered : goal.returns-clause-covered
returns-clause-covered g c = covered_down c.args.board.now c.loop-top.board c.pop.new.self c.args.node c.in_default.ensures.none.0 c.in_default.ensures.none.1 c.loop-top.invariant.1
