use Rattle.std.proofs.Common.{ap}
use Rattle.scan_board.proofs.Walking.{row_start, row_step_to, row_inside, row_falls, row_ends}
use Rattle.scan_board.proofs.turning.block_row.Goals as goal

pub loop-next-init : goal.loop-next-init
loop-next-init g c = (rw c.requires.first (row_start c.args.board.now c.args.node c.args.rule c.args.steps.now c.requires.board c.requires.node_in), (λ d. d))

pub block_one-next-requires-clause-node_in : goal.block_one-next-requires-clause-node_in
block_one-next-requires-clause-node_in g c =
    rw ((row_inside c.args.board.now c.loop-next.board c.args.node c.args.rule c.in-Some.command c.loop-next.next c.args.steps.now c.loop-next.steps c.requires.board c.in-Some.is c.loop-next.invariant.0).2) c.requires.node_in

pub block_one-next-requires-clause-command_in : goal.block_one-next-requires-clause-command_in
block_one-next-requires-clause-command_in g c =
    (row_inside c.args.board.now c.loop-next.board c.args.node c.args.rule c.in-Some.command c.loop-next.next c.args.steps.now c.loop-next.steps c.requires.board c.in-Some.is c.loop-next.invariant.0).0

pub block_one-next-requires-clause-of_node : goal.block_one-next-requires-clause-of_node
block_one-next-requires-clause-of_node g c =
    (row_inside c.args.board.now c.loop-next.board c.args.node c.args.rule c.in-Some.command c.loop-next.next c.args.steps.now c.loop-next.steps c.requires.board c.in-Some.is c.loop-next.invariant.0).1

pub loop-next-smaller : goal.loop-next-smaller
loop-next-smaller g c =
    row_falls c.args.board.now c.loop-next.board c.block_one-next.new.board c.args.node c.args.rule c.in-Some.command c.loop-next.next c.block_one-next.result c.args.steps.now c.loop-next.steps
    c.requires.board c.in-Some.is c.loop-next.invariant.0 c.block_one-next.ensures.next (ap (λ x. x.tables) c.block_one-next.ensures.same)

pub loop-next-preserved : goal.loop-next-preserved
loop-next-preserved g c = (
  row_step_to c.args.board.now c.loop-next.board c.block_one-next.new.board c.args.node c.args.rule c.in-Some.command c.loop-next.next c.block_one-next.result c.args.steps.now c.loop-next.steps c.block_one-next.new.steps
      c.requires.board c.in-Some.is c.loop-next.invariant.0 c.block_one-next.ensures.board c.block_one-next.ensures.next c.block_one-next.ensures.same c.block_one-next.ensures.here c.block_one-next.ensures.others c.block_one-next.ensures.steps,
  (λ d. c.block_one-next.ensures.dirs (c.loop-next.invariant.1 d)),
)

pub returns-clause-dirs : goal.returns-clause-dirs
returns-clause-dirs g c d = c.loop-next.invariant.1 d

pub returns-clause-marks : goal.returns-clause-marks
returns-clause-marks g c = (row_ends c.args.board.now c.loop-next.board c.args.node c.args.rule c.loop-next.next c.args.steps.now c.loop-next.steps c.in_default.is c.loop-next.invariant.0).0

pub returns-clause-steps : goal.returns-clause-steps
returns-clause-steps g c = (row_ends c.args.board.now c.loop-next.board c.args.node c.args.rule c.loop-next.next c.args.steps.now c.loop-next.steps c.in_default.is c.loop-next.invariant.0).1
