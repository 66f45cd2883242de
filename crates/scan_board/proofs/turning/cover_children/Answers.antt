use Rattle.std.proofs.Common.{◌≤◌, ap, arith}
use Rattle.std.specs.Prelude.{unwrap_or}
use Rattle.scan_board.specs.Tables.{node_count, count, is_below, command_count}
use Rattle.scan_board.specs.Turns.{is_upto}
use Rattle.scan_board.proofs.Walking.{cover_start, cover_step, cover_inside, cover_falls, upto_most}
use Rattle.scan_board.proofs.Closing.{child_start, child_step, child_ends}
use Rattle.scan_board.proofs.Sound.{only_start, only_step}
use Rattle.scan_board.proofs.turning.cover_children.Goals as goal

pub loop-next-init : goal.loop-next-init
loop-next-init g c = (cover_start c.args.board.now c.args.node c.args.first_child c.args.steps.now c.requires.board c.requires.node_in c.requires.first_child c.requires.within, child_start c.args.board.now c.args.node c.args.first_child c.requires.board c.requires.node_in c.requires.first_child, only_start c.args.board.now c.args.node)

pub cover_one-next-requires-clause-child_in : goal.cover_one-next-requires-clause-child_in
cover_one-next-requires-clause-child_in g c =
    (cover_inside c.args.board.now c.loop-next.board c.args.node c.in-Some.child c.loop-next.next c.args.steps.now c.loop-next.steps c.requires.board c.in-Some.is c.loop-next.invariant.0 c.requires.space).0

pub cover_one-next-requires-clause-space : goal.cover_one-next-requires-clause-space
cover_one-next-requires-clause-space g c =
    (cover_inside c.args.board.now c.loop-next.board c.args.node c.in-Some.child c.loop-next.next c.args.steps.now c.loop-next.steps c.requires.board c.in-Some.is c.loop-next.invariant.0 c.requires.space).1

pub loop-next-smaller : goal.loop-next-smaller
loop-next-smaller g c =
    cover_falls c.args.board.now c.loop-next.board c.cover_one-next.new.board c.args.node c.in-Some.child c.loop-next.next c.cover_one-next.result c.args.steps.now c.loop-next.steps
    c.requires.board c.in-Some.is c.loop-next.invariant.0 c.cover_one-next.ensures.next (ap (λ x. x.tables) c.cover_one-next.ensures.same)

pub loop-next-preserved : goal.loop-next-preserved
loop-next-preserved g c = (
  cover_step c.args.board.now c.loop-next.board c.cover_one-next.new.board c.args.node c.in-Some.child c.loop-next.next c.cover_one-next.result c.args.steps.now c.loop-next.steps c.cover_one-next.new.steps
      c.requires.board c.in-Some.is c.loop-next.invariant.0 c.cover_one-next.ensures.board c.cover_one-next.ensures.next c.cover_one-next.ensures.same c.cover_one-next.ensures.grows c.cover_one-next.ensures.steps,
  child_step c.args.board.now c.loop-next.board c.cover_one-next.new.board c.args.node c.in-Some.child c.loop-next.next c.cover_one-next.result c.requires.board (ap (λ x. x.tables) c.loop-next.invariant.0.same) c.in-Some.is
      (c.loop-next.invariant.0.next_at c.in-Some.child c.in-Some.is).0 (c.loop-next.invariant.0.next_at c.in-Some.child c.in-Some.is).1 c.loop-next.invariant.1 c.cover_one-next.ensures.next (ap (λ x. x.pile) c.cover_one-next.ensures.same)
      c.cover_one-next.ensures.grows c.cover_one-next.ensures.closed c.cover_one-next.ensures.others,
  only_step c.args.board.now c.loop-next.board c.cover_one-next.new.board c.args.node c.in-Some.child (ap (λ x. x.tables) c.loop-next.invariant.0.same) (c.loop-next.invariant.0.next_at c.in-Some.child c.in-Some.is).1 c.loop-next.invariant.2
      (ap (λ x. x.pile) c.cover_one-next.ensures.same) c.cover_one-next.ensures.why c.cover_one-next.ensures.dirs,
)

pub returns-clause-pile : goal.returns-clause-pile
returns-clause-pile g c =
    let m : count (is_upto c.args.board.now.tables c.args.node (unwrap_or c.loop-next.next (node_count c.args.board.now.tables))) (command_count c.args.board.now.tables) ≤ count (is_below c.args.board.now.tables c.args.node) (command_count c.args.board.now.tables) =
    upto_most c.args.board.now.tables c.args.node (unwrap_or c.loop-next.next (node_count c.args.board.now.tables)) in
    omega (arith, c.loop-next.invariant.0.pile)

pub returns-clause-steps : goal.returns-clause-steps
returns-clause-steps g c =
    let m : count (is_upto c.args.board.now.tables c.args.node (unwrap_or c.loop-next.next (node_count c.args.board.now.tables))) (command_count c.args.board.now.tables) ≤ count (is_below c.args.board.now.tables c.args.node) (command_count c.args.board.now.tables) =
    upto_most c.args.board.now.tables c.args.node (unwrap_or c.loop-next.next (node_count c.args.board.now.tables)) in
    omega (arith, c.loop-next.invariant.0.steps)

pub returns-clause-closed : goal.returns-clause-closed
returns-clause-closed g c = (child_ends c.args.board.now c.loop-next.board c.args.node c.loop-next.next c.requires.board (ap (λ x. x.tables) c.loop-next.invariant.0.same) c.in_default.is c.loop-next.invariant.1).0

pub returns-clause-others : goal.returns-clause-others
returns-clause-others g c = (child_ends c.args.board.now c.loop-next.board c.args.node c.loop-next.next c.requires.board (ap (λ x. x.tables) c.loop-next.invariant.0.same) c.in_default.is c.loop-next.invariant.1).1

pub returns-clause-piled : goal.returns-clause-piled
returns-clause-piled g c = (child_ends c.args.board.now c.loop-next.board c.args.node c.loop-next.next c.requires.board (ap (λ x. x.tables) c.loop-next.invariant.0.same) c.in_default.is c.loop-next.invariant.1).2

pub returns-clause-pile_kept : goal.returns-clause-pile_kept
returns-clause-pile_kept g c = (child_ends c.args.board.now c.loop-next.board c.args.node c.loop-next.next c.requires.board (ap (λ x. x.tables) c.loop-next.invariant.0.same) c.in_default.is c.loop-next.invariant.1).3

pub returns-clause-why : goal.returns-clause-why
returns-clause-why g c = c.loop-next.invariant.2.why

pub returns-clause-piles : goal.returns-clause-piles
returns-clause-piles g c = c.loop-next.invariant.2.piles

pub returns-clause-dirs : goal.returns-clause-dirs
returns-clause-dirs g c d = c.loop-next.invariant.2.dirs d
