use Rattle.std.proofs.Common.{ap, arith, refl}
use Rattle.scan_board.specs.Tables.{node_count}
use Rattle.scan_board.proofs.Walking.{shut_step, lower_falls, option_in, grows_refl}
use Rattle.scan_board.proofs.Shutting.{way_start, way_step, way_ends}
use Rattle.scan_board.proofs.Sound.{up_start, up_step}
use Rattle.scan_board.proofs.turning.shut_up.Goals as goal

pub shut_one-at-requires : goal.shut_one-at-requires
shut_one-at-requires g c = let k = option_in c.loop-at.at c.in-Some.node (node_count c.args.board.now.tables) c.in-Some.is c.loop-at.invariant.0.at_in in
    record { node_in = rw (ap (λ x. x.tables) c.loop-at.invariant.0.same) k }

pub loop-at-smaller : goal.loop-at-smaller
loop-at-smaller g c = lower_falls c.shut_one-at.result c.loop-at.at c.in-Some.node c.in-Some.is c.shut_one-at.ensures.lower

pub loop-at-preserved : goal.loop-at-preserved
loop-at-preserved g c = (
  shut_step c.args.board.now c.loop-at.board c.shut_one-at.new.board c.in-Some.node c.loop-at.at c.shut_one-at.result c.args.steps.now c.loop-at.steps c.shut_one-at.new.steps
      c.in-Some.is c.loop-at.invariant.0 c.shut_one-at.ensures.board c.shut_one-at.ensures.same c.shut_one-at.ensures.lower c.shut_one-at.ensures.grows c.shut_one-at.ensures.paid c.shut_one-at.ensures.steps,
  way_step c.args.board.now c.loop-at.board c.shut_one-at.new.board c.args.from c.loop-at.at c.shut_one-at.result c.in-Some.node c.requires.board (ap (λ x. x.tables) c.loop-at.invariant.0.same) c.in-Some.is
      (option_in c.loop-at.at c.in-Some.node (node_count c.args.board.now.tables) c.in-Some.is c.loop-at.invariant.0.at_in) c.loop-at.invariant.1 c.shut_one-at.ensures.grows c.shut_one-at.ensures.here c.shut_one-at.ensures.others
      c.shut_one-at.ensures.row c.shut_one-at.ensures.why c.shut_one-at.ensures.stops c.shut_one-at.ensures.goes,
  up_step c.args.board.now c.loop-at.board c.shut_one-at.new.board c.args.from c.loop-at.at c.shut_one-at.result c.in-Some.node c.in-Some.is c.loop-at.invariant.1
      (way_step c.args.board.now c.loop-at.board c.shut_one-at.new.board c.args.from c.loop-at.at c.shut_one-at.result c.in-Some.node c.requires.board (ap (λ x. x.tables) c.loop-at.invariant.0.same) c.in-Some.is
      (option_in c.loop-at.at c.in-Some.node (node_count c.args.board.now.tables) c.in-Some.is c.loop-at.invariant.0.at_in) c.loop-at.invariant.1 c.shut_one-at.ensures.grows c.shut_one-at.ensures.here c.shut_one-at.ensures.others
      c.shut_one-at.ensures.row c.shut_one-at.ensures.why c.shut_one-at.ensures.stops c.shut_one-at.ensures.goes)
      c.loop-at.invariant.2 c.shut_one-at.ensures.others c.shut_one-at.ensures.dirs,
)

pub loop-at-init : goal.loop-at-init
loop-at-init g c = (
  record {
    board = c.requires.board;
    same = refl;
    at_in = c.requires.from_in;
    grows = grows_refl c.args.board.now;
    paid = (λ p e. omega arith);
    steps = omega arith;
  },
  way_start c.args.board.now c.args.from,
  up_start c.args.board.now c.args.from,
)

pub returns-clause-right : goal.returns-clause-right
returns-clause-right g c ok = (way_ends c.args.board.now c.loop-at.board c.args.from c.loop-at.at (ap (λ x. x.tables) c.loop-at.invariant.0.same) c.in_default.is c.loop-at.invariant.1 ok).0

pub returns-clause-closed : goal.returns-clause-closed
returns-clause-closed g c ok = (way_ends c.args.board.now c.loop-at.board c.args.from c.loop-at.at (ap (λ x. x.tables) c.loop-at.invariant.0.same) c.in_default.is c.loop-at.invariant.1 ok).1

pub returns-clause-walk : goal.returns-clause-walk
returns-clause-walk g c = c.loop-at.invariant.2
