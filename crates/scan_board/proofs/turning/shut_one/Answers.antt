use Rattle.std.proofs.Common.{ap, arith}
use Rattle.scan_board.proofs.Walking.{shut_cost}
use Rattle.scan_board.proofs.Dirs.{kept_dirs, spares_dirs}
use Rattle.scan_board.specs.Tables.{mark_of}
use Rattle.scan_board.proofs.turning.shut_one.Goals as goal

pub returns-else-spot-clause-paid : goal.returns-else-spot-clause-paid
returns-else-spot-clause-paid g c p e =
    shut_cost c.args.board.now c.block_row.new.board c.tally.new.self c.args.node c.args.steps.now c.block_row.new.steps c.tally.new.steps c.spot-spot.ensures.board c.requires.node_in
    (ap (λ x. x.tables) c.block_row.ensures.same) (ap (λ x. x.shut) c.block_row.ensures.same) (ap (λ x. x.tables) c.tally.ensures.written) (ap (λ x. x.marks) c.tally.ensures.written) (ap (λ x. x.shut) c.tally.ensures.written)
    (cc) (omega arith) c.tally.ensures.step

pub returns-else-spot-clause-steps : goal.returns-else-spot-clause-steps
returns-else-spot-clause-steps g c = let k = shut_cost c.args.board.now c.block_row.new.board c.tally.new.self c.args.node c.args.steps.now c.block_row.new.steps c.tally.new.steps c.spot-spot.ensures.board c.requires.node_in
    (ap (λ x. x.tables) c.block_row.ensures.same) (ap (λ x. x.shut) c.block_row.ensures.same) (ap (λ x. x.tables) c.tally.ensures.written) (ap (λ x. x.marks) c.tally.ensures.written) (ap (λ x. x.shut) c.tally.ensures.written)
    (cc) (omega arith) c.tally.ensures.step in omega arith

pub returns-else-spot-clause-dirs : goal.returns-else-spot-clause-dirs
returns-else-spot-clause-dirs g c =
    kept_dirs c.args.board.now c.block_row.new.board c.tally.new.self c.args.node c.spot-spot.result.tally.dirs c.block_row.ensures.board c.requires.node_in c.spot-spot.ensures.dirs (ap (λ x. x.tables) c.block_row.ensures.same)
    (λ i a n d. spares_dirs c.args.board.now c.args.node i (mark_of c.block_row.new.board i) (c.block_row.ensures.marks i a) d) c.block_row.ensures.dirs
    (ap (λ x. x.tables) c.tally.ensures.written) (ap (λ x. x.marks) c.tally.ensures.written) (ap (λ x. x.dirs) c.tally.ensures.written)
