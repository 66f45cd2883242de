use Rattle.std.proofs.Common.{ap, arith}
use Rattle.scan_board.proofs.Walking.{cover_cost}
use Rattle.scan_board.proofs.Dirs.{kept_dirs, below_dirs}
use Rattle.scan_board.proofs.turning.cover.Goals as goal

pub returns-else-spot-clause-pile : goal.returns-else-spot-clause-pile
returns-else-spot-clause-pile g c =
    (cover_cost c.args.board.now c.cover_children.new.board c.tally.new.self c.args.node c.args.steps.now c.cover_children.new.steps c.tally.new.steps c.spot-spot.ensures.board c.requires.node_in
    (ap (λ x. x.tables) c.cover_children.ensures.same) (ap (λ x. x.bare) c.cover_children.ensures.same) (ap (λ x. x.tables) c.tally.ensures.written) (ap (λ x. x.marks) c.tally.ensures.written) (ap (λ x. x.pile) c.tally.ensures.written) (ap (λ x. x.bare) c.tally.ensures.written)
    (cc) c.cover_children.ensures.pile (omega arith) c.tally.ensures.step).0

pub returns-else-spot-clause-steps : goal.returns-else-spot-clause-steps
returns-else-spot-clause-steps g c =
    (cover_cost c.args.board.now c.cover_children.new.board c.tally.new.self c.args.node c.args.steps.now c.cover_children.new.steps c.tally.new.steps c.spot-spot.ensures.board c.requires.node_in
    (ap (λ x. x.tables) c.cover_children.ensures.same) (ap (λ x. x.bare) c.cover_children.ensures.same) (ap (λ x. x.tables) c.tally.ensures.written) (ap (λ x. x.marks) c.tally.ensures.written) (ap (λ x. x.pile) c.tally.ensures.written) (ap (λ x. x.bare) c.tally.ensures.written)
    (cc) c.cover_children.ensures.pile (omega arith) c.tally.ensures.step).1

pub returns-else-spot-clause-dirs : goal.returns-else-spot-clause-dirs
returns-else-spot-clause-dirs g c =
    kept_dirs c.args.board.now c.cover_children.new.board c.tally.new.self c.args.node c.spot-spot.result.tally.dirs c.cover_children.ensures.board c.requires.node_in c.spot-spot.ensures.dirs (ap (λ x. x.tables) c.cover_children.ensures.same)
    (λ i a n d. below_dirs c.args.board.now c.cover_children.new.board c.args.node i c.spot-spot.ensures.board c.requires.node_in c.cover_children.ensures.others a n) c.cover_children.ensures.dirs
    (ap (λ x. x.tables) c.tally.ensures.written) (ap (λ x. x.marks) c.tally.ensures.written) (ap (λ x. x.dirs) c.tally.ensures.written)
