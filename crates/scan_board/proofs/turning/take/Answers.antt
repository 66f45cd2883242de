use Rattle.std.proofs.Common.{ap, ◌∙◌, arith, sym, rules}
use Rattle.scan_board.specs.declared.turning.Rule.TheVariants.{All}
use Rattle.scan_board.proofs.Walking.{take_cost, grows_row}
use Rattle.scan_board.proofs.Taking.{take_complete, take_others, take_right}
use Rattle.scan_board.proofs.Turned.{take_settled, own_taken, up_given, down_given}
use Rattle.scan_board.specs.Tables.{State, leaves_of, parent_of}
use Rattle.scan_board.proofs.turning.take.Goals as goal

pub returns-clause-steps : goal.returns-clause-steps
returns-clause-steps g c =
    take_cost c.args.board.now c.mark.new.self c.block_row.new.board c.spread_up.new.board c.spread_down.new.board c.args.command c.args.node
    c.args.steps.now c.spot-spot.new.steps c.block_row.new.steps c.spread_up.new.steps c.spread_down.new.steps
    c.requires.board c.requires.command_in c.requires.node c.requires.is_open c.requires.alone
    c.mark.ensures.written (omega arith)
    c.block_row.ensures.same (grows_row c.mark.new.self c.block_row.new.board c.args.node All c.block_row.ensures.marks) c.block_row.ensures.steps
    c.spread_up.ensures.same c.spread_up.ensures.grows c.spread_up.ensures.steps
    c.spread_down.ensures.same c.spread_down.ensures.grows c.spread_down.ensures.steps

pub returns-clause-complete : goal.returns-clause-complete
returns-clause-complete g c deep ok =
    take_complete c.args.board.now c.mark.new.self c.block_row.new.board c.spread_up.new.board c.spread_down.new.board c.args.command c.args.node
    c.requires.board c.requires.command_in c.requires.node c.mark.ensures.written
    c.block_row.ensures.same (grows_row c.mark.new.self c.block_row.new.board c.args.node All c.block_row.ensures.marks) c.block_row.ensures.marks
    c.spread_up.ensures.same c.spread_up.ensures.grows (λ e. search rules)
    c.spread_down.ensures.grows (λ e. c.spread_down.ensures.closed (λ z. e (sym c.requires.leaves ∙ z)))
    deep ok

pub returns-clause-others : goal.returns-clause-others
returns-clause-others g c =
    take_others c.args.board.now c.mark.new.self c.block_row.new.board c.spread_up.new.board c.spread_down.new.board c.args.command c.mark.ensures.written c.block_row.ensures.same
    (grows_row c.mark.new.self c.block_row.new.board c.args.node All c.block_row.ensures.marks) c.spread_up.ensures.same c.spread_up.ensures.grows c.spread_down.ensures.grows

pub returns-clause-right : goal.returns-clause-right
returns-clause-right g c =
    take_right c.args.board.now c.mark.new.self c.block_row.new.board c.spread_up.new.board c.spread_down.new.board c.args.command c.requires.board c.requires.command_in c.mark.ensures.written c.block_row.ensures.same
    (grows_row c.mark.new.self c.block_row.new.board c.args.node All c.block_row.ensures.marks) c.spread_up.ensures.right (ap (λ x. x.tables) c.spread_down.ensures.same) (ap (λ x. x.shut) c.spread_down.ensures.same) c.spread_down.ensures.grows

pub returns-clause-settled : goal.returns-clause-settled
returns-clause-settled g c =
    take_settled c.args.board.now c.mark.new.self c.block_row.new.board c.spread_up.new.board c.spread_down.new.board c.args.command c.args.node
    c.requires.board c.requires.command_in c.requires.node c.requires.is_open c.mark.ensures.written
    c.block_row.ensures.same c.block_row.ensures.marks c.block_row.ensures.dirs
    c.spread_up.ensures.same
    (up_given c.block_row.new.board c.spread_up.new.board c.args.leaves (leaves_of c.args.board.now.tables c.args.command) c.spot-spot.result.parent (parent_of c.block_row.new.board.tables c.args.node) c.requires.leaves
    (c.spot-spot.ensures.parent ∙ ap (λ (x : State). parent_of x.tables c.args.node) (sym c.block_row.ensures.same)) c.spread_up.ensures.walk)
    c.spread_down.ensures.same
    (down_given c.spread_up.new.board c.spread_down.new.board c.args.leaves (leaves_of c.args.board.now.tables c.args.command) c.args.node c.requires.leaves c.spread_down.ensures.walk) c.spread_down.ensures.covered
    (own_taken c.args.board.now c.mark.new.self c.block_row.new.board c.spread_up.new.board c.spread_down.new.board c.args.command c.requires.board c.requires.command_in c.mark.ensures.written
    (ap (λ x. x.tables) c.block_row.ensures.same) (ap (λ x. x.tables) c.spread_up.ensures.same) (grows_row c.mark.new.self c.block_row.new.board c.args.node All c.block_row.ensures.marks) c.spread_up.ensures.grows c.spread_down.ensures.grows)
    (ap (λ x. x.pile) c.spread_down.ensures.same ∙ (ap (λ x. x.pile) c.spread_up.ensures.same ∙ (ap (λ x. x.pile) c.block_row.ensures.same ∙ (ap (λ x. x.pile) c.mark.ensures.written ∙ c.requires.pile))))
    (returns-clause-others g c) (returns-clause-complete g c) (returns-clause-right g c)
