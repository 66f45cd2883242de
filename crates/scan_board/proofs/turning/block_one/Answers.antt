use Rattle.std.proofs.Common.{◌≡◌, ◌+◌, true, arith, ap}
use Rattle.scan_board.specs.Tables.{opens, is_open}
use Rattle.scan_board.proofs.Walking.{opens_block}
use Rattle.scan_board.proofs.turning.block_one.Goals as goal

pub returns-then-falls_under-clause-steps : goal.returns-then-falls_under-clause-steps
returns-then-falls_under-clause-steps g c =
    let was_open : is_open c.args.board.now c.args.command ≡ true = cc in
    let e : opens c.args.board.now ≡ opens c.block.new.board + 1 = opens_block c.args.board.now c.block.new.board c.args.command (omega arith) (omega arith)
    (ap (λ x. x.tables) c.block.ensures.same) (ap (λ x. x.marks) c.block.ensures.same) was_open in
    omega arith
