use Rattle.std.proofs.Common.{◌≤◌, arith}
use Rattle.scan_board.specs.Tables.{command_count, is_open, is_unshut, is_covered, is_untaken, opens, unshut, covered, untaken}
use Rattle.scan_board.proofs.Counting.{count_most}
use Rattle.scan_board.proofs.laws.credit_is_bounded.Goals as goal

pub returns : goal.returns
returns c s =
    let a : opens s ≤ command_count s.tables = count_most (is_open s) (command_count s.tables) in
    let b : unshut s ≤ command_count s.tables = count_most (is_unshut s) (command_count s.tables) in
    let d : covered s ≤ command_count s.tables = count_most (is_covered s) (command_count s.tables) in
    let e : untaken s ≤ command_count s.tables = count_most (is_untaken s) (command_count s.tables) in
    omega arith
