use Rattle.std.proofs.Common.{ap}
use Rattle.scan_board.proofs.Dirs.{dirs_at}
use Rattle.scan_board.proofs.turning.cover_one.Goals as goal

pub returns-clause-dirs : goal.returns-clause-dirs
returns-clause-dirs g c d = dirs_at c.push.new.self c.block_row.new.board.tables c.block_row.new.board.marks c.block_row.new.board.dirs
    (ap (λ x. x.tables) c.push.ensures.written) (ap (λ x. x.marks) c.push.ensures.written) (ap (λ x. x.dirs) c.push.ensures.written) (c.block_row.ensures.dirs d)
