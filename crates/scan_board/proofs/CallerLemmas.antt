-- What crates above may cite of the proofs here.
pub use Rattle.scan_board.proofs.Counting.{tell_equal, count_one, count_most}
pub use Rattle.scan_board.proofs.Walking.{nat_eq_at, nat_eq_not}
pub use Rattle.scan_board.proofs.Settling.{up_none}
