-- For the crates above: what is known, step by step, and what was sent.
pub use Rattle.sync_port.proofs.Known.{both_more, both_then, both_alone, counted_since}
pub use Rattle.sync_port.proofs.Pieces.{HasRead, nothing_read, more_read}
