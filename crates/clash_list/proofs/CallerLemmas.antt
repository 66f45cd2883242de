-- The lemmas for callers. No other file of `proofs/` is meant for them.

-- when the list of clashes is empty
pub use Rattle.clash_list.proofs.Listing.{listed_law}
-- and what holds of the drawn commands then
pub use Rattle.clash_list.proofs.ClashLaws.{only_law}
