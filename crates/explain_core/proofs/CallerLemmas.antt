-- The lemmas for callers. No other file of `proofs/` is meant for them.

-- a chain bars its command, and so does a reason that is shown
pub use Rattle.explain_core.proofs.ChainLaws.{bars_law}
pub use Rattle.explain_core.proofs.Explaining.{shown_law}
-- chains for what a merger leaves out, by the law that says what can be taken beside a set
pub use Rattle.explain_core.proofs.Barred.{TellConflicts, chain_law, first_law}
-- what a listed reason says, by the same
pub use Rattle.explain_core.proofs.Explaining.{explain_law, first_found}
-- what a joint holds at first, and the places of its nodes
pub use Rattle.explain_core.proofs.FirstFound.{chain_placed, drawn_placed, tree_is}
pub use Rattle.explain_core.proofs.Placing.{place_at, place_is, places_are}
