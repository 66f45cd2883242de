-- What crates above may cite of the proofs here.
pub use Rattle.refluent.proofs.Sets.{same_change_is, same_change_refl, same_change_at, in_from_at, at_from_in, more, fewer, is_in-append, is_in-filter, is_in-canonical, is_in-without_repeats, all_differ-without_repeats}
pub use Rattle.refluent.proofs.Prerequisites.{LeavesNoChild, after_some, after_none, fits_from_parts, fits_prerequisites, fits_leaves_no_child}
pub use Rattle.refluent.proofs.Growing.{IsWithin, add_fits, can_grow, grow_law, merger_whole}
pub use Rattle.refluent.proofs.Drawing.{IsCommon, IsDrawn, net_in, drawn_known, old_held, drawn_fits_each}
pub use Rattle.refluent.proofs.CommonTrees.{common_holding, least_law, each_law, untouched_law}
pub use Rattle.refluent.proofs.ClashTests.{one_from_no_clash, has_no_clash, leaves_no_child}
-- what a joint says of the logs that it stands for
pub use Rattle.refluent.proofs.JointLemmas.{drawn_is, IsNetSet, set_is, set_fits, value_at_row, row_with_value, node_is, has_node, concerns_named}
