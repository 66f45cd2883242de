-- What the proofs of the crates above cite. The laws in `src/laws.rt` are the theorems for a reader; these are the steps.

-- ---- what a log touches: `touches`, `names`, `above`, `leaves`
pub use Rattle.canon_set.proofs.Touched.{is_some-touches, untouched}
pub use Rattle.canon_set.proofs.Standing.{named_touch, not_named, unleft, above_all}
pub use Rattle.canon_set.proofs.Nets.{one_each-touches, olds-touches, result-touches}
pub use Rattle.canon_set.proofs.Follows.{takes_push, push_takes, result_touched}
pub use Rattle.canon_set.proofs.Leave.{above_dir, above_named, above_up, gives_none, leaves_none}
pub use Rattle.canon_set.proofs.Checks.{gives_named}
-- ---- the net set of a log
pub use Rattle.canon_set.proofs.Nets.{net_fits}
pub use Rattle.canon_set.proofs.Theorems.{net_law}
pub use Rattle.canon_set.proofs.Values.{net_at}
-- ---- the canonical list of a set
pub use Rattle.canon_set.proofs.Sorting.{command_at-canonical, one_each-canonical, is_canonical-canonical}
pub use Rattle.canon_set.proofs.Permuted.{command_at-permuted, one_each-permuted, sorted_canonical, sorted_is_canonical}
pub use Rattle.canon_set.proofs.Theorems.{canonical_law, canonical_is_set}
-- ---- inverse sets
pub use Rattle.canon_set.proofs.Inverses.{inverse_law, inverse_fitting}
-- ---- a further command of a log
pub use Rattle.canon_set.proofs.FollowLaw.{follow_law}
-- ---- a log that one tree takes is taken by each tree that is alike where it counts
pub use Rattle.canon_set.proofs.Alike.{IsAlike, alike_takes}
-- ---- the nodes that a log touches and those above them, as a list
pub use Rattle.canon_set.proofs.Finite.{covers, covered}
-- ---- what a sum knows of the log that it stands for
pub use Rattle.canon_set.proofs.Standing.{touch_here, over_here, IsTouch, touch_is, no_touch}
