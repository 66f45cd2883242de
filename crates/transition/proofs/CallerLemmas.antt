-- What crates above may cite of the proofs here.
pub use Rattle.transition.proofs.TransitionLaws.{transition_at, one_each-transition, transition_fits, same_transition, law_of_each_tree, canonical_merger}
pub use Rattle.transition.proofs.Nets.{drawn_net, made_of_nets}
-- what is printed is within the logs: a merger, a transition by the number of its log, and the admissible order
pub use Rattle.transition.proofs.WithinLogs.{drawn_within, canonical_within, transition_within, numbered_within}
-- its text, beside those of the logs and a limit that they keep to, and the number of its commands
pub use Rattle.transition.proofs.TextSizes.{text_within, text_within_limit, commands_within}
