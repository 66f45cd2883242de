-- What crates above may cite of the proofs here.
-- the rules that steer to a set: a preference list, whose text is read back
pub use Rattle.merge_core.proofs.SteeringTexts.{steering_prefs, steering_back}
pub use Rattle.merge_core.proofs.DrawnNodes.{in_turn_from}
pub use Rattle.merge_core.proofs.Preferring.{one_first}
pub use Rattle.merge_core.proofs.MergerLaws.{each_first_law, greedy_law, steer_law}
