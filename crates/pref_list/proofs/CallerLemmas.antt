-- What crates above may cite of the proofs here.
pub use Rattle.pref_list.proofs.Ends.{last_or, first_part, at_end, set_or, set_here, set_other}
pub use Rattle.pref_list.proofs.Named.{in_from_place, place_from_in, one_each-net, named, set_at_number, set_of_next}
pub use Rattle.pref_list.proofs.Numbering.{pick_is, path_within}
pub use Rattle.pref_list.proofs.Ordering.{drop_at}
pub use Rattle.pref_list.proofs.Places.{one_place, rising_at}
pub use Rattle.pref_list.proofs.RankingLaws.{in_turn-nets, drawn_ranked, ranked_once, ranking_drawn}
-- texts of preference lists that are read again, and what is read
pub use Rattle.pref_list.proofs.PrefLaws.{prefs_is, prefs_back, one_prefs}
pub use Rattle.pref_list.proofs.RankingLaws.{in_turn-nets, from_log, in_ranked, drawn_ranked, ranked_once, ranking_drawn}
