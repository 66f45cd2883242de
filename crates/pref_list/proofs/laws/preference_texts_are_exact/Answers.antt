use Rattle.pref_list.proofs.PrefLaws.{prefs_is, prefs_back, one_prefs}
use Rattle.pref_list.proofs.laws.preference_texts_are_exact.Goals as goal

pub returns : goal.returns
returns c = record { text = prefs_is; read = prefs_back; one = one_prefs }
