use Rattle.pref_list.proofs.Numbered.{one_more}
use Rattle.pref_list.proofs.numbers.number_set.Goals as goal

pub places-preserved : goal.places-preserved
places-preserved c = one_more _ _ _ _ _ _ _ _ _ _ _ _ _ _ c.places.invariant c.in_ok-own.ensures.before c.in_ok-own.ensures.chained c.in_ok-own.ensures.kept c.in_ok-own.ensures.number c.in_ok-push.ensures.items
