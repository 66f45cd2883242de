-- In a joint, the net commands of one node have one old value: what each common tree of the logs holds there.
use Rattle.std.proofs.Common.{◌≡◌, ℕ, zero, suc, List, [], ◌∷◌, Some, refl, sym, ap, ◌∙◌}
use Rattle.std.specs.List.{slice_get}
use Rattle.sync_command.specs.Changes.{Change}
use Rattle.sync_command.specs.Maps.{at}
use Rattle.sync_command.specs.Trees.{Fits}
use Rattle.refluent.specs.Joints.{Joined, IsJoint}
use Rattle.refluent.proofs.CallerLemmas.{at_from_in, set_fits}
use Rattle.refluent.specs.declared.joint.Pick.{Pick}
use Rattle.pref_list.specs.Picks.{command_of}
use Rattle.pref_list.specs.Ranking.{set_from, set_of}
use Rattle.pref_list.proofs.Named.{in_from_place}

-- the set of a command, among all
set_there : (sets : List (List Change)) (l i : ℕ) (c : Change) → slice_get (set_from sets l) i ≡ Some c → slice_get sets l ≡ Some (set_from sets l)
set_there [] l i c e = cc (e)
set_there (set ∷ sets) zero i c e = refl
set_there (set ∷ sets) (suc l) i c e = set_there sets l i c e

-- each common tree holds the old value of a net command
old_held : (j : Joined) (is : IsJoint j) (pick : Pick) (c : Change) → command_of j.sets pick ≡ Some c → at is.stands.common.map c.node ≡ c.old
old_held j is pick c e = go pick.log e
  where
    go : (log : ℕ) → slice_get (set_of j.sets log) pick.place ≡ Some c → at is.stands.common.map c.node ≡ c.old
    go zero f = cc (f)
    go (suc l) f =
        let fits : Fits (at is.stands.common.map) (set_from j.sets l) = set_fits j is.logs is.stands is.stands.common.map is.stands.common.common l (set_from j.sets l) (set_there j.sets l pick.place c f) in
        fits.olds c.node c (at_from_in (set_from j.sets l) fits.one c (in_from_place (set_from j.sets l) pick.place c f))

-- net commands of one node that leave one value are equal
pub same_command : (j : Joined) → IsJoint j → (a b : Pick) (c d : Change) → command_of j.sets a ≡ Some c → command_of j.sets b ≡ Some d → c.node ≡ d.node → c.new ≡ d.new → c ≡ d
same_command j is a b c d e f node new = λ i. record { node = node i; old = old i; new = new i }
  where
    old : c.old ≡ d.old
    old = sym (old_held j is a c e) ∙ ap (at is.stands.common.map) node ∙ old_held j is b d f
