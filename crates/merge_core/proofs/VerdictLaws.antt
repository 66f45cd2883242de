-- The verdict on a set, by what the tables of a check say.
use Rattle.std.proofs.Common.{◌≡◌, ℕ, zero, suc, Bool, true, false, not, ◌||◌, List, [], ◌∷◌, length, Option, Some, None, refl, sym, ap, subst, ◌∙◌}
use Rattle.std.specs.Prelude.{find}
use Rattle.std.specs.List.{slice_get}
use Rattle.std.proofs.lemmas.Option.{slice_get_within}
use Rattle.sync_command.specs.Changes.{Change, same_change}
use Rattle.sync_command.specs.Trees.{one_each, Fits}
use Rattle.sync_command.specs.Maps.{Store, at}
use Rattle.refluent.specs.declared.joint.Pick.{Pick}
use Rattle.refluent.specs.Sets.{is_in, IsSubset}
use Rattle.refluent.specs.Mergers.{IsMerger}
use Rattle.refluent.specs.CommonTrees.{IsCommonTree, least_common_tree}
use Rattle.refluent.specs.Drawn.{drawn_commands, in_turn}
use Rattle.refluent.specs.Families.{IsFirstPlace}
use Rattle.refluent.specs.Joints.{Joined, StandsForAll, net_sets}
use Rattle.refluent.proofs.CallerLemmas.{least_law, each_law, same_change_is}
use Rattle.pref_list.specs.Ranking.{set_from, set_of}
use Rattle.pref_list.specs.Numbers.{IsPick}
use Rattle.pref_list.proofs.CallerLemmas.{in_from_place}
use Rattle.merge_core.specs.declared.checking.After.{After}
use Rattle.merge_core.specs.Parents.{AreParentsOf}
use Rattle.merge_core.specs.Verdicts.{is_undrawn, CanBeAdded, IsFirstCommand}
use Rattle.merge_core.specs.Afterwards.{AreAfter, AreFilled, IsAddable, IsFirstPick, is_misfit}
use Rattle.merge_core.proofs.DrawnNodes.{IsStanding, drawn_in_turn, drawn_standing, in_turn_from}
use Rattle.merge_core.proofs.CheckLoops.{set_of_low}
use Rattle.merge_core.proofs.CheckedSets.{fits_then, addable_is, addable_from}

-- ---- drawn sets

none_found : (p : Change → Bool) (cs : List Change) → find p cs ≡ None → (c : Change) → is_in cs c ≡ true → p c ≡ false
none_found p [] e c h = cc (h)
none_found p (d ∷ cs) e c h = go (p d) refl e (same_change c d) (same_change_is c d) h (λ none. none_found p cs none c)
  where
    found : ◌≡◌ {A = Option Change} (Some d) None → ⊥
    found e = cc (e)

    go : (a : Bool) → p d ≡ a → find p (d ∷ cs) ≡ None → (b : Bool) → (b ≡ true → c ≡ d) → (b || is_in cs c) ≡ true → (find p cs ≡ None → is_in cs c ≡ true → p c ≡ false) → p c ≡ false
    go true f e b same h rec = absurd (found (rw f at e))
    go false f e true same h rec = ap p (same refl) ∙ f
    go false f e false same h rec = rec (rw f at e) h

not_false : (b : Bool) → not b ≡ false → b ≡ true
not_false true e = refl
not_false false e = cc (e)

module _ (j : Joined) (logs : List (List Change)) (stands : StandsForAll j logs) where
  pub undrawn_is : (set : List Change) → find (λ c. not (is_in (in_turn j.sets) c)) set ≡ find (is_undrawn logs) set
  undrawn_is set = λ i. find (λ c. not (sym (drawn_in_turn j logs stands c) i)) set

  pub all_drawn : (set : List Change) → find (λ c. not (is_in (in_turn j.sets) c)) set ≡ None → IsSubset set (drawn_commands logs)
  all_drawn set none c h = drawn_in_turn j logs stands c ∙ not_false (is_in (in_turn j.sets) c) (none_found (λ c. not (is_in (in_turn j.sets) c)) set none c h)

  drawn_at : (log i : ℕ) (c : Change) → slice_get (set_of j.sets log) i ≡ Some c → is_in (drawn_commands logs) c ≡ true
  drawn_at zero i c e = cc (e)
  drawn_at (suc k) i c e = drawn_in_turn j logs stands c ∙ in_turn_from j.sets k c (in_from_place (set_from j.sets k) i c e)

  -- ---- sets that fit

  module _ (set : List Change) (one : one_each set ≡ true) (part : IsSubset set (drawn_commands logs)) (parents : List (Option ℕ)) (seen : List After) (ups : AreParentsOf j.nodes parents) (are : AreAfter j.nodes set seen)
      (tree : IsFirstPlace (λ i. is_misfit parents seen i ≡ true) 0 (length parents) None) (filled : List Bool) (fills : AreFilled parents seen (length parents) filled) where
    pub set_fits : Fits (least_common_tree logs) set
    set_fits = fits_then j logs stands set one part parents seen ups are tree

    pub first_addable_is : (log place : ℕ) (c : Change) → IsFirstCommand j.sets (IsAddable j.nodes parents seen filled) log place c → IsFirstCommand (net_sets logs) (CanBeAdded (least_common_tree logs) set) log place c
    first_addable_is log place c first = subst (λ sets. IsFirstCommand sets (CanBeAdded (least_common_tree logs) set) log place c) stands.sets (record {
      there = first.there;
      so = addable_is j logs stands set one part parents seen ups are filled fills set_fits c (drawn_at log place c first.there) first.so;
      first = λ l i d before there can. first.first l i d before there (addable_from j logs stands set one part parents seen ups are filled fills set_fits d (drawn_at l i d there) can);
    })

    pub merger_is : IsFirstPick j.sets (IsAddable j.nodes parents seen filled) None → (m : Store) → IsCommonTree m logs → IsMerger (at m) (drawn_commands logs) set
    merger_is none m common = record { within = part; fits = fits; maximal = maximal }
      where
        least : (h : Store) × (at h ≡ least_common_tree logs) × IsCommonTree h logs
        least = least_law logs stands.change stands.common

        fits : Fits (at m) set
        fits = each_law logs stands.change least.0 m least.2 common set part (subst (λ t. Fits t set) (sym least.1) set_fits)

        maximal : (c : Change) → is_in (drawn_commands logs) c ≡ true → is_in set c ≡ false → Fits (at m) (c ∷ set) → ⊥
        maximal c drawn out more = none (suc s.set) s.place c s.there (addable_from j logs stands set one part parents seen ups are filled fills set_fits c drawn (record { further = out; fits = added }))
          where
            s : IsStanding j.sets c
            s = drawn_standing j logs stands c drawn

            all : IsSubset (c ∷ set) (drawn_commands logs)
            all d e = go (same_change d c) (same_change_is d c) e
              where
                go : (b : Bool) → (b ≡ true → d ≡ c) → (b || is_in set d) ≡ true → is_in (drawn_commands logs) d ≡ true
                go true same h = ap (is_in (drawn_commands logs)) (same refl) ∙ drawn
                go false same h = part d h

            added : Fits (least_common_tree logs) (c ∷ set)
            added = subst (λ t. Fits t (c ∷ set)) least.1 (each_law logs stands.change m least.0 common least.2 (c ∷ set) all more)

pub pick_of : (sets : List (List Change)) (pick : Pick) (c : Change) → slice_get (set_of sets pick.log) pick.place ≡ Some c → IsPick sets pick
pick_of sets pick c e = let l = set_of_low sets pick.log pick.place c e in record { low = l.0; high = l.1; place = slice_get_within (set_of sets pick.log) pick.place c e }

pub same_node : {c d : Change} → ◌≡◌ {A = Option Change} (Some c) (Some d) → c.node ≡ d.node
same_node e = ap (λ x. x.node) (same e)
  where
    same : {c d : Change} → ◌≡◌ {A = Option Change} (Some c) (Some d) → c ≡ d
    same e = cc
