-- The set of what the scan takes is the first merger.
use Rattle.std.proofs.Common.{◌≡◌, Bool, true, false, ◌&&◌, List, [], ◌∷◌, Some, refl, sym, ap, subst, ◌∙◌, arith}
use Rattle.std.specs.Prelude.{if◌then◌else◌, is_none}
use Rattle.sync_path.specs.Paths.{same_path}
use Rattle.sync_path.proofs.CallerLemmas.{both}
use Rattle.sync_command.proofs.CallerLemmas.{same_fits}
use Rattle.canon_set.proofs.CallerLemmas.{command_at-canonical, one_each-canonical}
use Rattle.refluent.proofs.CallerLemmas.{in_from_at, at_from_in}
use Rattle.sync_command.specs.Changes.{Change}
use Rattle.sync_command.specs.Trees.{Holding, command_at, one_each, Fits}
use Rattle.sync_command.specs.Maps.{Store, at}
use Rattle.canon_set.specs.Sets.{IsFitting, canonical}
use Rattle.refluent.specs.Sets.{is_in}
use Rattle.refluent.specs.CommonTrees.{IsCommonTree}
use Rattle.refluent.specs.Drawn.{drawn_commands}
use Rattle.refluent.specs.Joints.{Joined, IsJoint, StandsForAll}
use Rattle.pref_list.specs.declared.rules.Rule.{Rule}
use Rattle.pref_list.specs.Ranking.{ranked, ranking}
use Rattle.merge_core.specs.Conflicts.{greedy_scan}
use Rattle.merge_core.specs.FirstMergers.{is_preferred, IsFirstMerger}
use Rattle.merge_core.specs.Taken.{IsSameSet}
use Rattle.merge_core.proofs.MergerLaws.{greedy_law}

alike : (a b : Bool) → (a ≡ true → b ≡ true) → (b ≡ true → a ≡ true) → a ≡ b
alike true b f g = sym (f refl)
alike false true f g = g refl
alike false false f g = refl

-- two sets with the same command at each node have the same commands
in_same : (cs ds : List Change) → one_each cs ≡ true → IsSameSet cs ds → (c : Change) → is_in ds c ≡ is_in cs c
in_same cs ds one is c = alike (is_in ds c) (is_in cs c)
    (λ e. in_from_at cs c.node c (sym (is.same c.node) ∙ at_from_in ds is.one c e))
    (λ e. in_from_at ds c.node c (is.same c.node ∙ at_from_in cs one c e))

preferred_same : (ranking ms ns ss : List Change) → ((c : Change) → is_in ns c ≡ is_in ms c) → is_preferred ranking ns ss ≡ is_preferred ranking ms ss
preferred_same [] ms ns ss h = refl
preferred_same (c ∷ ranking) ms ns ss h = ap (λ b. if b then (if is_in ss c then is_preferred ranking ns ss else true) else (if is_in ss c then false else is_preferred ranking ns ss)) (h c)
    ∙ ap (λ r. if is_in ms c then (if is_in ss c then r else true) else (if is_in ss c then false else r)) (preferred_same ranking ms ns ss h)

fits_more : (t : Holding) (cs ds : List Change) (c : Change) → one_each cs ≡ true → IsSameSet cs ds → Fits t (c ∷ ds) → Fits t (c ∷ cs)
fits_more t cs ds c one is fits = same_fits t (c ∷ ds) (c ∷ cs) (pair (is_none (command_at cs c.node)) (one_each cs) (ap is_none (sym (is.same c.node)) ∙ (both (is_none (command_at ds c.node)) (one_each ds) fits.one).0) one)
    (λ p. ap (λ o. if same_path p c.node then Some c else o) (is.same p)) fits
  where
    pair : (a b : Bool) → a ≡ true → b ≡ true → (a && b) ≡ true
    pair a b e f = grind arith

pub first_same : (t : Holding) (drawn ranking cs ds : List Change) → IsSameSet cs ds → IsFirstMerger t drawn ranking cs → IsFirstMerger t drawn ranking ds
first_same t drawn ranking cs ds is first = record {
  merger = record {
    within = λ c e. first.merger.within c (sym (in_same cs ds first.merger.fits.one is c) ∙ e);
    fits = same_fits t cs ds is.one (λ p. sym (is.same p)) first.merger.fits;
    maximal = λ c there out more. first.merger.maximal c there (sym (in_same cs ds first.merger.fits.one is c) ∙ out) (fits_more t cs ds c first.merger.fits.one is more);
  };
  first = λ other merger. preferred_same ranking cs ds other (in_same cs ds first.merger.fits.one is) ∙ first.first other merger;
}

-- the set in the admissible order
pub same_canonical : (cs ds : List Change) → IsSameSet cs ds → IsSameSet cs (canonical ds)
same_canonical cs ds is = record {
  one = one_each-canonical ds is.one;
  same = λ p. command_at-canonical ds is.one p ∙ is.same p;
}
