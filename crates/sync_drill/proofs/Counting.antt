-- What a summary counts.
use Rattle.std.proofs.Common.{◌≡◌, ◌∙◌, ◌<◌, ◌≤◌, ◌+◌, ◌-◌, refl, sym, ap, ap₂, subst, ℕ, zero, suc, Bool, true, false, cond, List, [], ◌∷◌, map, length, drop, get_or, drop-cons, Some, arith}
use Rattle.std.proofs.lemmas.List.{length-map}
use Rattle.sync_command.specs.Changes.{Change, goes_before}
use Rattle.sync_command.specs.Maps.{Store, at}
use Rattle.sync_command.specs.Trees.{Holding}
use Rattle.canon_set.specs.Logs.{net}
use Rattle.canon_set.specs.Sets.{canonical, put_in}
use Rattle.canon_set.specs.Sums.{Sum, StandsFor}
use Rattle.refluent.specs.CommonTrees.{HasCommonTree, IsCommonTree}
use Rattle.refluent.specs.Drawn.{drawn_commands, drawn_of}
use Rattle.refluent.specs.FirstDisagreements.{log_at}
use Rattle.refluent.specs.Joints.{EachStandsFor, Joined, StandsForAll}
use Rattle.refluent.specs.Sets.{IsSubset, is_in}
use Rattle.refluent.proofs.CallerLemmas.{drawn_is}
use Rattle.merge_core.specs.FirstMergers.{IsFirstMergerOf}
use Rattle.transition.specs.Transitions.{FitsCommonTrees, IsTransitionOf, transition}
use Rattle.sync_drill.specs.Summaries.{command_count, transition_count}

-- ---- commands

abbrev pub counts_of : List Sum → ℕ
counts_of [] = 0
counts_of (s ∷ sums) = s.count + counts_of sums

pub counted : (sums : List Sum) (made : List (List Change)) → EachStandsFor sums made → counts_of sums ≡ command_count made
counted [] [] each = refl
counted [] (log ∷ made) each = absurd each
counted (s ∷ sums) [] each = absurd each
counted (s ∷ sums) (log ∷ made) each = ap₂ (λ a b. a + b) each.0.count (counted sums made each.1)

pub one_counted : (sums : List Sum) (at : ℕ) (s : Sum) (before after whole : ℕ) → at < length sums → s ≡ get_or sums at s → after ≡ before + s.count
    → before + counts_of (drop at sums) ≡ whole → after + counts_of (drop (at + 1) sums) ≡ whole
one_counted sums at s before after whole within is more h =
    let here : counts_of (drop at sums) ≡ s.count + counts_of (drop (at + 1) sums) =
    ap counts_of (drop-cons sums at s within) ∙ ap (λ x. x.count + counts_of (drop (suc at) sums)) (sym is)
    ∙ ap (λ n. s.count + counts_of (drop n sums)) (let e : suc at ≡ at + 1 = omega arith in e) in
    omega (arith, here, more, h)

pub all_counted : (sums : List Sum) (at before whole : ℕ) → length sums ≤ at → before + counts_of (drop at sums) ≡ whole → before ≡ whole
all_counted sums at before whole h e = let none : counts_of (drop at sums) ≡ 0 = ap counts_of (gone sums at h) in omega (arith, none, e)
  where
    gone : (sums : List Sum) (at : ℕ) → length sums ≤ at → drop at sums ≡ []
    gone [] zero h = refl
    gone [] (suc at) h = refl
    gone (s ∷ sums) zero h = absurd (omega (arith, h))
    gone (s ∷ sums) (suc at) h = gone sums at (omega (arith, h))

-- ---- transitions

put_length : (c : Change) (cs : List Change) → length (put_in c cs) ≡ suc (length cs)
put_length c [] = refl
put_length c (d ∷ ds) = by (goes_before c d) (put_length c ds)
  where
    by : (b : Bool) → length (put_in c ds) ≡ suc (length ds) → length (cond b (c ∷ (d ∷ ds)) (d ∷ put_in c ds)) ≡ suc (suc (length ds))
    by true rest = refl
    by false rest = ap suc rest

canonical_length : (cs : List Change) → length (canonical cs) ≡ length cs
canonical_length [] = refl
canonical_length (c ∷ cs) = put_length c (canonical cs) ∙ ap suc (canonical_length cs)

module _ (j : Joined) (merger : List Change) (first : IsFirstMergerOf j [] merger) where
  pub merger_drawn : (logs : List (List Change)) → StandsForAll j logs → IsSubset merger (drawn_of j.sets)
  merger_drawn logs stands c e =
      ap (λ l. is_in l c) (drawn_is j logs stands) ∙ (first logs stands.common.map stands stands.common.common).merger.within c e

  pub merger_fits : FitsCommonTrees j merger
  merger_fits logs m stands common = (first logs m stands common).merger.fits

-- the transitions from a log on are counted with those before it
abbrev pub IsCountedTo : Joined → List Change → ℕ → ℕ → Type 0
IsCountedTo j merger before i =
    (made : List (List Change)) (m : Store) → StandsForAll j made → IsCommonTree m made
    → before + transition_count (at m) merger (drop i made) ≡ transition_count (at m) merger made

at_here : (made : List (List Change)) (i : ℕ) → i < length made → drop i made ≡ log_at made i ∷ drop (i + 1) made
at_here [] i h = absurd (omega (arith, h))
at_here (log ∷ made) zero h = refl
at_here (log ∷ made) (suc i) h =
    at_here made i (omega (arith, h))
    ∙ ap (λ n. log_at made i ∷ drop n (log ∷ made)) (let e : suc (i + 1) ≡ suc i + 1 = omega arith in e)

sets_many : (j : Joined) (made : List (List Change)) → StandsForAll j made → length j.sets ≡ length made
sets_many j made stands = ap length stands.sets ∙ length-map made (λ log. canonical (net log))

drop_none : (made : List (List Change)) → drop 0 made ≡ made
drop_none [] = refl
drop_none (log ∷ made) = refl

pub none_counted : (j : Joined) (merger : List Change) (before i : ℕ) → before ≡ 0 → i ≡ 0 → IsCountedTo j merger before i
none_counted j merger before i zeroth first made m stands common =
    let all : transition_count (at m) merger (drop i made) ≡ transition_count (at m) merger made =
    ap (transition_count (at m) merger) (ap (λ n. drop n made) first ∙ drop_none made) in
    omega (arith, zeroth, all)

pub transition_counted : (j : Joined) (merger set : List Change) (before after i : ℕ) → i < length j.sets → IsTransitionOf j (i + 1) merger set
    → after ≡ before + length set → IsCountedTo j merger before i → IsCountedTo j merger after (i + 1)
transition_counted j merger set before after i h is more counted made m stands common =
    let within : i < length made = omega (arith, h, sets_many j made stands) in
    let one : length set ≡ length (transition (at m) (net (log_at made i)) merger) =
    ap length (is made m stands common) ∙ canonical_length (transition (at m) (net (log_at made (i + 1 - 1))) merger)
    ∙ ap (λ n. length (transition (at m) (net (log_at made n)) merger)) (let e : i + 1 - 1 ≡ i = omega arith in e) in
    let here : transition_count (at m) merger (drop i made) ≡ length (transition (at m) (net (log_at made i)) merger) + transition_count (at m) merger (drop (i + 1) made) =
    ap (transition_count (at m) merger) (at_here made i within) in
    omega (arith, one, here, more, counted made m stands common)

pub transitions_counted : (j : Joined) (merger : List Change) (count i : ℕ) → length j.sets ≤ i → IsCountedTo j merger count i
    → (made : List (List Change)) (m : Store) → StandsForAll j made → IsCommonTree m made → count ≡ transition_count (at m) merger made
transitions_counted j merger count i h counted made m stands common =
    let none : transition_count (at m) merger (drop i made) ≡ 0 = ap (transition_count (at m) merger) (gone made i (omega (arith, h, sets_many j made stands))) in
    omega (arith, none, counted made m stands common)
  where
    gone : (made : List (List Change)) (i : ℕ) → length made ≤ i → drop i made ≡ []
    gone [] zero h = refl
    gone [] (suc i) h = refl
    gone (log ∷ made) zero h = absurd (omega (arith, h))
    gone (log ∷ made) (suc i) h = gone made i (omega (arith, h))
