-- There is one verdict on a set.
use Rattle.std.proofs.Common.{◌≡◌, ◌⊎◌, ◌<◌, ℕ, zero, suc, Bool, true, false, not, ◌||◌, List, [], ◌∷◌, Option, Some, inl, inr, refl, sym, ap, subst, ◌∙◌, arith}
use Rattle.std.specs.Prelude.{find}
use Rattle.std.specs.List.{slice_get}
use Rattle.sync_path.specs.Paths.{Node, comes_before, same_path}
use Rattle.sync_path.proofs.CallerLemmas.{before_total, same_path_is}
use Rattle.sync_command.specs.Changes.{Change, same_change}
use Rattle.sync_command.specs.Maps.{Store, at}
use Rattle.sync_command.specs.Trees.{Fits, Holding, after}
use Rattle.refluent.specs.CommonTrees.{AllChange, HasCommonTree, IsCommonTree, least_common_tree}
use Rattle.refluent.specs.Drawn.{drawn_commands}
use Rattle.refluent.specs.Joints.{net_sets}
use Rattle.refluent.specs.Mergers.{IsMerger}
use Rattle.refluent.specs.Sets.{IsSubset, is_in}
use Rattle.refluent.proofs.CallerLemmas.{is_in-without_repeats, least_law, same_change_refl}
use Rattle.pref_list.specs.Ranking.{set_from, set_of}
use Rattle.pref_list.proofs.CallerLemmas.{in_from_place, in_turn-nets}
use Rattle.merge_core.specs.Verdicts.{CanBeAdded, IsBefore, IsFirstCommand, IsFirstMisfit, IsVerdict, is_undrawn}
use Rattle.merge_core.specs.declared.checking.Verdict.{Verdict}
use Rattle.merge_core.specs.declared.checking.Verdict.TheVariants.{Merger, NotDrawn, DoesNotFit, CanAdd}
use Rattle.merge_core.proofs.CallerLemmas.{in_turn_from}

-- ---- a set that is not drawn

or_true : (b : Bool) → (b || true) ≡ true
or_true true = refl
or_true false = refl

found_in : (p : Change → Bool) (cs : List Change) (c : Change) → find p cs ≡ Some c → (is_in cs c ≡ true) × (p c ≡ true)
found_in p [] c e = absurd (cc)
found_in p (d ∷ cs) c e = here (p d) refl (found_in p cs c) e
  where
    here : (b : Bool) → p d ≡ b → (find p cs ≡ Some c → (is_in cs c ≡ true) × (p c ≡ true)) → find p (d ∷ cs) ≡ Some c → (is_in (d ∷ cs) c ≡ true) × (p c ≡ true)
    here true t later e =
        let first : ◌≡◌ {A = Option Change} (Some d) (Some c) = rw t at e in
        let same : d ≡ c = cc (first) in
        (ap (λ b. b || is_in cs c) (ap (same_change c) same ∙ same_change_refl c), ap p (sym same) ∙ t)
    here false t later e = let rest = later (rw t at e) in (ap (λ b. same_change c d || b) rest.0 ∙ or_true (same_change c d), rest.1)

not_drawn : (logs : List (List Change)) (set : List Change) (c : Change) → find (is_undrawn logs) set ≡ Some c → IsSubset set (drawn_commands logs) → ⊥
not_drawn logs set c e part =
    let found = found_in (is_undrawn logs) set c e in
    let drawn = part c found.0 in
    let both : not true ≡ true = ap not (sym drawn) ∙ found.1 in
    absurd (cc (both))

-- ---- a set that does not fit

no_misfit : (t : Holding) (set : List Change) (p : Node) → Fits t set → IsFirstMisfit (after set t) p → ⊥
no_misfit t set p fits first =
    let m = first.misfit in
    let dir = fits.tree m.0 p m.1 m.2 in
    absurd (cc (dir, m.3))

one_misfit : (t : Holding) (p q : Node) → IsFirstMisfit t p → IsFirstMisfit t q → p ≡ q
one_misfit t p q a b = go (same_path p q) refl (comes_before p q) refl
  where
    go : (s : Bool) → same_path p q ≡ s → (e : Bool) → comes_before p q ≡ e → p ≡ q
    go true s e f = same_path_is p q s
    go false s true f = let no = b.first p a.misfit in absurd (cc (no, f))
    go false s false f = let no = a.first q b.misfit in let yes = before_total p q s f in absurd (cc (no, yes))

-- ---- a command that can be added

places_cases : (l i k j : ℕ) → ((l ≡ k) × (i ≡ j)) ⊎ (IsBefore l i k j ⊎ IsBefore k j l i)
places_cases l i k j = by (compared l k)
  where
    compared : (a b : ℕ) → (a < b) ⊎ ((a ≡ b) ⊎ (b < a))
    compared a b = grind arith

    by : (l < k) ⊎ ((l ≡ k) ⊎ (k < l)) → ((l ≡ k) × (i ≡ j)) ⊎ (IsBefore l i k j ⊎ IsBefore k j l i)
    by (inl h) = inr (inl (inl h))
    by (inr (inr h)) = inr (inr (inl h))
    by (inr (inl e)) = then (compared i j)
      where
        then : (i < j) ⊎ ((i ≡ j) ⊎ (j < i)) → ((l ≡ k) × (i ≡ j)) ⊎ (IsBefore l i k j ⊎ IsBefore k j l i)
        then (inl h) = inr (inl (inr (e, h)))
        then (inr (inl f)) = inl (e, f)
        then (inr (inr h)) = inr (inr (inr (sym e, h)))

one_command : (sets : List (List Change)) (passes : Change → Type 0) (l i k j : ℕ) (c d : Change) → IsFirstCommand sets passes l i c → IsFirstCommand sets passes k j d → (l ≡ k) × (c ≡ d)
one_command sets passes l i k j c d a b = by (places_cases l i k j)
  where
    by : ((l ≡ k) × (i ≡ j)) ⊎ (IsBefore l i k j ⊎ IsBefore k j l i) → (l ≡ k) × (c ≡ d)
    by (inl (e, f)) =
        let here : slice_get (set_of sets k) j ≡ Some c = subst (λ n. slice_get (set_of sets k) n ≡ Some c) f (subst (λ n. slice_get (set_of sets n) i ≡ Some c) e a.there) in
        (e, cc (here, b.there))
    by (inr (inl h)) = absurd (b.first l i c h a.there a.so)
    by (inr (inr h)) = absurd (a.first k j d h b.there b.so)

drawn_at : (logs : List (List Change)) (log place : ℕ) (c : Change) → slice_get (set_of (net_sets logs) log) place ≡ Some c → is_in (drawn_commands logs) c ≡ true
drawn_at logs zero place c e = absurd (cc (e))
drawn_at logs (suc k) place c e =
    is_in-without_repeats _ c ∙ ap (λ l. is_in l c) (sym (in_turn-nets logs)) ∙ in_turn_from (net_sets logs) k c (in_from_place (set_from (net_sets logs) k) place c e)

-- ---- the verdict

module _ (logs : List (List Change)) (change : AllChange logs) (common : HasCommonTree logs) (set : List Change) where
  least : (m : Store) × (at m ≡ least_common_tree logs) × IsCommonTree m logs
  least = least_law logs change common

  -- a merger for every common tree is one for the least
  least_merger : IsVerdict logs set Merger → IsMerger (least_common_tree logs) (drawn_commands logs) set
  least_merger h = subst (λ t. IsMerger t (drawn_commands logs) set) least.1 (h least.0 least.2)

  not_added : (log place : ℕ) (c : Change) → IsFirstCommand (net_sets logs) (CanBeAdded (least_common_tree logs) set) log place c → IsVerdict logs set Merger → ⊥
  not_added log place c first h = (least_merger h).maximal c (drawn_at logs log place c first.there) first.so.further first.so.fits

  pub one_verdict : (v w : Verdict) → IsVerdict logs set v → IsVerdict logs set w → v ≡ w
  one_verdict Merger Merger p q = refl
  one_verdict Merger (NotDrawn path) p q = absurd (not_drawn logs set q.0 q.1 (least_merger p).within)
  one_verdict Merger (DoesNotFit path) p q = absurd (no_misfit (least_common_tree logs) set path (least_merger p).fits q.1)
  one_verdict Merger (CanAdd log path) p q = absurd (not_added log q.0 q.1 q.4 p)
  one_verdict (NotDrawn path) Merger p q = absurd (not_drawn logs set p.0 p.1 (least_merger q).within)
  one_verdict (NotDrawn path) (NotDrawn other) p q =
      let same : p.0 ≡ q.0 = cc (p.1, q.1) in
      ap NotDrawn (p.2 ∙ ap (λ c. c.node) same ∙ sym q.2)
  one_verdict (NotDrawn path) (DoesNotFit other) p q = absurd (not_drawn logs set p.0 p.1 q.0)
  one_verdict (NotDrawn path) (CanAdd log other) p q = absurd (not_drawn logs set p.0 p.1 q.2)
  one_verdict (DoesNotFit path) Merger p q = absurd (no_misfit (least_common_tree logs) set path (least_merger q).fits p.1)
  one_verdict (DoesNotFit path) (NotDrawn other) p q = absurd (not_drawn logs set q.0 q.1 p.0)
  one_verdict (DoesNotFit path) (DoesNotFit other) p q = ap DoesNotFit (one_misfit (after set (least_common_tree logs)) path other p.1 q.1)
  one_verdict (DoesNotFit path) (CanAdd log other) p q = absurd (no_misfit (least_common_tree logs) set path q.3 p.1)
  one_verdict (CanAdd log path) Merger p q = absurd (not_added log p.0 p.1 p.4 q)
  one_verdict (CanAdd log path) (NotDrawn other) p q = absurd (not_drawn logs set q.0 q.1 p.2)
  one_verdict (CanAdd log path) (DoesNotFit other) p q = absurd (no_misfit (least_common_tree logs) set other p.3 q.1)
  one_verdict (CanAdd log path) (CanAdd other there) p q =
      let same = one_command (net_sets logs) (CanBeAdded (least_common_tree logs) set) log p.0 other q.0 p.1 q.1 p.4 q.4 in
      λ i. CanAdd (same.0 i) ((p.5 ∙ ap (λ c. c.node) same.1 ∙ sym q.5) i)
