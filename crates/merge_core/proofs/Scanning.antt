-- The scan of a ranking gives the first merger.
use Rattle.std.proofs.Common.{◌≡◌, true, false, ◌||◌, List, [], ◌∷◌, Option, Some, None, refl, sym, ap, subst, arith, ◌⊎◌, inl, inr}
use Rattle.sync_command.proofs.CallerLemmas.{same_tree, command_at-node}
use Rattle.refluent.proofs.CallerLemmas.{at_from_in, fewer, in_from_at, more, same_change_is, same_change_refl}
use Rattle.std.proofs.lemmas.Bool.{cases_Bool}
use Rattle.merge_core.specs.FirstMergers.{is_preferred, IsFirstMerger, IsExtendable}
use Rattle.refluent.specs.Sets.{is_in, IsSubset}
use Rattle.sync_command.specs.Changes.{Change, same_change}
use Rattle.sync_command.specs.Trees.{Holding, command_at, new_or, one_each, Fits}
use Rattle.sync_path.specs.Paths.{Node}

-- The scan of a ranking from what was taken so far: a command is taken where some drawn set that fits has it with all taken so far, and passed over where none has.
abbrev pub IsScan : Holding → List Change → List Change → List Change → List Change → Type 0
IsScan t drawn [] taken ms = taken ≡ ms
IsScan t drawn (c ∷ cs) taken ms = (IsExtendable t drawn (c ∷ taken) × IsScan t drawn cs (c ∷ taken) ms) ⊎ ((IsExtendable t drawn (c ∷ taken) → ⊥) × IsScan t drawn cs taken ms)

-- what was taken stays
stays : (t : Holding) (drawn cs taken ms : List Change) → IsScan t drawn cs taken ms → IsSubset taken ms
stays t drawn [] taken ms scan x e = subst (λ l. is_in l x ≡ true) scan e
stays t drawn (c ∷ cs) taken ms (inl (ext, scan)) x e = (fewer c taken ms (stays t drawn cs (c ∷ taken) ms scan)).1 x e
stays t drawn (c ∷ cs) taken ms (inr (none, scan)) x e = stays t drawn cs taken ms scan x e

-- some drawn set that fits has all that is taken in the end
ends_well : (t : Holding) (drawn cs taken ms : List Change) → IsExtendable t drawn taken → IsScan t drawn cs taken ms → IsExtendable t drawn ms
ends_well t drawn [] taken ms ext scan = subst (IsExtendable t drawn) scan ext
ends_well t drawn (c ∷ cs) taken ms ext (inl (more', scan)) = ends_well t drawn cs (c ∷ taken) ms more' scan
ends_well t drawn (c ∷ cs) taken ms ext (inr (none, scan)) = ends_well t drawn cs taken ms ext scan

-- a ranked command is taken in the end, or no drawn set that fits has it with all that is taken
decides : (t : Holding) (drawn cs taken ms : List Change) → IsScan t drawn cs taken ms → (c : Change) → is_in cs c ≡ true →
    (is_in ms c ≡ true) ⊎ ((ss : List Change) → IsSubset ss drawn → Fits t ss → IsSubset ms ss → is_in ss c ≡ true → ⊥)
decides t drawn [] taken ms scan c e = cc
decides t drawn (d ∷ cs) taken ms scan c e = split (λ tk sc h. decides t drawn cs tk ms sc c h) (cases_Bool (same_change c d)) scan
  where
    rest : same_change c d ≡ false → is_in cs c ≡ true
    rest apart = grind (arith, e)

    split : ((tk : List Change) → IsScan t drawn cs tk ms → is_in cs c ≡ true → (is_in ms c ≡ true) ⊎ ((ss : List Change) → IsSubset ss drawn → Fits t ss → IsSubset ms ss → is_in ss c ≡ true → ⊥)) → (same_change c d ≡ true) ⊎ (same_change c d ≡ false) → IsScan t drawn (d ∷ cs) taken ms → (is_in ms c ≡ true) ⊎ ((ss : List Change) → IsSubset ss drawn → Fits t ss → IsSubset ms ss → is_in ss c ≡ true → ⊥)
    split ih (inl same) (inl (ext, scan)) = inl (subst (λ x. is_in ms x ≡ true) (sym (same_change_is c d same)) (fewer d taken ms (stays t drawn cs (d ∷ taken) ms scan)).0)
    split ih (inl same) (inr (none, scan)) = inr (λ ss part fits has there. none (record {
      whole = ss;
      within = part;
      fits = fits;
      has = more d taken ss (subst (λ x. is_in ss x ≡ true) (same_change_is c d same) there) (λ x e. has x (stays t drawn cs taken ms scan x e));
    }))
    split ih (inr apart) (inl (ext, scan)) = ih (d ∷ taken) scan (rest apart)
    split ih (inr apart) (inr (none, scan)) = ih taken scan (rest apart)

-- a set that fits and has all that was taken so far is not preferred to the scan's set on what is left
none_preferred : (t : Holding) (drawn cs taken ms : List Change) → IsExtendable t drawn ms → IsScan t drawn cs taken ms → (ss : List Change) → IsSubset ss drawn → Fits t ss → IsSubset taken ss → is_preferred cs ms ss ≡ true
none_preferred t drawn [] taken ms ext scan ss part fits has = refl
none_preferred t drawn (c ∷ cs) taken ms ext (inl (ext', scan)) ss part fits has = go (λ h. none_preferred t drawn cs (c ∷ taken) ms ext scan ss part fits h) (cases_Bool (is_in ss c))
  where
    there : is_in ms c ≡ true
    there = (fewer c taken ms (stays t drawn cs (c ∷ taken) ms scan)).0

    go : (IsSubset (c ∷ taken) ss → is_preferred cs ms ss ≡ true) → (is_in ss c ≡ true) ⊎ (is_in ss c ≡ false) → is_preferred (c ∷ cs) ms ss ≡ true
    go ih (inl in_ss) = let rest : is_preferred cs ms ss ≡ true = ih (more c taken ss in_ss has) in simp (there, in_ss) rest
    go ih (inr not_ss) = simp (there, not_ss)
none_preferred t drawn (c ∷ cs) taken ms ext (inr (none, scan)) ss part fits has = go (none_preferred t drawn cs taken ms ext scan ss part fits has) (cases_Bool (is_in ss c)) (cases_Bool (is_in ms c))
  where
    go : is_preferred cs ms ss ≡ true → (is_in ss c ≡ true) ⊎ (is_in ss c ≡ false) → (is_in ms c ≡ true) ⊎ (is_in ms c ≡ false) → is_preferred (c ∷ cs) ms ss ≡ true
    go rest (inl in_ss) m = absurd (none (record { whole = ss; within = part; fits = fits; has = more c taken ss in_ss has }))
    go rest (inr not_ss) (inl in_ms) = absurd (none (record { whole = ext.whole; within = ext.within; fits = ext.fits; has = more c taken ext.whole (ext.has c in_ms) (λ x e. ext.has x (stays t drawn cs taken ms scan x e)) }))
    go rest (inr not_ss) (inr not_ms) = simp (not_ss, not_ms) rest

-- a set with the commands of one that fits, each once
part_fits : (t : Holding) (ms ss : List Change) → one_each ms ≡ true → IsSubset ms ss → IsSubset ss ms → Fits t ss → Fits t ms
part_fits t ms ss one to from fits = record {
  one = one;
  olds = λ n c e. fits.olds n c (at_ss n c e);
  tree = same_tree _ _ (λ p. ap (λ o. new_or o (t p)) (same (command_at ss p) (command_at ms p) (at_ms p) (at_ss p))) fits.tree;
}
  where
    at_ss : (p : Node) (c : Change) → command_at ms p ≡ Some c → command_at ss p ≡ Some c
    at_ss p c e = subst (λ q. command_at ss q ≡ Some c) (sym (command_at-node ms p c e)) (at_from_in ss fits.one c (to c (in_from_at ms p c e)))

    at_ms : (p : Node) (c : Change) → command_at ss p ≡ Some c → command_at ms p ≡ Some c
    at_ms p c e = subst (λ q. command_at ms q ≡ Some c) (sym (command_at-node ss p c e)) (at_from_in ms one c (from c (in_from_at ss p c e)))

    same : (o r : Option Change) → ((c : Change) → o ≡ Some c → r ≡ Some c) → ((c : Change) → r ≡ Some c → o ≡ Some c) → o ≡ r
    same None None f g = refl
    same None (Some c) f g = g c refl
    same (Some c) r f g = sym (f c refl)

-- The scan's set is the first merger.
pub scan_first : (t : Holding) (drawn ranking ms : List Change) → IsSubset drawn ranking → IsExtendable t drawn [] → one_each ms ≡ true → IsScan t drawn ranking [] ms → IsFirstMerger t drawn ranking ms
scan_first t drawn ranking ms ranked start one scan = record {
  merger = record { within = λ c e. ext.within c (ext.has c e); fits = part_fits t ms ext.whole one ext.has back ext.fits; maximal = full };
  first = λ ss merger. none_preferred t drawn ranking [] ms ext scan ss merger.within merger.fits (λ c e. cc (e));
}
  where
    ext : IsExtendable t drawn ms
    ext = ends_well t drawn ranking [] ms start scan

    either : (c : Change) → is_in drawn c ≡ true → (is_in ms c ≡ true) ⊎ ((ss : List Change) → IsSubset ss drawn → Fits t ss → IsSubset ms ss → is_in ss c ≡ true → ⊥)
    either c e = decides t drawn ranking [] ms scan c (ranked c e)

    back : IsSubset ext.whole ms
    back c e = elim (either c (ext.within c e)) [ inl h ↦ h | inr none ↦ absurd (none ext.whole ext.within ext.fits ext.has e) ]

    has_head : (c : Change) → is_in (c ∷ ms) c ≡ true
    has_head c = ap (λ b. b || is_in ms c) (same_change_refl c)

    wider : (c : Change) → IsSubset ms (c ∷ ms)
    wider c x e = grind (arith, e)

    full : (c : Change) → is_in drawn c ≡ true → is_in ms c ≡ false → Fits t (c ∷ ms) → ⊥
    full c there missing fits = elim (either c there) [
      | inl h ↦ cc (h, missing)
      | inr none ↦ none (c ∷ ms) (more c ms drawn there (λ x e. ext.within x (ext.has x e))) fits (wider c) (has_head c)
    ]
