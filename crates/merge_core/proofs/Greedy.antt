-- The scan by the conflict test gives the first merger.
use Rattle.std.proofs.Common.{◌≡◌, Bool, true, false, not, ◌&&◌, ◌||◌, List, [], ◌∷◌, Option, Some, None, refl, sym, ap, subst, ◌∙◌, arith, ◌⊎◌, inl, inr}
use Rattle.std.specs.Prelude.{if◌then◌else◌, is_none}
use Rattle.std.specs.List.{list_any}
use Rattle.sync_path.proofs.CallerLemmas.{both, same_path_is, same_path_at, under_split, under_parent, under_down, HasParentUnder}
use Rattle.sync_command.proofs.CallerLemmas.{command_at-node}
use Rattle.refluent.proofs.CallerLemmas.{IsDrawn, fits_prerequisites, at_from_in, fewer, in_from_at, same_change_is, same_change_refl}
use Rattle.std.proofs.lemmas.Bool.{cases_Bool}
use Rattle.merge_core.specs.Conflicts.{conflicts, greedy_scan}
use Rattle.merge_core.specs.FirstMergers.{IsExtendable, IsFirstMerger}
use Rattle.refluent.specs.Sets.{is_in, IsSubset, all_differ}
use Rattle.sync_command.specs.Changes.{Change, same_change}
use Rattle.sync_command.specs.Trees.{Holding, IsTree, command_at, one_each}
use Rattle.sync_command.specs.Values.{is_empty, is_dir}
use Rattle.sync_path.specs.Paths.{Node, same_path, parent, is_under}
use Rattle.merge_core.proofs.Exactness.{barred_by, blocks, blocks_exactly, needed_by}
use Rattle.merge_core.proofs.Scanning.{IsScan, scan_first}
use Rattle.merge_core.proofs.Spreading.{barred_above, find_at, found_some, settled_extends}
use Rattle.merge_core.proofs.Turning.{barred_first, barred_with, is_other, needed_with, settled_first}

-- whether a path is or is under another, by its parent
abbrev at_or_under : Option Node → Node → Bool
at_or_under None r = false
at_or_under (Some q) r = same_path q r || is_under q r

under_by_parent : (n r : Node) → is_under n r ≡ at_or_under (parent n) r
under_by_parent n r = go (is_under n r) (λ h. h) (λ h. h) (parent n) refl
  where
    some_is : {x y : Node} → Some x ≡ Some y → x ≡ y
    some_is e = cc

    below : (q : Node) → parent n ≡ Some q → (same_path q r || is_under q r) ≡ true → is_under n r ≡ true
    below q e h = split (same_path q r) (same_path_is q r) h
      where
        split : (b : Bool) → (b ≡ true → q ≡ r) → (b || is_under q r) ≡ true → is_under n r ≡ true
        split true f h = subst (λ p. is_under n p ≡ true) (f refl) (under_parent q n e)
        split false f h = under_down n q r e h

    go : (b : Bool) → (is_under n r ≡ true → is_under n r ≡ true) → (is_under n r ≡ true → is_under n r ≡ true) → (o : Option Node) → parent n ≡ o → is_under n r ≡ at_or_under o r
    go b f g o e = split_at (cases_Bool (is_under n r)) o e
      where
        way : (q : Node) → parent n ≡ Some q → is_under n r ≡ true → (same_path q r || is_under q r) ≡ true
        way q e u = let w : HasParentUnder n r = under_split n r u in split w (some_is (sym w.is ∙ e))
          where
            split : (w : HasParentUnder n r) → w.up ≡ q → (same_path q r || is_under q r) ≡ true
            split w is = into w.way
              where
                into : (w.up ≡ r) ⊎ (is_under w.up r ≡ true) → (same_path q r || is_under q r) ≡ true
                into (inl x) = ap (λ b. b || is_under q r) (same_path_at q r (sym is ∙ x))
                into (inr x) = right _ _ (ap (λ p. is_under p r) (sym is) ∙ x)
                  where
                    right : (a b : Bool) → b ≡ true → (a || b) ≡ true
                    right a b e = grind arith

        split_at : (is_under n r ≡ true) ⊎ (is_under n r ≡ false) → (o : Option Node) → parent n ≡ o → is_under n r ≡ at_or_under o r
        split_at (inl u) None e = let w : HasParentUnder n r = under_split n r u in let x : Some w.up ≡ None = sym w.is ∙ e in cc (x)
        split_at (inl u) (Some q) e = u ∙ sym (way q e u)
        split_at (inr u) None e = u
        split_at (inr u) (Some q) e = u ∙ sym (none_so (same_path q r || is_under q r) (below q e))
          where
            none_so : (b : Bool) → (b ≡ true → is_under n r ≡ true) → b ≡ false
            none_so false f = refl
            none_so true f = let x : is_under n r ≡ true = f refl in cc (x, u)

algebra : (s k o m u f g nd nc v b l : Bool) → (o || ((m && nd) || (b && f))) ≡ l → (s ≡ true → o ≡ false) →
    ((if s then k else o) || (((m || (g && u)) && nd) || ((b || (nc && v)) && f))) ≡ (((s && k) || ((nd && (u && g)) || (nc && (v && f)))) || l)
algebra s k o m u f g nd nc v b l e h = go s h
  where
    two : (x y z w p q : Bool) → (x || (y || z)) ≡ l → (w || ((y || p) || (z || q))) ≡ ((w || (p || q)) || (y || z))
    two x y z w p q e = grind arith

    flip : (m g u nd : Bool) → ((m || (g && u)) && nd) ≡ ((m && nd) || (nd && (u && g)))
    flip m g u nd = grind arith

    turn : (b nc v f : Bool) → ((b || (nc && v)) && f) ≡ ((b && f) || (nc && (v && f)))
    turn b nc v f = grind arith

    fin : (w y z p q : Bool) → (w || ((y || p) || (z || q))) ≡ ((w || (p || q)) || (y || z))
    fin w y z p q = grind arith

    fin' : (o y z p q : Bool) → (o || ((y || p) || (z || q))) ≡ ((p || q) || (o || (y || z)))
    fin' o y z p q = grind arith

    both_sides : (w : Bool) → (w || (((m || (g && u)) && nd) || ((b || (nc && v)) && f))) ≡ (w || (((m && nd) || (nd && (u && g))) || ((b && f) || (nc && (v && f)))))
    both_sides w = ap (λ x. w || (x || ((b || (nc && v)) && f))) (flip m g u nd) ∙ ap (λ x. w || (((m && nd) || (nd && (u && g))) || x)) (turn b nc v f)

    go : (s : Bool) → (s ≡ true → o ≡ false) → ((if s then k else o) || (((m || (g && u)) && nd) || ((b || (nc && v)) && f))) ≡ (((s && k) || ((nd && (u && g)) || (nc && (v && f)))) || l)
    go true h = both_sides k ∙ fin k (m && nd) (b && f) (nd && (u && g)) (nc && (v && f)) ∙ ap (λ x. (k || ((nd && (u && g)) || (nc && (v && f)))) || x) (ap (λ x. x || ((m && nd) || (b && f))) (sym (h refl)) ∙ e)
    go false h = both_sides o ∙ fin' o (m && nd) (b && f) (nd && (u && g)) (nc && (v && f)) ∙ ap (λ x. ((nd && (u && g)) || (nc && (v && f))) || x) e

other_if : (s : Bool) (c : Change) (o : Option Change) (d : Change) → is_other (if s then Some c else o) d ≡ if s then not (same_change c d) else is_other o d
other_if true c o d = refl
other_if false c o d = refl

up_next : (c : Change) (barred : Node → Bool) (o : Option Node) → barred_above (barred_with c barred) o ≡ (barred_above barred o || (not (is_dir c.new) && at_or_under o c.node))
up_next c barred None = go (not (is_dir c.new))
  where
    go : (b : Bool) → false ≡ (b && false)
    go true = refl
    go false = refl
up_next c barred (Some q) = refl

module _ (t : Holding) (drawn : List Change) (tree : IsTree t) (known : (c : Change) → is_in drawn c ≡ true → IsDrawn t drawn c) where
  -- at the start nothing drawn is blocked
  never_first : (q : Node) (d : Change) → is_in drawn d ≡ true → parent d.node ≡ Some q → (barred_first t drawn q && not (is_empty d.new)) ≡ false
  never_first q d there e = go (cases_Bool (is_dir (t q))) (cases_Bool (is_empty d.new)) (cases_Bool (is_empty (t d.node))) (find_at is_dir drawn q) refl
    where
      k : IsDrawn t drawn d
      k = known d there

      at : command_at k.set d.node ≡ Some d
      at = at_from_in k.set k.fits.one d k.there

      T : Bool → Type 0
      T b = (b ≡ true) ⊎ (b ≡ false)

      Goal : Option Change → Type 0
      Goal o = ((not (is_dir (t q)) && is_none o) && not (is_empty d.new)) ≡ false

      no_more : (a b : Bool) → (b ≡ true) → ((a && false) && not b) ≡ false
      no_more a b e = grind arith

      go : T (is_dir (t q)) → T (is_empty d.new) → T (is_empty (t d.node)) → (o : Option Change) → find_at is_dir drawn q ≡ o → Goal o
      go (inl dir) y z o f = ap (λ b. (not b && is_none o) && not (is_empty d.new)) dir
      go (inr x) (inl bare) z o f = ap (λ b. (not (is_dir (t q)) && is_none o) && not b) bare ∙ last (not (is_dir (t q)) && is_none o)
        where
          last : (b : Bool) → (b && false) ≡ false
          last true = refl
          last false = refl
      go (inr x) (inr full) (inr held) o f = let dir : is_dir (t q) ≡ true = tree q d.node e held in cc (dir, x)
      go (inr x) (inr full) (inl bare) (Some c) f = last (not (is_dir (t q))) (not (is_empty d.new))
        where
          last : (a b : Bool) → ((a && false) && b) ≡ false
          last true b = refl
          last false b = refl
      go (inr x) (inr full) (inl bare) None f =
          let m = (fits_prerequisites t k.set tree k.fits).makes q d.node d e at (ap is_empty (sym (k.fits.olds d.node d at)) ∙ bare) full x in
          absurd (found_some is_dir drawn m.0 (k.part m.0 (in_from_at k.set q m.0 m.1)) m.2 (ap (find_at is_dir drawn) (sym (command_at-node k.set q m.0 m.1)) ∙ f))

  -- What is blocked beside what is taken is what is in conflict with one of them.
  pub blocks_is : (d : Change) → is_in drawn d ≡ true → (taken : List Change) → one_each taken ≡ true → blocks t drawn taken d ≡ list_any (conflicts d) taken
  blocks_is d there [] one = go (parent d.node) refl
    where
      go : (o : Option Node) → parent d.node ≡ o → (barred_above (barred_first t drawn) o && not (is_empty d.new)) ≡ false
      go None e = refl
      go (Some q) e = never_first q d there e
  blocks_is d there (c ∷ taken) one =
      ap (λ x. x || ((needed_with c (needed_by taken) d.node && not (is_dir d.new)) || (barred_above (barred_with c (barred_by t drawn taken)) (parent d.node) && not (is_empty d.new)))) (other_if (same_path d.node c.node) c (command_at taken d.node) d)
      ∙ ap (λ x. (if same_path d.node c.node then not (same_change c d) else is_other (command_at taken d.node) d) || ((needed_with c (needed_by taken) d.node && not (is_dir d.new)) || (x && not (is_empty d.new))))
      (up_next c (barred_by t drawn taken) (parent d.node) ∙ ap (λ b. barred_above (barred_by t drawn taken) (parent d.node) || (not (is_dir c.new) && b)) (sym (under_by_parent d.node c.node)))
      ∙ algebra (same_path d.node c.node) (not (same_change c d)) (is_other (command_at taken d.node) d) (needed_by taken d.node) (is_under c.node d.node) (not (is_empty d.new)) (not (is_empty c.new))
      (not (is_dir d.new)) (not (is_dir c.new)) (is_under d.node c.node) (barred_above (barred_by t drawn taken) (parent d.node)) (list_any (conflicts d) taken)
      (blocks_is d there taken parts.1) lone
    where
      parts : (is_none (command_at taken c.node) ≡ true) × (one_each taken ≡ true)
      parts = both (is_none (command_at taken c.node)) (one_each taken) one

      other_none : (o : Option Change) → is_none o ≡ true → is_other o d ≡ false
      other_none None e = refl
      other_none (Some x) e = cc (e)

      lone : same_path d.node c.node ≡ true → is_other (command_at taken d.node) d ≡ false
      lone s = other_none _ (ap (λ q. is_none (command_at taken q)) (same_path_is d.node c.node s) ∙ parts.0)

  falls : (a b d : Bool) → (a || (b || d)) ≡ false → a ≡ false
  falls a b d e = grind arith

  -- a command that is not blocked and not taken has a node that nothing taken names
  free_node : (c : Change) (taken : List Change) → blocks t drawn taken c ≡ false → (is_in taken c ≡ true → ⊥) → command_at taken c.node ≡ None
  free_node c taken e new = go (command_at taken c.node) refl (falls (is_other (command_at taken c.node) c) (needed_by taken c.node && not (is_dir c.new)) (barred_above (barred_by t drawn taken) (parent c.node) && not (is_empty c.new)) e)
    where
      not_false : (b : Bool) → not b ≡ false → b ≡ true
      not_false true e = refl
      not_false false e = cc (e)

      go : (o : Option Change) → command_at taken c.node ≡ o → is_other (command_at taken c.node) c ≡ false → command_at taken c.node ≡ None
      go None f x = f
      go (Some d) f x = let is : d ≡ c = same_change_is d c (not_false _ (ap (λ o. is_other o c) (sym f) ∙ x)) in absurd (new (in_from_at taken c.node c (f ∙ ap Some is)))

  pub greedy_scans : (cs taken : List Change) → one_each taken ≡ true → IsExtendable t drawn taken → all_differ cs ≡ true → IsSubset cs drawn →
      ((x : Change) → is_in taken x ≡ true → is_in cs x ≡ true → ⊥) → IsScan t drawn cs taken (greedy_scan cs taken) × (one_each (greedy_scan cs taken) ≡ true)
  greedy_scans [] taken one ext differ part new = (refl, one)
  greedy_scans (c ∷ cs) taken one ext differ part new =
      go (list_any (conflicts c) taken) (blocks_is c there taken one)
      (greedy_scans cs taken one ext parts.1 (fewer c cs drawn part).1 (λ x i j. new x i (later x j)))
      (λ one' ext'. greedy_scans cs (c ∷ taken) one' ext' parts.1 (fewer c cs drawn part).1 fresh)
    where
      there : is_in drawn c ≡ true
      there = (fewer c cs drawn part).0

      parts : (not (is_in cs c) ≡ true) × (all_differ cs ≡ true)
      parts = both (not (is_in cs c)) (all_differ cs) differ

      later : (x : Change) → is_in cs x ≡ true → is_in (c ∷ cs) x ≡ true
      later x j = grind (arith, j)

      own : is_in (c ∷ cs) c ≡ true
      own = ap (λ b. b || is_in cs c) (same_change_refl c)

      fresh : (x : Change) → is_in (c ∷ taken) x ≡ true → is_in cs x ≡ true → ⊥
      fresh x i j = split (same_change x c) (same_change_is x c) i
        where
          split : (b : Bool) → (b ≡ true → x ≡ c) → (b || is_in taken x) ≡ true → ⊥
          split true f i = let a : is_in cs c ≡ true = subst (λ y. is_in cs y ≡ true) (f refl) j in let b : not (is_in cs c) ≡ true = parts.0 in let d : not true ≡ true = ap not (sym a) ∙ b in cc (d)
          split false f i = new x i (later x j)

      exact : (blocks t drawn taken c ≡ true → IsExtendable t drawn (c ∷ taken) → ⊥) × (blocks t drawn taken c ≡ false → IsExtendable t drawn (c ∷ taken))
      exact = blocks_exactly t drawn taken tree known one ext c there

      go : (b : Bool) → blocks t drawn taken c ≡ b → (IsScan t drawn cs taken (greedy_scan cs taken) × (one_each (greedy_scan cs taken) ≡ true)) →
          (one_each (c ∷ taken) ≡ true → IsExtendable t drawn (c ∷ taken) → IsScan t drawn cs (c ∷ taken) (greedy_scan cs (c ∷ taken)) × (one_each (greedy_scan cs (c ∷ taken)) ≡ true)) →
          IsScan t drawn (c ∷ cs) taken (if b then greedy_scan cs taken else greedy_scan cs (c ∷ taken)) × (one_each (if b then greedy_scan cs taken else greedy_scan cs (c ∷ taken)) ≡ true)
      go true e stay next = (inr (exact.0 e, stay.0), stay.1)
      go false e stay next =
          let done = next (ap (λ o. is_none o && one_each taken) (free_node c taken e (λ i. new c i own)) ∙ one) (exact.1 e) in
          (inl (exact.1 e, done.0), done.1)

  -- The first merger takes each ranked command that is in no conflict with those taken before.
  pub greedy_first : (ranking : List Change) → IsSubset ranking drawn → IsSubset drawn ranking → all_differ ranking ≡ true → IsFirstMerger t drawn ranking (greedy_scan ranking [])
  greedy_first ranking part ranked differ =
      let start : IsExtendable t drawn [] = settled_extends t drawn [] (λ n. false) (barred_first t drawn) tree known (settled_first t drawn tree known) in
      let done = greedy_scans ranking [] refl start differ part (λ x i j. cc (i)) in
      scan_first t drawn ranking (greedy_scan ranking []) ranked start done.1 done.0
