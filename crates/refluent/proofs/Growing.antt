-- A set that fits within a larger one that fits can grow, so no merger is a proper subset of a drawn set that fits.
use Rattle.std.proofs.Common.{◌≡◌, true, false, ◌&&◌, List, [], ◌∷◌, Option, Some, None, refl, sym, ap, subst, ◌∙◌, arith, Bool, ◌⊎◌, inl, inr}
use Rattle.std.specs.Prelude.{if◌then◌else◌, is_none}
use Rattle.canon_set.specs.Sets.{canonical}
use Rattle.std.specs.List.{filter}
use Rattle.sync_command.specs.Changes.{Change}
use Rattle.sync_command.specs.Trees.{Holding, put, IsApplicable, Takes, command_at, new_or, after, one_each, Fits}
use Rattle.sync_command.specs.declared.values.Value.{Value}
use Rattle.sync_path.specs.Paths.{Node, same_path}
use Rattle.refluent.specs.Mergers.{IsMerger}
use Rattle.refluent.specs.Sets.{is_in, IsSubset}
use Rattle.refluent.proofs.Sets.{at_from_in, in_from_at, yes_or_no}
use Rattle.canon_set.proofs.CallerLemmas.{command_at-canonical, is_canonical-canonical, one_each-canonical}
use Rattle.sync_command.proofs.CallerLemmas.{here, fits_takes, same_tree, command_at-filter, command_at-node, one_each-filter, passing, same_fits}
use Rattle.sync_path.proofs.CallerLemmas.{same_path_is, same_path_at}

-- each command of the first is one of the second, node by node
abbrev pub IsWithin : List Change → List Change → Type 0
IsWithin cs ds = (p : Node) (c : Change) → command_at cs p ≡ Some c → command_at ds p ≡ Some c

-- what a set has beyond another
abbrev pub beyond : List Change → List Change → List Change
beyond ms ns = filter (λ c. is_none (command_at ms c.node)) ns

beyond_at : (ms ns : List Change) → one_each ns ≡ true → (p : Node) → command_at (beyond ms ns) p ≡ if is_none (command_at ms p) then command_at ns p else None
beyond_at ms ns one p = command_at-filter (λ c. is_none (command_at ms c.node)) ns one p ∙ go (command_at ns p) (command_at-node ns p)
  where
    go : (o : Option Change) → ((d : Change) → o ≡ Some d → p ≡ d.node) → passing (λ c. is_none (command_at ms c.node)) o ≡ (if is_none (command_at ms p) then o else None)
    go None f = elim (is_none (command_at ms p)) as (λ b. ◌≡◌ {A = Option Change} None (if b then None else None)) [ true ↦ refl | false ↦ refl ]
    go (Some d) f = ap (λ q. if is_none (command_at ms q) then Some d else None) (sym (f d refl))

-- what a set that fits has beyond a smaller one that fits, fits the result of the smaller
pub beyond_fits : (t : Holding) (ms ns : List Change) → Fits t ms → Fits t ns → IsWithin ms ns → Fits (after ms t) (beyond ms ns)
beyond_fits t ms ns small large within = record {
  one = one_each-filter _ ns large.one;
  olds = λ p d e. olds_at (command_at ms p) (command_at ns p) (large.olds p) d (sym (beyond_at ms ns large.one p) ∙ e);
  tree = same_tree _ _ (λ p. sym (ap (λ o. new_or o (after ms t p)) (beyond_at ms ns large.one p) ∙ same_at (t p) (command_at ms p) (command_at ns p) (within p))) large.tree;
}
  where
    olds_at : {v : Value} (o r : Option Change) → ((d : Change) → r ≡ Some d → v ≡ d.old) → (d : Change) → (if is_none o then r else None) ≡ Some d → new_or o v ≡ d.old
    olds_at None r olds d e = olds d e
    olds_at (Some c) r olds d e = cc

    same_at : (v : Value) (o r : Option Change) → ((c : Change) → o ≡ Some c → r ≡ Some c) → new_or (if is_none o then r else None) (new_or o v) ≡ new_or r v
    same_at v None r within = refl
    same_at v (Some c) r within = ap (λ s. new_or s v) (sym (within c refl))

-- a command that a tree's result can take can be added to the set
pub add_fits : (t : Holding) (ms : List Change) (c : Change) → Fits t ms → command_at ms c.node ≡ None → IsApplicable (after ms t) c → Fits t (c ∷ ms)
add_fits t ms c fits none can = record {
  one = ap (λ o. is_none o && one_each ms) none ∙ fits.one;
  olds = λ p d e. olds_at p d (fits.olds p d) can.old e;
  tree = same_tree _ _ (λ p. same_at p) can.tree;
}
  where
    olds_at : (p : Node) (d : Change) → (command_at ms p ≡ Some d → t p ≡ d.old) → after ms t c.node ≡ c.old → command_at (c ∷ ms) p ≡ Some d → t p ≡ d.old
    olds_at p d olds old e = grind (arith, same_path_is, same_path_at, none)

    same_at : (p : Node) → put (after ms t) c.node c.new p ≡ after (c ∷ ms) t p
    same_at p = elim (same_path p c.node) as (λ b. (if b then c.new else after ms t p) ≡ new_or (if b then Some c else command_at ms p) (t p)) [ true ↦ refl | false ↦ refl ]

-- Of two sets that fit, one within the other and not equal, some command of the larger can be added to the smaller.
pub can_grow : (t : Holding) (ms ns : List Change) → Fits t ms → Fits t ns → IsWithin ms ns → (p : Node) (d : Change) → command_at ns p ≡ Some d → command_at ms p ≡ None →
    (c : Change) × (command_at ns c.node ≡ Some c) × (command_at ms c.node ≡ None) × Fits t (c ∷ ms)
can_grow t ms ns small large within p d there missing = go (canonical (beyond ms ns)) refl
  where
    rest : Fits (after ms t) (beyond ms ns)
    rest = beyond_fits t ms ns small large within

    at : (q : Node) → command_at (canonical (beyond ms ns)) q ≡ (if is_none (command_at ms q) then command_at ns q else None)
    at q = command_at-canonical (beyond ms ns) rest.one q ∙ beyond_at ms ns large.one q

    taken : Takes (after ms t) (canonical (beyond ms ns))
    taken = fits_takes (after ms t) (canonical (beyond ms ns)) small.tree (is_canonical-canonical _ rest.one)
        (same_fits (after ms t) (beyond ms ns) (canonical (beyond ms ns)) (one_each-canonical _ rest.one) (λ q. sym (command_at-canonical _ rest.one q)) rest)

    go : (cs : List Change) → canonical (beyond ms ns) ≡ cs → (c : Change) × (command_at ns c.node ≡ Some c) × (command_at ms c.node ≡ None) × Fits t (c ∷ ms)
    go [] e = absurd (empty_at (command_at ms p) (command_at ns p) missing there (sym (at p) ∙ ap (λ l. command_at l p) e))
      where
        empty_at : (o r : Option Change) → o ≡ None → r ≡ Some d → (if is_none o then r else None) ≡ None → ⊥
        empty_at o r none some e = grind arith
    go (c ∷ cs) e = (c, found.0, found.1, add_fits t ms c small found.1 (subst (Takes (after ms t)) e taken).0)
      where
        found_at : (o r : Option Change) → (if is_none o then r else None) ≡ Some c → (r ≡ Some c) × (o ≡ None)
        found_at None r e = (e, refl)
        found_at (Some x) r e = cc

        found : (command_at ns c.node ≡ Some c) × (command_at ms c.node ≡ None)
        found = found_at _ _ (sym (at c.node) ∙ ap (λ l. command_at l c.node) e ∙ here c cs)

within_from_part : (ms ns : List Change) → one_each ns ≡ true → IsSubset ms ns → IsWithin ms ns
within_from_part ms ns one part p c e = subst (λ q. command_at ns q ≡ Some c) (sym (command_at-node ms p c e)) (at_from_in ns one c (part c (in_from_at ms p c e)))

-- Of two sets that fit, one a proper subset of the other, some command of the larger can be added to the smaller.
pub grow_law : (t : Holding) (ms ns : List Change) → Fits t ms → Fits t ns → IsSubset ms ns → (d : Change) → is_in ns d ≡ true → is_in ms d ≡ false →
    (c : Change) × (is_in ns c ≡ true) × (is_in ms c ≡ false) × Fits t (c ∷ ms)
grow_law t ms ns small large part d there missing =
    let grown = can_grow t ms ns small large within d.node d at (none_at (command_at ms d.node) refl) in
    (grown.0, in_from_at ns grown.0.node grown.0 grown.1, outside grown.0 grown.2 (is_in ms grown.0) refl, grown.3)
  where
    within : IsWithin ms ns
    within = within_from_part ms ns large.one part

    at : command_at ns d.node ≡ Some d
    at = at_from_in ns large.one d there

    none_at : (o : Option Change) → command_at ms d.node ≡ o → o ≡ None
    none_at None e = refl
    none_at (Some x) e =
        let same : x ≡ d = some_is (sym (within d.node x e) ∙ at) in
        let held : is_in ms x ≡ true = in_from_at ms d.node x e in
        let gone : is_in ms x ≡ false = ap (is_in ms) same ∙ missing in cc (held, gone)
      where
        some_is : Some x ≡ Some d → x ≡ d
        some_is e = cc

    outside : (x : Change) → command_at ms x.node ≡ None → (b : Bool) → is_in ms x ≡ b → b ≡ false
    outside x e false h = refl
    outside x e true h = let at : command_at ms x.node ≡ Some x = at_from_in ms small.one x h in cc (at, e)

-- no merger is a proper part of a drawn set that fits
pub merger_whole : (t : Holding) (drawn ms ss : List Change) → IsMerger t drawn ms → IsSubset ss drawn → Fits t ss → IsSubset ms ss → IsSubset ss ms
merger_whole t drawn ms ss merger part fits has c there = go (yes_or_no (is_in ms c))
  where
    go : (is_in ms c ≡ true) ⊎ (is_in ms c ≡ false) → is_in ms c ≡ true
    go (inl h) = h
    go (inr missing) =
        let grown = grow_law t ms ss merger.fits fits has c there missing in
        absurd (merger.maximal grown.0 (part grown.0 grown.1) grown.2 grown.3)
