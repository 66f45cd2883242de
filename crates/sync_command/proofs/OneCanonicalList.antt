-- Two canonical lists of the same commands are equal.
use Rattle.std.proofs.Common.{◌≡◌, Bool, true, false, List, [], ◌∷◌, Option, Some, None, refl, sym, ap, ◌∙◌, arith, ◌⊎◌, inl, inr}
use Rattle.std.specs.Prelude.{if◌then◌else◌, is_none}
use Rattle.std.specs.List.{list_all}
use Rattle.sync_path.specs.Paths.{Node, comes_before, same_path}
use Rattle.sync_path.proofs.CallerLemmas.{before_asym, both, same_path_is}
use Rattle.sync_command.specs.Changes.{Change, goes_before, is_canonical, is_down}
use Rattle.sync_command.specs.Trees.{command_at, one_each}
use Rattle.sync_command.proofs.SetLemmas.{here, list_all-at}

goes_before_asym : (c d : Change) → goes_before c d ≡ true → goes_before d c ≡ true → ⊥
goes_before_asym c d h g = go (is_down c) (is_down d) (before_asym c.node d.node) (before_asym d.node c.node) h g
  where
    go : (x y : Bool) → (comes_before c.node d.node ≡ true → comes_before d.node c.node ≡ false) → (comes_before d.node c.node ≡ true → comes_before c.node d.node ≡ false) →
        (if x then (if y then comes_before d.node c.node else true) else (if y then false else comes_before c.node d.node)) ≡ true →
        (if y then (if x then comes_before c.node d.node else true) else (if x then false else comes_before d.node c.node)) ≡ true → ⊥
    go x y a b h g = grind arith

first_goes : (c : Change) (cs : List Change) → list_all (goes_before c) cs ≡ true → (d : Change) (p : Node) → command_at (c ∷ cs) p ≡ Some d → (c ≡ d) ⊎ (goes_before c d ≡ true)
first_goes c cs all d p e = go (same_path p c.node) e
  where
    some_is : Some c ≡ Some d → c ≡ d
    some_is e = cc

    go : (b : Bool) → (if b then Some c else command_at cs p) ≡ Some d → (c ≡ d) ⊎ (goes_before c d ≡ true)
    go true e = inl (some_is e)
    go false e = inr (list_all-at (goes_before c) cs all p d e)

-- Two canonical lists of the same commands are equal.
pub canonical_unique : (cs ds : List Change) → is_canonical cs ≡ true → is_canonical ds ≡ true → one_each cs ≡ true → one_each ds ≡ true → ((p : Node) → command_at cs p ≡ command_at ds p) → cs ≡ ds
canonical_unique [] [] oc od uc ud same = refl
canonical_unique [] (d ∷ ds) oc od uc ud same = let e : None ≡ Some d = same d.node ∙ here d ds in cc (e)
canonical_unique (c ∷ cs) [] oc od uc ud same = let e : None ≡ Some c = sym (same c.node) ∙ here c cs in cc (e)
canonical_unique (c ∷ cs) (d ∷ ds) oc od uc ud same =
    let pc = both (list_all (goes_before c) cs) (is_canonical cs) oc in
    let pd = both (list_all (goes_before d) ds) (is_canonical ds) od in
    let qc = both (is_none (command_at cs c.node)) (one_each cs) uc in
    let qd = both (is_none (command_at ds d.node)) (one_each ds) ud in
    let is : c ≡ d = heads (first_goes c cs pc.0 d d.node (same d.node ∙ here d ds)) (first_goes d ds pd.0 c c.node (sym (same c.node) ∙ here c cs)) in
    λ i. is i ∷ canonical_unique cs ds pc.1 pd.1 qc.1 qd.1 (λ p. tails p is qc.0 qd.0 (same p)) i
  where
    heads : (c ≡ d) ⊎ (goes_before c d ≡ true) → (d ≡ c) ⊎ (goes_before d c ≡ true) → c ≡ d
    heads (inl e) y = e
    heads (inr x) (inl e) = sym e
    heads (inr x) (inr y) = absurd (goes_before_asym c d x y)

    tails : (p : Node) → c ≡ d → is_none (command_at cs c.node) ≡ true → is_none (command_at ds d.node) ≡ true → command_at (c ∷ cs) p ≡ command_at (d ∷ ds) p → command_at cs p ≡ command_at ds p
    tails p is nc nd e = go (same_path p c.node) refl (same_path p d.node) refl e
      where
        none_is : (o : Option Change) → is_none o ≡ true → o ≡ None
        none_is None e = refl
        none_is (Some d) e = cc (e)

        flip : same_path p c.node ≡ same_path p d.node
        flip = ap (λ x. same_path p x.node) is

        go : (a : Bool) → same_path p c.node ≡ a → (b : Bool) → same_path p d.node ≡ b → (if a then Some c else command_at cs p) ≡ (if b then Some d else command_at ds p) → command_at cs p ≡ command_at ds p
        go true x true y e = none_is _ (ap (λ q. is_none (command_at cs q)) (same_path_is p c.node x) ∙ nc) ∙ sym (none_is _ (ap (λ q. is_none (command_at ds q)) (same_path_is p d.node y) ∙ nd))
        go true x false y e = cc (x, y, flip)
        go false x true y e = cc (x, y, flip)
        go false x false y e = e
