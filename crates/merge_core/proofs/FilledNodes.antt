-- Which nodes drawn commands name, above and below those that they change.
use Rattle.std.proofs.Common.{◌≡◌, Bool, true, false, List, Option, Some, None, refl, sym, ap, ◌∙◌, ◌⊎◌, inl, inr}
use Rattle.sync_path.specs.Paths.{Node, parent, is_under}
use Rattle.sync_command.specs.Changes.{Change}
use Rattle.sync_command.specs.Values.{is_empty, is_dir}
use Rattle.sync_command.specs.Trees.{Holding, IsTree, command_at, after}
use Rattle.refluent.specs.Sets.{is_in}
use Rattle.sync_command.proofs.CallerLemmas.{command_at-node, tree_above, full_from_dir}
use Rattle.refluent.proofs.CallerLemmas.{IsDrawn, in_from_at, at_from_in, after_some, after_none}

-- something is held at the node, or a drawn command leaves it non-empty
abbrev pub IsFilled : Holding → List Change → Node → Type 0
IsFilled t drawn n = (is_empty (t n) ≡ false) ⊎ ((e : Change) × (is_in drawn e ≡ true) × (e.node ≡ n) × (is_empty e.new ≡ false))

abbrev pub IsNamed : List Change → Node → Type 0
IsNamed drawn q = (e : Change) × (is_in drawn e ≡ true) × (e.node ≡ q)

clash : (b : Bool) → b ≡ true → b ≡ false → ⊥
clash b e f = cc

-- what stands at a member's node after its set
own_after : (t : Holding) (drawn : List Change) (c : Change) (s : IsDrawn t drawn c) → after s.set t c.node ≡ c.new
own_after t drawn c s = after_some t s.set c.node c (at_from_in s.set s.fits.one c s.there)

-- a directory held below a node that is left other than a directory is emptied by a drawn command
emptied : (t : Holding) (drawn : List Change) (c : Change) → IsDrawn t drawn c → is_dir c.new ≡ false → (q : Node) → is_under q c.node ≡ true → is_empty (t q) ≡ false → IsNamed drawn q
emptied t drawn c s other q u full = go (command_at s.set q) refl
  where
    gone : is_empty (after s.set t q) ≡ false → ⊥
    gone e = clash (is_dir c.new) (sym (ap is_dir (own_after t drawn c s)) ∙ tree_above (after s.set t) s.fits.tree q c.node u e) other

    go : (o : Option Change) → command_at s.set q ≡ o → IsNamed drawn q
    go None e = absurd (gone (ap is_empty (after_none t s.set q e) ∙ full))
    go (Some d) e = (d, s.part d (in_from_at s.set q d e), sym (command_at-node s.set q d e))

-- below a node that a drawn command leaves other than a directory, the parent of what is filled is named, and filled
pub named_above : (t : Holding) (drawn : List Change) → IsTree t → ((c : Change) → is_in drawn c ≡ true → IsDrawn t drawn c) →
    (c : Change) → is_in drawn c ≡ true → is_dir c.new ≡ false → (q n : Node) → parent n ≡ Some q → is_under q c.node ≡ true → IsFilled t drawn n → IsNamed drawn q × IsFilled t drawn q
named_above t drawn tree known c there other q n p u (inl full) = let d : is_dir (t q) ≡ true = tree q n p full in (emptied t drawn c (known c there) other q u (full_from_dir (t q) d), inl (full_from_dir (t q) d))
named_above t drawn tree known c there other q n p u (inr (e, in_e, at, full)) = go (known e in_e)
  where
    go : IsDrawn t drawn e → IsNamed drawn q × IsFilled t drawn q
    go s = split (command_at s.set q) refl
      where
        left : is_empty (after s.set t n) ≡ false
        left = ap (λ x. is_empty (after s.set t x)) (sym at) ∙ ap is_empty (own_after t drawn e s) ∙ full

        made : is_dir (after s.set t q) ≡ true
        made = s.fits.tree q n p (ap (λ x. is_empty (after s.set t x)) (sym at) ∙ ap is_empty (own_after t drawn e s) ∙ full)

        split : (o : Option Change) → command_at s.set q ≡ o → IsNamed drawn q × IsFilled t drawn q
        split None f = let d : is_dir (t q) ≡ true = sym (ap is_dir (after_none t s.set q f)) ∙ made in
            (emptied t drawn c (known c there) other q u (full_from_dir (t q) d), inl (full_from_dir (t q) d))
        split (Some d) f =
            let is : is_in drawn d ≡ true = s.part d (in_from_at s.set q d f) in
            let here : d.node ≡ q = sym (command_at-node s.set q d f) in
            let new : is_dir d.new ≡ true = sym (ap is_dir (after_some t s.set q d f)) ∙ made in
            ((d, is, here), inr (d, is, here, full_from_dir d.new new))

-- a node that is no directory and under which a drawn command leaves something has a drawn command that makes it one
pub made_above : (t : Holding) (drawn : List Change) → IsTree t → ((c : Change) → is_in drawn c ≡ true → IsDrawn t drawn c) →
    (c : Change) → is_in drawn c ≡ true → is_empty c.new ≡ false → (q : Node) → is_under c.node q ≡ true → is_dir (t q) ≡ false → (e : Change) × (is_in drawn e ≡ true) × (e.node ≡ q) × (is_dir e.new ≡ true)
made_above t drawn tree known c there full q u other = go (known c there)
  where
    go : IsDrawn t drawn c → (e : Change) × (is_in drawn e ≡ true) × (e.node ≡ q) × (is_dir e.new ≡ true)
    go s = split (command_at s.set q) refl
      where
        made : is_dir (after s.set t q) ≡ true
        made = tree_above (after s.set t) s.fits.tree c.node q u (ap is_empty (own_after t drawn c s) ∙ full)

        split : (o : Option Change) → command_at s.set q ≡ o → (e : Change) × (is_in drawn e ≡ true) × (e.node ≡ q) × (is_dir e.new ≡ true)
        split None f = absurd (clash (is_dir (t q)) (sym (ap is_dir (after_none t s.set q f)) ∙ made) other)
        split (Some d) f = (d, s.part d (in_from_at s.set q d f), sym (command_at-node s.set q d f), sym (ap is_dir (after_some t s.set q d f)) ∙ made)
