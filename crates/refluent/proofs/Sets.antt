-- Sets of commands: membership, subsets, and lists without repeats.
use Rattle.std.proofs.Common.{◌≡◌, Bool, true, false, ◌&&◌, ◌||◌, List, [], ◌∷◌, Some, refl, sym, ap, subst, ◌∙◌, arith, not, ◌++◌, ◌⊎◌, inl, inr}
use Rattle.refluent.specs.Sets.{is_in, IsSubset, without_repeats, all_differ, differs_from}
use Rattle.sync_command.specs.Changes.{Change, same_change}
use Rattle.sync_command.specs.Trees.{command_at, one_each}
use Rattle.sync_command.specs.Values.{same_value}
use Rattle.sync_path.specs.Paths.{Node, same_path}
use Rattle.canon_set.specs.Sets.{canonical}
use Rattle.std.specs.List.{filter}
use Rattle.canon_set.proofs.CallerLemmas.{command_at-canonical, one_each-canonical}
use Rattle.sync_command.proofs.CallerLemmas.{same_value_is, same_value_refl}
use Rattle.sync_path.proofs.CallerLemmas.{both, same_path_is, same_path_refl}

pub same_change_is : (c d : Change) → same_change c d ≡ true → c ≡ d
same_change_is c d e =
    let a : (same_path c.node d.node ≡ true) × ((same_value c.old d.old && same_value c.new d.new) ≡ true) = both _ _ e in
    let b : (same_value c.old d.old ≡ true) × (same_value c.new d.new ≡ true) = both _ _ a.1 in
    let node = same_path_is c.node d.node a.0 in
    let old = same_value_is c.old d.old b.0 in
    let new = same_value_is c.new d.new b.1 in
    λ i. record { node = node i; old = old i; new = new i }

pub same_change_refl : (c : Change) → same_change c c ≡ true
same_change_refl c = ap (λ b. b && (same_value c.old c.old && same_value c.new c.new)) (same_path_refl c.node) ∙ ap (λ b. b && same_value c.new c.new) (same_value_refl c.old) ∙ same_value_refl c.new

pub same_change_at : (c d : Change) → c ≡ d → same_change c d ≡ true
same_change_at c d e = subst (λ x. same_change c x ≡ true) e (same_change_refl c)

pub in_from_at : (cs : List Change) (p : Node) (c : Change) → command_at cs p ≡ Some c → is_in cs c ≡ true
in_from_at [] p c e = cc
in_from_at (d ∷ cs) p c e = step (in_from_at cs p c) (same_change_at c d) e
  where
    step : (command_at cs p ≡ Some c → is_in cs c ≡ true) → (c ≡ d → same_change c d ≡ true) → command_at (d ∷ cs) p ≡ Some c → is_in (d ∷ cs) c ≡ true
    step ih same e = grind arith

pub at_from_in : (cs : List Change) → one_each cs ≡ true → (c : Change) → is_in cs c ≡ true → command_at cs c.node ≡ Some c
at_from_in [] one c e = cc
at_from_in (d ∷ cs) one c e = step (λ h. at_from_in cs h c) (same_change_is c d) one e
  where
    step : (one_each cs ≡ true → is_in cs c ≡ true → command_at cs c.node ≡ Some c) → (same_change c d ≡ true → c ≡ d) → one_each (d ∷ cs) ≡ true → is_in (d ∷ cs) c ≡ true → command_at (d ∷ cs) c.node ≡ Some c
    step ih same one e = grind (arith, same_path_is)

pub more : (c : Change) (cs ds : List Change) → is_in ds c ≡ true → IsSubset cs ds → IsSubset (c ∷ cs) ds
more c cs ds there part x e = step (same_change_is x c) (part x) e
  where
    step : (same_change x c ≡ true → x ≡ c) → (is_in cs x ≡ true → is_in ds x ≡ true) → is_in (c ∷ cs) x ≡ true → is_in ds x ≡ true
    step same part e = grind (arith, there)

pub fewer : (c : Change) (cs ds : List Change) → IsSubset (c ∷ cs) ds → (is_in ds c ≡ true) × IsSubset cs ds
fewer c cs ds part = (part c (step (same_change_refl c)), λ x e. part x (step' x e))
  where
    step : same_change c c ≡ true → is_in (c ∷ cs) c ≡ true
    step e = grind (arith, e)

    step' : (x : Change) → is_in cs x ≡ true → is_in (c ∷ cs) x ≡ true
    step' x e = grind (arith, e)

pub is_in-filter : (f : Change → Bool) (cs : List Change) (c : Change) → is_in (filter f cs) c ≡ (is_in cs c && f c)
is_in-filter f [] c = refl
is_in-filter f (d ∷ cs) c = go (is_in-filter f cs c) (same_change_is c d)
  where
    go : is_in (filter f cs) c ≡ (is_in cs c && f c) → (same_change c d ≡ true → c ≡ d) → is_in (filter f (d ∷ cs)) c ≡ (is_in (d ∷ cs) c && f c)
    go ih is = grind arith

pub all_differ-filter : (f : Change → Bool) (cs : List Change) → all_differ cs ≡ true → all_differ (filter f cs) ≡ true
all_differ-filter f [] e = refl
all_differ-filter f (d ∷ cs) e = go (all_differ-filter f cs) (is_in-filter f cs d) e
  where
    go : (all_differ cs ≡ true → all_differ (filter f cs) ≡ true) → is_in (filter f cs) d ≡ (is_in cs d && f d) → all_differ (d ∷ cs) ≡ true → all_differ (filter f (d ∷ cs)) ≡ true
    go ih at e = grind arith

pub is_in-without_repeats : (cs : List Change) (c : Change) → is_in (without_repeats cs) c ≡ is_in cs c
is_in-without_repeats [] c = refl
is_in-without_repeats (d ∷ cs) c = go (is_in-without_repeats cs c) (is_in-filter (differs_from d) (without_repeats cs) c)
  where
    go : is_in (without_repeats cs) c ≡ is_in cs c → is_in (filter (differs_from d) (without_repeats cs)) c ≡ (is_in (without_repeats cs) c && not (same_change c d)) → is_in (without_repeats (d ∷ cs)) c ≡ is_in (d ∷ cs) c
    go ih at = grind (arith, ih, at)

pub all_differ-without_repeats : (cs : List Change) → all_differ (without_repeats cs) ≡ true
all_differ-without_repeats [] = refl
all_differ-without_repeats (d ∷ cs) = go (all_differ-filter (differs_from d) (without_repeats cs) (all_differ-without_repeats cs)) (is_in-filter (differs_from d) (without_repeats cs) d) (same_change_refl d)
  where
    go : all_differ (filter (differs_from d) (without_repeats cs)) ≡ true → is_in (filter (differs_from d) (without_repeats cs)) d ≡ (is_in (without_repeats cs) d && not (same_change d d)) → same_change d d ≡ true → all_differ (without_repeats (d ∷ cs)) ≡ true
    go rest at own = grind (arith, rest, at, own)

pub is_in-append : (cs ds : List Change) (c : Change) → is_in (cs ++ ds) c ≡ (is_in cs c || is_in ds c)
is_in-append [] ds c = refl
is_in-append (d ∷ cs) ds c = go (is_in-append cs ds c)
  where
    go : is_in (cs ++ ds) c ≡ (is_in cs c || is_in ds c) → is_in ((d ∷ cs) ++ ds) c ≡ (is_in (d ∷ cs) c || is_in ds c)
    go ih = grind (arith, ih)

pub is_in-canonical : (cs : List Change) → one_each cs ≡ true → (c : Change) → is_in (canonical cs) c ≡ is_in cs c
is_in-canonical cs one c = alike (is_in (canonical cs) c) (is_in cs c)
    (λ h. in_from_at cs c.node c (sym (command_at-canonical cs one c.node) ∙ at_from_in (canonical cs) (one_each-canonical cs one) c h))
    (λ h. in_from_at (canonical cs) c.node c (command_at-canonical cs one c.node ∙ at_from_in cs one c h))
  where
    alike : (a b : Bool) → (a ≡ true → b ≡ true) → (b ≡ true → a ≡ true) → a ≡ b
    alike true b f g = sym (f refl)
    alike false true f g = g refl
    alike false false f g = refl

pub yes_or_no : (b : Bool) → (b ≡ true) ⊎ (b ≡ false)
yes_or_no true = inl refl
yes_or_no false = inr refl
