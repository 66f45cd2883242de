-- What is settled stays so when a command is taken that is not blocked.
use Rattle.std.proofs.Common.{◌≡◌, ◌<◌, length, Bool, true, false, not, ◌&&◌, ◌||◌, List, [], ◌∷◌, Option, Some, None, refl, sym, ap, subst, ◌∙◌, arith, ◌⊎◌, inl, inr}
use Rattle.std.specs.Prelude.{if◌then◌else◌, is_none}
use Rattle.sync_path.proofs.CallerLemmas.{both, same_path_is, same_path_at, under_split, under_parent, under_up, under_down, under_shorter, closed_up, closed_down, HasParentUnder}
use Rattle.sync_command.proofs.CallerLemmas.{command_at-node, tree_above}
use Rattle.refluent.proofs.CallerLemmas.{IsDrawn, after_some, fits_prerequisites, at_from_in, fewer, in_from_at, more, same_change_at, same_change_is}
use Rattle.std.proofs.lemmas.Bool.{cases_Bool}
use Rattle.merge_core.specs.FirstMergers.{IsExtendable}
use Rattle.refluent.specs.Sets.{is_in, IsSubset}
use Rattle.sync_command.specs.Changes.{Change, same_change}
use Rattle.sync_command.specs.Trees.{Holding, IsTree, command_at, new_or, after, one_each, Fits}
use Rattle.sync_command.specs.Values.{is_empty, is_dir}
use Rattle.sync_command.specs.declared.values.Value.{Value}
use Rattle.sync_command.specs.declared.values.Value.TheVariants.{Empty, Dir, File}
use Rattle.sync_path.specs.Paths.{Node, same_path, parent, is_under}
use Rattle.merge_core.proofs.Spreading.{IsSettled, barred_above, find_at, found_is, found_some, settled_extends}

abbrev pub needed_with : Change → (Node → Bool) → Node → Bool
needed_with c needed n = needed n || (not (is_empty c.new) && is_under c.node n)

abbrev pub barred_with : Change → (Node → Bool) → Node → Bool
barred_with c barred n = barred n || (not (is_dir c.new) && (same_path n c.node || is_under n c.node))

abbrev pub is_other : Option Change → Change → Bool
is_other None c = false
is_other (Some d) c = not (same_change d c)

-- blocked beside what is taken
abbrev pub is_blocked : List Change → (Node → Bool) → (Node → Bool) → Change → Bool
is_blocked taken needed barred c = is_other (command_at taken c.node) c || ((needed c.node && not (is_dir c.new)) || (barred_above barred (parent c.node) && not (is_empty c.new)))

cases_or : (a b : Bool) → (a || b) ≡ true → (a ≡ true) ⊎ (b ≡ true)
cases_or true b e = inl refl
cases_or false b e = inr e

right : (a b : Bool) → b ≡ true → (a || b) ≡ true
right a b e = grind arith

left : (a b : Bool) → a ≡ true → (a || b) ≡ true
left a b e = grind arith

not_true : (b : Bool) → not b ≡ true → b ≡ false
not_true true e = cc
not_true false e = refl

-- A command that is not blocked can be taken: the two sets of nodes then grow by what its node is under, and by what is under it.
module _ (t : Holding) (drawn taken : List Change) (needed barred : Node → Bool) (h : IsSettled t drawn taken needed barred) (c : Change) (there : is_in drawn c ≡ true) (new : command_at taken c.node ≡ None)
    (can_need : needed c.node ≡ true → is_dir c.new ≡ false → ⊥) (can_bar : (q : Node) → parent c.node ≡ Some q → barred q ≡ true → is_empty c.new ≡ false → ⊥) where
  at_cases : (n : Node) (d : Change) → command_at (c ∷ taken) n ≡ Some d → ((n ≡ c.node) × (c ≡ d)) ⊎ (command_at taken n ≡ Some d)
  at_cases n d e = go (same_path n c.node) (same_path_is n c.node) e
    where
      some_is : Some c ≡ Some d → c ≡ d
      some_is e = cc

      go : (b : Bool) → (b ≡ true → n ≡ c.node) → (if b then Some c else command_at taken n) ≡ Some d → ((n ≡ c.node) × (c ≡ d)) ⊎ (command_at taken n ≡ Some d)
      go true is e = inl (is refl, some_is e)
      go false is e = inr e

  at_taken : (n : Node) (d : Change) → command_at taken n ≡ Some d → command_at (c ∷ taken) n ≡ Some d
  at_taken n d e = go (same_path n c.node) (same_path_is n c.node)
    where
      go : (b : Bool) → (b ≡ true → n ≡ c.node) → (if b then Some c else command_at taken n) ≡ Some d
      go true is = let gone : command_at taken n ≡ None = ap (command_at taken) (is refl) ∙ new in cc (gone, e)
      go false is = e

  pub settled_next : IsSettled t drawn (c ∷ taken) (needed_with c needed) (barred_with c barred)
  settled_next = record {
    one = ap (λ o. is_none o && one_each taken) new ∙ h.one;
    part = more c taken drawn there h.part;
    needed_parent = needed_parent;
    needed_up = needed_up;
    barred_here = barred_here;
    barred_start = λ n e f. left _ _ (h.barred_start n e f);
    barred_down = barred_down;
    cause = cause;
    apart = apart;
  }
    where
      needed_parent : (q n : Node) (d : Change) → parent n ≡ Some q → command_at (c ∷ taken) n ≡ Some d → is_empty d.new ≡ false → needed_with c needed q ≡ true
      needed_parent q n d e at full = go (at_cases n d at)
        where
          go : ((n ≡ c.node) × (c ≡ d)) ⊎ (command_at taken n ≡ Some d) → needed_with c needed q ≡ true
          go (inl is) = right _ _ (ap (λ b. b && is_under c.node q) (ap not (ap (λ x. is_empty x.new) is.1 ∙ full)) ∙ ap (λ p. is_under p q) (sym is.0) ∙ under_parent q n e)
          go (inr old) = left _ _ (h.needed_parent q n d e old full)

      needed_up : (q n : Node) → parent n ≡ Some q → needed_with c needed n ≡ true → needed_with c needed q ≡ true
      needed_up q n e m = go (cases_or (needed n) (not (is_empty c.new) && is_under c.node n) m)
        where
          go : (needed n ≡ true) ⊎ ((not (is_empty c.new) && is_under c.node n) ≡ true) → needed_with c needed q ≡ true
          go (inl x) = left _ _ (h.needed_up q n e x)
          go (inr x) = let y = both (not (is_empty c.new)) (is_under c.node n) x in right _ _ (ap (λ b. b && is_under c.node q) y.0 ∙ under_up c.node n q y.1 e)

      barred_here : (n : Node) (d : Change) → command_at (c ∷ taken) n ≡ Some d → is_dir d.new ≡ false → barred_with c barred n ≡ true
      barred_here n d at other = go (at_cases n d at)
        where
          go : ((n ≡ c.node) × (c ≡ d)) ⊎ (command_at taken n ≡ Some d) → barred_with c barred n ≡ true
          go (inl is) = right _ _ (ap (λ b. b && (same_path n c.node || is_under n c.node)) (ap not (ap (λ x. is_dir x.new) is.1 ∙ other)) ∙ left _ _ (same_path_at n c.node is.0))
          go (inr old) = left _ _ (h.barred_here n d old other)

      barred_down : (q n : Node) → parent n ≡ Some q → barred_with c barred q ≡ true → barred_with c barred n ≡ true
      barred_down q n e b = go (cases_or (barred q) (not (is_dir c.new) && (same_path q c.node || is_under q c.node)) b)
        where
          below : (same_path q c.node ≡ true) ⊎ (is_under q c.node ≡ true) → is_under n c.node ≡ true
          below (inl s) = subst (λ p. is_under n p ≡ true) (same_path_is q c.node s) (under_parent q n e)
          below (inr u) = under_down n q c.node e u

          go : (barred q ≡ true) ⊎ ((not (is_dir c.new) && (same_path q c.node || is_under q c.node)) ≡ true) → barred_with c barred n ≡ true
          go (inl x) = left _ _ (h.barred_down q n e x)
          go (inr x) = let y = both (not (is_dir c.new)) (same_path q c.node || is_under q c.node) x in
              right _ _ (ap (λ b. b && (same_path n c.node || is_under n c.node)) y.0 ∙ right _ _ (below (cases_or (same_path q c.node) (is_under q c.node) y.1)))

      cause : (n : Node) → barred_with c barred n ≡ true → is_dir (t n) ≡ true →
          ((d : Change) × (command_at (c ∷ taken) n ≡ Some d) × (is_dir d.new ≡ false)) ⊎ ((q : Node) × (parent n ≡ Some q) × (barred_with c barred q ≡ true))
      cause n b dir = go (cases_or (barred n) (not (is_dir c.new) && (same_path n c.node || is_under n c.node)) b)
        where
          W : Type 0
          W = ((d : Change) × (command_at (c ∷ taken) n ≡ Some d) × (is_dir d.new ≡ false)) ⊎ ((q : Node) × (parent n ≡ Some q) × (barred_with c barred q ≡ true))

          old : ((d : Change) × (command_at taken n ≡ Some d) × (is_dir d.new ≡ false)) ⊎ ((q : Node) × (parent n ≡ Some q) × (barred q ≡ true)) → W
          old (inl x) = inl (x.0, at_taken n x.0 x.1, x.2)
          old (inr x) = inr (x.0, x.1, left _ _ x.2)

          below : is_dir c.new ≡ false → (same_path n c.node ≡ true) ⊎ (is_under n c.node ≡ true) → W
          below other (inl s) = inl (c, ap (λ b. if b then Some c else command_at taken n) s, other)
          below other (inr u) = let w : HasParentUnder n c.node = under_split n c.node u in inr (w.up, w.is, right _ _ (ap (λ b. b && (same_path w.up c.node || is_under w.up c.node)) (ap not other) ∙ way w.way))
            where
              way : {p : Node} → (p ≡ c.node) ⊎ (is_under p c.node ≡ true) → (same_path p c.node || is_under p c.node) ≡ true
              way {p} (inl is) = left _ _ (same_path_at p c.node is)
              way (inr v) = right _ _ v

          go : (barred n ≡ true) ⊎ ((not (is_dir c.new) && (same_path n c.node || is_under n c.node)) ≡ true) → W
          go (inl x) = old (h.cause n x dir)
          go (inr x) = let y = both (not (is_dir c.new)) (same_path n c.node || is_under n c.node) x in below (not_true _ y.0) (cases_or (same_path n c.node) (is_under n c.node) y.1)

      apart : (n : Node) → needed_with c needed n ≡ true → barred_with c barred n ≡ true → ⊥
      apart n m b = go (cases_or (needed n) (not (is_empty c.new) && is_under c.node n) m) (cases_or (barred n) (not (is_dir c.new) && (same_path n c.node || is_under n c.node)) b)
        where
          up_to : (same_path n c.node ≡ true) ⊎ (is_under n c.node ≡ true) → needed n ≡ true → needed c.node ≡ true
          up_to (inl s) x = ap needed (sym (same_path_is n c.node s)) ∙ x
          up_to (inr u) x = closed_up needed h.needed_up n c.node u x

          round : (same_path n c.node ≡ true) ⊎ (is_under n c.node ≡ true) → is_under c.node n ≡ true → ⊥
          round (inl s) u = let k : length n < length c.node = under_shorter c.node n u in let l : length n ≡ length c.node = ap length (same_path_is n c.node s) in omega arith
          round (inr v) u = let k : length n < length c.node = under_shorter c.node n u in let l : length c.node < length n = under_shorter n c.node v in omega arith

          go : (needed n ≡ true) ⊎ ((not (is_empty c.new) && is_under c.node n) ≡ true) → (barred n ≡ true) ⊎ ((not (is_dir c.new) && (same_path n c.node || is_under n c.node)) ≡ true) → ⊥
          go (inl x) (inl y) = h.apart n x y
          go (inl x) (inr y) = let z = both (not (is_dir c.new)) (same_path n c.node || is_under n c.node) y in can_need (up_to (cases_or (same_path n c.node) (is_under n c.node) z.1) x) (not_true _ z.0)
          go (inr x) (inl y) = let z = both (not (is_empty c.new)) (is_under c.node n) x in let r = closed_down barred h.barred_down c.node n z.1 y in can_bar r.0 r.1 r.2 (not_true _ z.0)
          go (inr x) (inr y) = let z = both (not (is_empty c.new)) (is_under c.node n) x in let w = both (not (is_dir c.new)) (same_path n c.node || is_under n c.node) y in round (cases_or (same_path n c.node) (is_under n c.node) w.1) z.1

-- what the two sets of nodes say of each drawn set that fits and has all that is taken
pub record IsSound (t : Holding) (drawn taken : List Change) (needed barred : Node → Bool) : Type 0 where
  pub needs_dirs : (ss : List Change) → IsSubset ss drawn → Fits t ss → IsSubset taken ss → (n : Node) → needed n ≡ true → is_dir (after ss t n) ≡ true
  pub bars_dirs : (ss : List Change) → IsSubset ss drawn → Fits t ss → IsSubset taken ss → (n : Node) → barred n ≡ true → is_dir (after ss t n) ≡ true → ⊥

full_dir : (v : Value) → is_dir v ≡ true → is_empty v ≡ false
full_dir Empty e = cc
full_dir (Dir l) e = refl
full_dir (File b) e = refl

pub sound_next : (t : Holding) (drawn taken : List Change) (needed barred : Node → Bool) → IsSound t drawn taken needed barred → (c : Change) → IsSound t drawn (c ∷ taken) (needed_with c needed) (barred_with c barred)
sound_next t drawn taken needed barred h c = record { needs_dirs = needs_dirs; bars_dirs = bars_dirs }
  where
    here : (ss : List Change) → Fits t ss → IsSubset (c ∷ taken) ss → after ss t c.node ≡ c.new
    here ss fits has = after_some t ss c.node c (at_from_in ss fits.one c (fewer c taken ss has).0)

    needs_dirs : (ss : List Change) → IsSubset ss drawn → Fits t ss → IsSubset (c ∷ taken) ss → (n : Node) → needed_with c needed n ≡ true → is_dir (after ss t n) ≡ true
    needs_dirs ss part fits has n m = go (cases_or (needed n) (not (is_empty c.new) && is_under c.node n) m)
      where
        go : (needed n ≡ true) ⊎ ((not (is_empty c.new) && is_under c.node n) ≡ true) → is_dir (after ss t n) ≡ true
        go (inl x) = h.needs_dirs ss part fits (fewer c taken ss has).1 n x
        go (inr x) = let y = both (not (is_empty c.new)) (is_under c.node n) x in tree_above (after ss t) fits.tree c.node n y.1 (ap is_empty (here ss fits has) ∙ not_true _ y.0)

    bars_dirs : (ss : List Change) → IsSubset ss drawn → Fits t ss → IsSubset (c ∷ taken) ss → (n : Node) → barred_with c barred n ≡ true → is_dir (after ss t n) ≡ true → ⊥
    bars_dirs ss part fits has n b dir = go (cases_or (barred n) (not (is_dir c.new) && (same_path n c.node || is_under n c.node)) b)
      where
        other : is_dir c.new ≡ false → (same_path n c.node ≡ true) ⊎ (is_under n c.node ≡ true) → ⊥
        other f (inl s) = let e : is_dir c.new ≡ true = ap is_dir (sym (here ss fits has)) ∙ ap (λ p. is_dir (after ss t p)) (sym (same_path_is n c.node s)) ∙ dir in cc (e, f)
        other f (inr u) = let e : is_dir c.new ≡ true = ap is_dir (sym (here ss fits has)) ∙ tree_above (after ss t) fits.tree n c.node u (full_dir _ dir) in cc (e, f)

        go : (barred n ≡ true) ⊎ ((not (is_dir c.new) && (same_path n c.node || is_under n c.node)) ≡ true) → ⊥
        go (inl x) = h.bars_dirs ss part fits (fewer c taken ss has).1 n x dir
        go (inr x) = let y = both (not (is_dir c.new)) (same_path n c.node || is_under n c.node) x in other (not_true _ y.0) (cases_or (same_path n c.node) (is_under n c.node) y.1)

-- Blocking spreads exactly: a drawn command is blocked where no drawn set that fits has it with all that is taken,
pub blocked_none : (t : Holding) (drawn taken : List Change) (needed barred : Node → Bool) → IsSound t drawn taken needed barred → (c : Change) → is_blocked taken needed barred c ≡ true → IsExtendable t drawn (c ∷ taken) → ⊥
blocked_none t drawn taken needed barred h c blocked ext = go (cases_or (is_other (command_at taken c.node) c) _ blocked)
  where
    has : IsSubset taken ext.whole
    has = (fewer c taken ext.whole ext.has).1

    at : command_at ext.whole c.node ≡ Some c
    at = at_from_in ext.whole ext.fits.one c (fewer c taken ext.whole ext.has).0

    here : after ext.whole t c.node ≡ c.new
    here = after_some t ext.whole c.node c at

    some_is : (d : Change) → Some d ≡ Some c → d ≡ c
    some_is d e = cc

    others : (o : Option Change) → command_at taken c.node ≡ o → is_other o c ≡ true → ⊥
    others None e f = cc (f)
    others (Some d) e f =
        let node : c.node ≡ d.node = command_at-node taken c.node d e in
        let at' : command_at ext.whole c.node ≡ Some d = ap (command_at ext.whole) node ∙ at_from_in ext.whole ext.fits.one d (has d (in_from_at taken c.node d e)) in
        let is : d ≡ c = some_is d (sym at' ∙ at) in
        let same : same_change d c ≡ true = same_change_at d c is in
        let differ : same_change d c ≡ false = not_true _ f in cc (same, differ)

    up : (o : Option Node) → parent c.node ≡ o → (barred_above barred o && not (is_empty c.new)) ≡ true → ⊥
    up None e f = cc (f)
    up (Some q) e f = let y = both (barred q) (not (is_empty c.new)) f in h.bars_dirs ext.whole ext.within ext.fits has q y.0 (ext.fits.tree q c.node e (ap is_empty here ∙ not_true _ y.1))

    go : (is_other (command_at taken c.node) c ≡ true) ⊎ (((needed c.node && not (is_dir c.new)) || (barred_above barred (parent c.node) && not (is_empty c.new))) ≡ true) → ⊥
    go (inl x) = others _ refl x
    go (inr x) = rest (cases_or (needed c.node && not (is_dir c.new)) _ x)
      where
        rest : ((needed c.node && not (is_dir c.new)) ≡ true) ⊎ ((barred_above barred (parent c.node) && not (is_empty c.new)) ≡ true) → ⊥
        rest (inl y) = let z = both (needed c.node) (not (is_dir c.new)) y in
            let d : is_dir c.new ≡ true = ap is_dir (sym here) ∙ h.needs_dirs ext.whole ext.within ext.fits has c.node z.0 in
            let f : is_dir c.new ≡ false = not_true _ z.1 in cc (d, f)
        rest (inr y) = up (parent c.node) refl y

-- and only there.
pub open_extends : (t : Holding) (drawn taken : List Change) (needed barred : Node → Bool) → IsTree t → ((c : Change) → is_in drawn c ≡ true → IsDrawn t drawn c) → IsSettled t drawn taken needed barred →
    (c : Change) → is_in drawn c ≡ true → is_blocked taken needed barred c ≡ false → IsExtendable t drawn (c ∷ taken)
open_extends t drawn taken needed barred tree known h c there opened = go (command_at taken c.node) refl
  where
    falls : (a b d : Bool) → (a || (b || d)) ≡ false → (a ≡ false) × (b ≡ false) × (d ≡ false)
    falls a b d e = grind arith

    parts : (is_other (command_at taken c.node) c ≡ false) × ((needed c.node && not (is_dir c.new)) ≡ false) × ((barred_above barred (parent c.node) && not (is_empty c.new)) ≡ false)
    parts = falls _ _ _ opened

    yes_and : (a b : Bool) → (a && not b) ≡ false → a ≡ true → b ≡ false → ⊥
    yes_and a b e f g = grind arith

    not_false : (b : Bool) → not b ≡ false → b ≡ true
    not_false true e = refl
    not_false false e = cc

    go : (o : Option Change) → command_at taken c.node ≡ o → IsExtendable t drawn (c ∷ taken)
    go None e = settled_extends t drawn (c ∷ taken) (needed_with c needed) (barred_with c barred) tree known
        (settled_next t drawn taken needed barred h c there e (λ m o. yes_and _ _ parts.1 m o)
        (λ q f b o. yes_and (barred_above barred (parent c.node)) _ parts.2 (ap (barred_above barred) f ∙ b) o))
    go (Some d) e =
        let is : d ≡ c = same_change_is d c (not_false _ (ap (λ o. is_other o c) (sym e) ∙ parts.0)) in
        let ext = settled_extends t drawn taken needed barred tree known h in
        record { whole = ext.whole; within = ext.within; fits = ext.fits; has = more c taken ext.whole (ext.has c (in_from_at taken c.node c (e ∙ ap Some is))) ext.has }

-- At the start no node has to be a directory, and those can be none that are none and that no drawn command makes one.
abbrev pub barred_first : Holding → List Change → Node → Bool
barred_first t drawn n = not (is_dir (t n)) && is_none (find_at is_dir drawn n)

pub settled_first : (t : Holding) (drawn : List Change) → IsTree t → ((c : Change) → is_in drawn c ≡ true → IsDrawn t drawn c) → IsSettled t drawn [] (λ n. false) (barred_first t drawn)
settled_first t drawn tree known = record {
  one = refl;
  part = λ c i. cc (i);
  needed_parent = λ q n c e at full. cc (at);
  needed_up = λ q n e m. m;
  barred_here = λ n c at other. cc (at);
  barred_start = λ n e f. ap (λ b. not b && is_none (find_at is_dir drawn n)) e ∙ ap is_none f;
  barred_down = barred_down;
  cause = λ n b dir. let f : is_dir (t n) ≡ false = not_true _ (both (not (is_dir (t n))) (is_none (find_at is_dir drawn n)) b).0 in cc (f, dir);
  apart = λ n m b. cc (m);
}
  where
    none_is : {A : Type 0} (o : Option A) → is_none o ≡ true → o ≡ None
    none_is None e = refl
    none_is (Some x) e = cc (e)

    barred_down : (q n : Node) → parent n ≡ Some q → barred_first t drawn q ≡ true → barred_first t drawn n ≡ true
    barred_down q n e b = go (cases_Bool (is_empty (t n))) (find_at is_dir drawn n) refl
      where
        parts : (not (is_dir (t q)) ≡ true) × (is_none (find_at is_dir drawn q) ≡ true)
        parts = both _ _ b

        not_dir : (v : Value) → is_empty v ≡ true → not (is_dir v) ≡ true
        not_dir Empty f = refl
        not_dir (Dir l) f = cc (f)
        not_dir (File x) f = refl

        go : (is_empty (t n) ≡ true) ⊎ (is_empty (t n) ≡ false) → (o : Option Change) → find_at is_dir drawn n ≡ o → (not (is_dir (t n)) && is_none o) ≡ true
        go (inr full) o f = let d : is_dir (t q) ≡ true = tree q n e full in let g : is_dir (t q) ≡ false = not_true _ parts.0 in cc (d, g)
        go (inl bare) None f = ap (λ b. b && true) (not_dir _ bare)
        go (inl bare) (Some c) f =
            let w = found_is is_dir drawn n c f in
            let k = known c w.2 in
            let at : command_at k.set n ≡ Some c = ap (command_at k.set) w.0 ∙ at_from_in k.set k.fits.one c k.there in
            let old : is_empty c.old ≡ true = ap is_empty (sym (k.fits.olds n c at)) ∙ bare in
            let d = (fits_prerequisites t k.set tree k.fits).makes q n c e at old (full_dir _ w.1) (not_true _ parts.0) in
            absurd (found_some is_dir drawn d.0 (k.part d.0 (in_from_at k.set q d.0 d.1)) d.2 (ap (find_at is_dir drawn) (sym (command_at-node k.set q d.0 d.1)) ∙ none_is _ parts.1))

pub sound_first : (t : Holding) (drawn : List Change) → IsSound t drawn [] (λ n. false) (barred_first t drawn)
sound_first t drawn = record {
  needs_dirs = λ ss part fits has n m. cc (m);
  bars_dirs = bars_dirs;
}
  where
    none_is : (o : Option Change) → is_none o ≡ true → o ≡ None
    none_is None e = refl
    none_is (Some x) e = cc (e)

    bars_dirs : (ss : List Change) → IsSubset ss drawn → Fits t ss → IsSubset [] ss → (n : Node) → barred_first t drawn n ≡ true → is_dir (after ss t n) ≡ true → ⊥
    bars_dirs ss part fits has n b dir = go (command_at ss n) refl dir
      where
        parts : (not (is_dir (t n)) ≡ true) × (is_none (find_at is_dir drawn n) ≡ true)
        parts = both _ _ b

        go : (o : Option Change) → command_at ss n ≡ o → is_dir (new_or o (t n)) ≡ true → ⊥
        go None e d = let f : is_dir (t n) ≡ false = not_true _ parts.0 in cc (d, f)
        go (Some c) e d = found_some is_dir drawn c (part c (in_from_at ss n c e)) d (ap (find_at is_dir drawn) (sym (command_at-node ss n c e)) ∙ none_is _ parts.1)
