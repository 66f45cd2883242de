-- Where it is settled which nodes have to be directories and which can be none, some drawn set that fits has all that is taken.
use Rattle.std.proofs.Common.{◌≡◌, ℕ, zero, suc, ◌<◌, ◌≤◌, length, Bool, true, false, not, ◌&&◌, List, [], ◌∷◌, Option, Some, None, refl, sym, ap, subst, ◌∙◌, arith, ◌⊎◌, inl, inr}
use Rattle.std.specs.Prelude.{if◌then◌else◌, is_none}
use Rattle.sync_path.proofs.CallerLemmas.{both, same_path_is, same_path_at, same_path_refl, under_split, under_parent, HasParentUnder}
use Rattle.sync_command.proofs.CallerLemmas.{command_at-node}
use Rattle.refluent.proofs.CallerLemmas.{IsDrawn, fits_from_parts, fits_prerequisites, at_from_in, in_from_at, same_change_at, same_change_is, same_change_refl}
use Rattle.std.proofs.lemmas.Bool.{cases_Bool}
use Rattle.merge_core.specs.FirstMergers.{IsExtendable}
use Rattle.refluent.specs.Sets.{is_in, IsSubset}
use Rattle.sync_command.specs.Changes.{Change, same_change}
use Rattle.sync_command.specs.Trees.{Holding, IsTree, command_at, one_each, Fits}
use Rattle.sync_command.specs.Values.{is_empty, is_dir}
use Rattle.sync_command.specs.declared.values.Value.{Value}
use Rattle.sync_command.specs.declared.values.Value.TheVariants.{Empty, Dir, File}
use Rattle.sync_path.specs.Paths.{Node, same_path, parent}

-- the first command at a path whose new value passes
abbrev pub find_at : (Value → Bool) → List Change → Node → Option Change
find_at f [] p = None
find_at f (c ∷ cs) p = if same_path p c.node && f c.new then Some c else find_at f cs p

pub found_is : (f : Value → Bool) (cs : List Change) (p : Node) (c : Change) → find_at f cs p ≡ Some c → (p ≡ c.node) × (f c.new ≡ true) × (is_in cs c ≡ true)
found_is f [] p c e = cc
found_is f (d ∷ cs) p c e = go (found_is f cs p c) (same_change_at c d) e
  where
    go : (find_at f cs p ≡ Some c → (p ≡ c.node) × (f c.new ≡ true) × (is_in cs c ≡ true)) → (c ≡ d → same_change c d ≡ true) → find_at f (d ∷ cs) p ≡ Some c → (p ≡ c.node) × (f c.new ≡ true) × (is_in (d ∷ cs) c ≡ true)
    go ih same e = grind (arith, same_path_is)

pub found_some : (f : Value → Bool) (cs : List Change) (c : Change) → is_in cs c ≡ true → f c.new ≡ true → find_at f cs c.node ≡ None → ⊥
found_some f [] c i g e = cc
found_some f (d ∷ cs) c i g e = go (found_some f cs c) (same_change_is c d) (same_path_at c.node d.node) i g e
  where
    go : (is_in cs c ≡ true → f c.new ≡ true → find_at f cs c.node ≡ None → ⊥) → (same_change c d ≡ true → c ≡ d) → (c.node ≡ d.node → same_path c.node d.node ≡ true) →
        is_in (d ∷ cs) c ≡ true → f c.new ≡ true → find_at f (d ∷ cs) c.node ≡ None → ⊥
    go ih same here i g e = grind arith

-- the picked commands as a list
abbrev pub is_pick : Option Change → Change → Bool
is_pick None c = false
is_pick (Some d) c = same_change d c

abbrev pub gather : (Node → Option Change) → List Change → List Change
gather pick [] = []
gather pick (c ∷ cs) = if is_pick (pick c.node) c && is_none (command_at (gather pick cs) c.node) then c ∷ gather pick cs else gather pick cs

pick_is : (o : Option Change) (c : Change) → is_pick o c ≡ true → o ≡ Some c
pick_is None c e = cc
pick_is (Some d) c e = ap Some (same_change_is d c e)

one_each-gather : (pick : Node → Option Change) (cs : List Change) → one_each (gather pick cs) ≡ true
one_each-gather pick [] = refl
one_each-gather pick (c ∷ cs) = go (one_each-gather pick cs)
  where
    go : one_each (gather pick cs) ≡ true → one_each (gather pick (c ∷ cs)) ≡ true
    go ih = grind arith

gathered_is : (pick : Node → Option Change) (cs : List Change) (p : Node) (d : Change) → command_at (gather pick cs) p ≡ Some d → pick p ≡ Some d
gathered_is pick [] p d e = cc
gathered_is pick (c ∷ cs) p d e = go (gathered_is pick cs p d) (pick_is (pick c.node) c) e
  where
    go : (command_at (gather pick cs) p ≡ Some d → pick p ≡ Some d) → (is_pick (pick c.node) c ≡ true → pick c.node ≡ Some c) → command_at (gather pick (c ∷ cs)) p ≡ Some d → pick p ≡ Some d
    go ih is e = grind (arith, same_path_is)

-- what is picked and listed is gathered
gathered_there : (pick : Node → Option Change) (cs : List Change) (d : Change) → is_in cs d ≡ true → pick d.node ≡ Some d → command_at (gather pick cs) d.node ≡ None → ⊥
gathered_there pick [] d i e none = cc
gathered_there pick (c ∷ cs) d i e none = split (cases_Bool (same_change d c)) (gathered_there pick cs d)
  where
    rest : (g : List Change) (b : Bool) → command_at (if b then c ∷ g else g) d.node ≡ None → command_at g d.node ≡ None
    rest g b e = grind arith

    listed : same_change d c ≡ false → is_in cs d ≡ true
    listed apart = grind (arith, i)

    here : (g : List Change) (x : Bool) → x ≡ true → same_path c.node c.node ≡ true → command_at (if x && is_none (command_at g c.node) then c ∷ g else g) c.node ≡ None → ⊥
    here g x h own e = grind arith

    split : (same_change d c ≡ true) ⊎ (same_change d c ≡ false) → (is_in cs d ≡ true → pick d.node ≡ Some d → command_at (gather pick cs) d.node ≡ None → ⊥) → ⊥
    split (inl same) ih = let is : d ≡ c = same_change_is d c same in
        here (gather pick cs) (is_pick (pick c.node) c) (ap (λ o. is_pick o c) (subst (λ x. pick x.node ≡ Some x) is e) ∙ same_change_refl c) (same_path_refl c.node)
        (subst (λ x. command_at (gather pick (c ∷ cs)) x.node ≡ None) is none)
    split (inr apart) ih = ih (listed apart) e (rest (gather pick cs) (is_pick (pick c.node) c && is_none (command_at (gather pick cs) c.node)) none)

gathered_at : (pick : Node → Option Change) (cs : List Change) → ((p : Node) (d : Change) → pick p ≡ Some d → (p ≡ d.node) × (is_in cs d ≡ true)) → (p : Node) → command_at (gather pick cs) p ≡ pick p
gathered_at pick cs known p = go (command_at (gather pick cs) p) refl (pick p) refl
  where
    go : (o : Option Change) → command_at (gather pick cs) p ≡ o → (r : Option Change) → pick p ≡ r → o ≡ r
    go None e None f = refl
    go None e (Some d) f = let k = known p d f in absurd (gathered_there pick cs d k.1 (ap pick (sym k.0) ∙ f) (ap (command_at (gather pick cs)) (sym k.0) ∙ e))
    go (Some d) e r f = sym (gathered_is pick cs p d e) ∙ f

-- What is known between turns: which nodes have to be directories, and which can be none, beside what is taken
pub record IsSettled (t : Holding) (drawn taken : List Change) (needed barred : Node → Bool) : Type 0 where
  pub one : one_each taken ≡ true
  pub part : IsSubset taken drawn
  pub needed_parent : (q n : Node) (c : Change) → parent n ≡ Some q → command_at taken n ≡ Some c → is_empty c.new ≡ false → needed q ≡ true
  pub needed_up : (q n : Node) → parent n ≡ Some q → needed n ≡ true → needed q ≡ true
  pub barred_here : (n : Node) (c : Change) → command_at taken n ≡ Some c → is_dir c.new ≡ false → barred n ≡ true
  pub barred_start : (n : Node) → is_dir (t n) ≡ false → find_at is_dir drawn n ≡ None → barred n ≡ true
  pub barred_down : (q n : Node) → parent n ≡ Some q → barred q ≡ true → barred n ≡ true
  pub cause : (n : Node) → barred n ≡ true → is_dir (t n) ≡ true →
      ((c : Change) × (command_at taken n ≡ Some c) × (is_dir c.new ≡ false)) ⊎ ((q : Node) × (parent n ≡ Some q) × (barred q ≡ true))
  pub apart : (n : Node) → needed n ≡ true → barred n ≡ true → ⊥

abbrev pub barred_above : (Node → Bool) → Option Node → Bool
barred_above barred None = false
barred_above barred (Some q) = barred q

abbrev pub pick_by : Option Change → Bool → Bool → Option Change → Option Change → Option Change
pick_by (Some c) b m e d = Some c
pick_by None true m e d = e
pick_by None false true e d = d
pick_by None false false e d = None

module _ (t : Holding) (drawn taken : List Change) (needed barred : Node → Bool) (tree : IsTree t) (known : (c : Change) → is_in drawn c ≡ true → IsDrawn t drawn c) (h : IsSettled t drawn taken needed barred) where
  olds_drawn : (c : Change) → is_in drawn c ≡ true → t c.node ≡ c.old
  olds_drawn c i = let k = known c i in k.fits.olds c.node c (at_from_in k.set k.fits.one c k.there)

  -- a drawn command that takes a directory away comes with one that empties each full child
  empties_child : (q n : Node) (d : Change) → is_in drawn d ≡ true → q ≡ d.node → is_dir (t q) ≡ true → is_dir d.new ≡ false → parent n ≡ Some q → is_empty (t n) ≡ false →
      (c : Change) × (is_in drawn c ≡ true) × (n ≡ c.node) × (is_empty c.new ≡ true)
  empties_child q n d i is dir gone e full =
      let k = known d i in
      let at : command_at k.set q ≡ Some d = ap (command_at k.set) is ∙ at_from_in k.set k.fits.one d k.there in
      let old : is_dir d.old ≡ true = ap is_dir (sym (olds_drawn d i)) ∙ ap (λ p. is_dir (t p)) (sym is) ∙ dir in
      let c = (fits_prerequisites t k.set tree k.fits).clears q n d e at old gone full in
      (c.0, k.part c.0 (in_from_at k.set n c.0 c.1), command_at-node k.set n c.0 c.1, c.2)

  -- below a node that can be no directory each full node has a drawn command that empties it
  emptied_by : (k : ℕ) (q n : Node) → length n ≤ k → parent n ≡ Some q → barred q ≡ true → is_empty (t n) ≡ false → (c : Change) × (is_in drawn c ≡ true) × (n ≡ c.node) × (is_empty c.new ≡ true)
  emptied_by zero q n short e b full = let u : HasParentUnder n q = under_split n q (under_parent q n e) in let s : length u.up < length n = u.shorter in absurd (omega arith)
  emptied_by (suc k) q n short e b full = go (h.cause q b (tree q n e full)) (λ r s f g. emptied_by k r q s f g (full_dir _ (tree q n e full)))
    where
      full_dir : (v : Value) → is_dir v ≡ true → is_empty v ≡ false
      full_dir Empty e = cc
      full_dir (Dir l) e = refl
      full_dir (File b) e = refl

      no_dir : (v : Value) → is_empty v ≡ true → is_dir v ≡ false
      no_dir Empty e = refl
      no_dir (Dir l) e = cc
      no_dir (File b) e = refl

      less : length q ≤ k
      less = let u : HasParentUnder n q = under_split n q (under_parent q n e) in same_up u (some_is (sym u.is ∙ e))
        where
          some_is : {x y : Node} → Some x ≡ Some y → x ≡ y
          some_is e = cc

          same_up : (u : HasParentUnder n q) → u.up ≡ q → length q ≤ k
          same_up u is = let s : length u.up < length n = u.shorter in let l : length u.up ≡ length q = ap length is in omega arith

      go : ((c : Change) × (command_at taken q ≡ Some c) × (is_dir c.new ≡ false)) ⊎ ((r : Node) × (parent q ≡ Some r) × (barred r ≡ true)) →
          ((r : Node) → length q ≤ k → parent q ≡ Some r → barred r ≡ true → (c : Change) × (is_in drawn c ≡ true) × (q ≡ c.node) × (is_empty c.new ≡ true)) →
          (c : Change) × (is_in drawn c ≡ true) × (n ≡ c.node) × (is_empty c.new ≡ true)
      go (inl c) rec = empties_child q n c.0 (h.part c.0 (in_from_at taken q c.0 c.1)) (command_at-node taken q c.0 c.1) (tree q n e full) c.2 e full
      go (inr r) rec = let d = rec r.0 less r.1 r.2 in empties_child q n d.0 d.1 d.2 (tree q n e full) (no_dir _ d.3) e full

  emptied : (q n : Node) → parent n ≡ Some q → barred q ≡ true → is_empty (t n) ≡ false → (c : Change) × (is_in drawn c ≡ true) × (n ≡ c.node) × (is_empty c.new ≡ true)
  emptied q n e b full = emptied_by (length n) q n (omega arith) e b full

  abbrev pick : Node → Option Change
  pick n = pick_by (command_at taken n) (barred_above barred (parent n) && not (is_empty (t n))) (needed n && not (is_dir (t n))) (find_at is_empty drawn n) (find_at is_dir drawn n)

  -- why a command is picked
  abbrev IsPicked : Node → Change → Type 0
  IsPicked n c = (command_at taken n ≡ Some c) ⊎ (((q : Node) × (parent n ≡ Some q) × (barred q ≡ true) × (is_empty c.new ≡ true)) ⊎ ((needed n ≡ true) × (is_dir c.new ≡ true)))

  pick_why : (n : Node) (c : Change) → pick n ≡ Some c → IsPicked n c × (n ≡ c.node) × (is_in drawn c ≡ true)
  pick_why n c e = go (command_at taken n) refl (barred_above barred (parent n) && not (is_empty (t n))) refl (needed n && not (is_dir (t n))) refl e
    where
      some_is : {x y : Change} → Some x ≡ Some y → x ≡ y
      some_is e = cc

      upward : (o : Option Node) → parent n ≡ o → (barred_above barred o && not (is_empty (t n))) ≡ true → (q : Node) × (parent n ≡ Some q) × (barred q ≡ true)
      upward None e f = cc (f)
      upward (Some q) e f = (q, e, (both _ _ f).0)

      go : (o : Option Change) → command_at taken n ≡ o → (b : Bool) → (barred_above barred (parent n) && not (is_empty (t n))) ≡ b → (m : Bool) → (needed n && not (is_dir (t n))) ≡ m →
          pick_by o b m (find_at is_empty drawn n) (find_at is_dir drawn n) ≡ Some c → IsPicked n c × (n ≡ c.node) × (is_in drawn c ≡ true)
      go (Some d) a b x m y e = let at : command_at taken n ≡ Some c = a ∙ e in (inl at, command_at-node taken n c at, h.part c (in_from_at taken n c at))
      go None a true x m y e = let f = found_is is_empty drawn n c e in let q = upward (parent n) refl x in (inr (inl (q.0, q.1, q.2, f.1)), f.0, f.2)
      go None a false x true y e = let f = found_is is_dir drawn n c e in (inr (inr ((both _ _ y).0, f.1)), f.0, f.2)
      go None a false x false y e = cc (e)

  needed_by : (q n : Node) (c : Change) → parent n ≡ Some q → pick n ≡ Some c → is_empty c.new ≡ false → needed q ≡ true
  needed_by q n c e p full = go (pick_why n c p).0
    where
      go : IsPicked n c → needed q ≡ true
      go (inl at) = h.needed_parent q n c e at full
      go (inr (inl (r, f, b, gone))) = cc (full, gone)
      go (inr (inr (m, d))) = h.needed_up q n e m

  barred_by : (q : Node) (d : Change) → pick q ≡ Some d → is_dir d.new ≡ false → barred q ≡ true
  barred_by q d p other = go (pick_why q d p).0
    where
      go : IsPicked q d → barred q ≡ true
      go (inl at) = h.barred_here q d at other
      go (inr (inl (r, f, b, gone))) = h.barred_down r q f b
      go (inr (inr (m, dir))) = cc (other, dir)

  dir_wanted : (q : Node) → needed q ≡ true → is_dir (t q) ≡ false → (d : Change) × (pick q ≡ Some d) × (is_dir d.new ≡ true)
  dir_wanted q m other = go (command_at taken q) refl (barred_above barred (parent q) && not (is_empty (t q))) (no_up (parent q) refl) (needed q && not (is_dir (t q))) refl (find_at is_dir drawn q) refl
    where
      no_up : (o : Option Node) → parent q ≡ o → (barred_above barred o && not (is_empty (t q))) ≡ true → ⊥
      no_up None e f = cc (f)
      no_up (Some r) e f = h.apart q m (h.barred_down r q e (both _ _ f).0)

      wanted : (needed q && not (is_dir (t q))) ≡ true
      wanted = ap (λ b. b && not (is_dir (t q))) m ∙ ap not other

      go : (o : Option Change) → command_at taken q ≡ o → (b : Bool) → (b ≡ true → ⊥) → (w : Bool) → (needed q && not (is_dir (t q))) ≡ w → (s : Option Change) → find_at is_dir drawn q ≡ s →
          (d : Change) × (pick_by o b w (find_at is_empty drawn q) s ≡ Some d) × (is_dir d.new ≡ true)
      go (Some d) a b x w y s z = (d, refl, or_else (is_dir d.new) (λ n. h.apart q m (h.barred_here q d a n)))
        where
          or_else : (b : Bool) → (b ≡ false → ⊥) → b ≡ true
          or_else true f = refl
          or_else false f = absurd (f refl)
      go None a true x w y s z = absurd (x refl)
      go None a false x false y s z = cc (y, wanted)
      go None a false x true y None z = absurd (h.apart q m (h.barred_start q other z))
      go None a false x true y (Some d) z = (d, refl, (found_is is_dir drawn q d z).1)

  emptied_wanted : (q n : Node) → parent n ≡ Some q → barred q ≡ true → is_empty (t n) ≡ false → (c : Change) × (pick n ≡ Some c) × (is_empty c.new ≡ true)
  emptied_wanted q n e b full = go (command_at taken n) refl (barred_above barred (parent n) && not (is_empty (t n))) up (find_at is_empty drawn n) refl
    where
      up : (barred_above barred (parent n) && not (is_empty (t n))) ≡ true
      up = ap (λ o. barred_above barred o && not (is_empty (t n))) e ∙ ap (λ x. x && not (is_empty (t n))) b ∙ ap not full

      or_else : (b : Bool) → (b ≡ false → ⊥) → b ≡ true
      or_else true f = refl
      or_else false f = absurd (f refl)

      go : (o : Option Change) → command_at taken n ≡ o → (x : Bool) → x ≡ true → (s : Option Change) → find_at is_empty drawn n ≡ s →
          (c : Change) × (pick_by o x (needed n && not (is_dir (t n))) s (find_at is_dir drawn n) ≡ Some c) × (is_empty c.new ≡ true)
      go (Some c) a x y s z = (c, refl, or_else (is_empty c.new) (λ f. h.apart q (h.needed_parent q n c e a f) b))
      go None a false y s z = cc (y)
      go None a true y (Some c) z = (c, refl, (found_is is_empty drawn n c z).1)
      go None a true y None z = let c = emptied q n e b full in absurd (found_some is_empty drawn c.0 c.1 c.3 (ap (find_at is_empty drawn) (sym c.2) ∙ z))

  picked : List Change
  picked = gather pick drawn

  picked_at : (p : Node) → command_at picked p ≡ pick p
  unfolding picked
  picked_at p = gathered_at pick drawn (λ q d e. ((pick_why q d e).1, (pick_why q d e).2)) p

  picked_fit : Fits t picked
  unfolding picked
  picked_fit = fits_from_parts t picked tree (one_each-gather pick drawn)
      (λ n c e. let w = pick_why n c (sym (picked_at n) ∙ e) in ap t w.1 ∙ olds_drawn c w.2)
      (record {
        makes = λ q n c e at old new other. let d = dir_wanted q (needed_by q n c e (sym (picked_at n) ∙ at) new) other in (d.0, picked_at q ∙ d.1, d.2);
        clears = λ q n d e at old new full. let c = emptied_wanted q n e (barred_by q d (sym (picked_at q) ∙ at) new) full in (c.0, picked_at n ∙ c.1, c.2);
      })
      (λ q n d c e at at' other. or_else (is_empty c.new) (λ full. h.apart q (needed_by q n c e (sym (picked_at n) ∙ at') full) (barred_by q d (sym (picked_at q) ∙ at) other)))
    where
      or_else : (b : Bool) → (b ≡ false → ⊥) → b ≡ true
      or_else true f = refl
      or_else false f = absurd (f refl)

  -- Where all is settled, some drawn set that fits has all that is taken.
  pub settled_extends : IsExtendable t drawn taken
  settled_extends = record {
    whole = picked;
    within = λ c i. (pick_why c.node c (sym (picked_at c.node) ∙ at_from_in picked picked_fit.one c i)).2;
    fits = picked_fit;
    has = λ c i. in_from_at picked c.node c (picked_at c.node ∙ ap (λ o. pick_by o (barred_above barred (parent c.node) && not (is_empty (t c.node))) (needed c.node && not (is_dir (t c.node))) (find_at is_empty drawn c.node) (find_at is_dir drawn c.node)) (at_from_in taken h.one c i));
  }
