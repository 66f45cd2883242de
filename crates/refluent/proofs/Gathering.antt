-- How the claims of logs are gathered and sorted.
use Rattle.std.proofs.Common.{◌≡◌, ◌<◌, ◌≤◌, ◌+◌, ℕ, zero, suc, Bool, true, false, not, ◌&&◌, ◌||◌, List, [], ◌∷◌, ◌++◌, map, length, get_or, Option, Some, None, refl, sym, ap, subst, ◌∙◌, arith, ◌⊎◌, inl, inr, length-append, append_assoc}
use Rattle.std.specs.Prelude.{if◌then◌else◌, is_none, slice_set}
use Rattle.std.specs.Option.{option_map}
use Rattle.std.specs.List.{slice_get, Contains, swap}
use Rattle.refluent.proofs.Wanting.{set_at}
use Rattle.std.specs.List.Sorted.{IsPermutation, IsSortedBy}
use Rattle.std.specs.Cmp.{IsTotalOrder, IsStrictWeakOrder}
use Rattle.std.specs.Ordering.{is_eq, is_lt, ordering_then, nat_cmp}
use Rattle.std.specs.declared.cmp.Ordering.{Ordering}
use Rattle.std.specs.declared.cmp.Ordering.TheVariants.{Less, Equal, Greater}
use Rattle.std.proofs.lemmas.List.Sorted.{sorted_far, ranks_by, Contains-permutation, IsPermutation-sym, IsPermutation-keeps}
use Rattle.std.proofs.lemmas.Option.{slice_get-map, slice_get_within, slice_get-get_or, get_or_from_slice_get}
use Rattle.std.proofs.lemmas.Bool.{cases_lt}
use Rattle.std.proofs.lemmas.Bool.Decides.{nat_tests}
use Rattle.std.proofs.lemmas.Cmp.{then_total, nat_cmp_total}
use Rattle.sync_path.specs.Paths.{Node, parent, comes_before, path_cmp, same_path}
use Rattle.sync_path.specs.Order.{path_cmp_total}
use Rattle.sync_command.specs.Changes.{Change}
use Rattle.sync_command.specs.Trees.{command_at, one_each}
use Rattle.canon_set.specs.Logs.{names, touches}
use Rattle.canon_set.specs.Leaving.{above, leaves}
use Rattle.sync_path.specs.Children.{has}
use Rattle.canon_set.specs.Sums.{Sum, StandsFor, IsSum, touch_of, table_of}
use Rattle.canon_set.specs.declared.touches.Touch.{Touch}
use Rattle.refluent.specs.Joints.{AreSums, EachStandsFor}
use Rattle.refluent.specs.FirstDisagreements.{log_at}
use Rattle.refluent.specs.Tables.{said, said_of, AreClaims, AreClaimsOf, AddsClaims, AreOrdered, AreSorted, AreClosed, claim_touched, claim_above, claim_cmp}
use Rattle.refluent.specs.UniqueClaims.{AreUnique, is_touching}
use Rattle.refluent.specs.declared.claims.Statement.{Statement}
use Rattle.refluent.specs.declared.claims.Statement.TheVariants.{Above, Touches}
use Rattle.refluent.specs.declared.claims.Claim.{Claim}
use Rattle.canon_set.proofs.CallerLemmas.{one_each-touches, not_named, named_touch, above_named, above_up}
use Rattle.sync_command.proofs.CallerLemmas.{command_at-node}
use Rattle.sync_path.proofs.CallerLemmas.{same_path_is, same_path_at, same_path_refl, both, under_parent}

-- ---- sorted claims

paths_total : IsTotalOrder (λ (c d : Claim). path_cmp c.path d.path)
paths_total = record {
  antisymm = λ c d. path_cmp_total.antisymm c.path d.path;
  trans = λ c d e. path_cmp_total.trans c.path d.path e.path;
  congr = λ c d e. path_cmp_total.congr c.path d.path e.path;
}

paths_order : IsStrictWeakOrder (λ (c d : Claim). is_lt (path_cmp c.path d.path))
paths_order = ranks_by paths_total (λ c. c)

pub are_sorted : (claims : List Claim) → IsSortedBy (λ c d. is_lt (claim_cmp c d)) claims → AreSorted claims
unfolding comes_before
are_sorted claims sorted i j c d less at there = ap (λ x. is_lt (path_cmp x.path c.path)) (sym (get_or_from_slice_get claims j d c there)) ∙ ap (λ x. is_lt (path_cmp (get_or claims j c).path x.path)) (sym (get_or_from_slice_get claims i c c at)) ∙
    sorted_far (λ c d. is_lt (path_cmp c.path d.path)) paths_order claims (λ k d low high. by_paths (path_cmp (get_or claims (k + 1) d).path (get_or claims k d).path) _ (sorted k d low high)) i j c (omega arith) (slice_get_within claims j d there)
  where
    by_paths : (o rest : Ordering) → is_lt (ordering_then o rest) ≡ false → is_lt o ≡ false
    by_paths Less rest e = e
    by_paths Equal rest e = refl
    by_paths Greater rest e = refl

contains_at : (xs : List Claim) (k : ℕ) (c : Claim) → slice_get xs k ≡ Some c → Contains xs c
contains_at xs k c e = (k, slice_get_within xs k c e, get_or_from_slice_get xs k c c e)

at_contains : (xs : List Claim) (c : Claim) → Contains xs c → (k : ℕ) × (slice_get xs k ≡ Some c)
at_contains xs c h = (h.0, slice_get-get_or xs h.0 c h.1 ∙ ap Some h.2)

-- claims that only change places stay those of the logs
pub permuted : (xs ys : List Claim) → IsPermutation xs ys → (logs : List (List Change)) → AreClaims xs logs → AreClaims ys logs
permuted xs ys moved logs are = record {
  sound = λ k c e. let h = at_contains xs c (Contains-permutation ys xs c (IsPermutation-sym xs ys moved) (contains_at ys k c e)) in are.sound h.0 c h.1;
  complete = λ l p s e. let h = are.complete l p s e in at_contains ys _ (Contains-permutation xs ys _ moved (contains_at xs h.0 _ h.1));
}

logs_total : IsTotalOrder (λ (c d : Claim). nat_cmp c.log d.log)
logs_total = record {
  antisymm = λ c d. nat_cmp_total.antisymm c.log d.log;
  trans = λ c d e. nat_cmp_total.trans c.log d.log e.log;
  congr = λ c d e. nat_cmp_total.congr c.log d.log e.log;
}

pub claims_order : IsStrictWeakOrder (λ c d. is_lt (claim_cmp c d))
claims_order = ranks_by (then_total paths_total logs_total) (λ c. c)

-- ---- the claims of one log

append_left : {X : Type 0} (xs ys : List X) (k : ℕ) (x : X) → slice_get xs k ≡ Some x → slice_get (xs ++ ys) k ≡ Some x
append_left [] ys k x e = cc (e)
append_left (z ∷ xs) ys zero x e = e
append_left (z ∷ xs) ys (suc k) x e = append_left xs ys k x e

append_right : {X : Type 0} (xs ys : List X) (k : ℕ) (x : X) → slice_get ys k ≡ Some x → (j : ℕ) × (slice_get (xs ++ ys) j ≡ Some x)
append_right [] ys k x e = (k, e)
append_right (z ∷ xs) ys k x e = let h = append_right xs ys k x e in (suc h.0, h.1)

append_split : {X : Type 0} (xs ys : List X) (k : ℕ) (x : X) → slice_get (xs ++ ys) k ≡ Some x → (slice_get xs k ≡ Some x) ⊎ ((j : ℕ) × (slice_get ys j ≡ Some x))
append_split [] ys k x e = inr (k, e)
append_split (z ∷ xs) ys zero x e = inl e
append_split (z ∷ xs) ys (suc k) x e = append_split xs ys k x e

map_at : {A B : Type 0} (f : A → B) (xs : List A) (k : ℕ) (y : B) → slice_get (map f xs) k ≡ Some y → (x : A) × (slice_get xs k ≡ Some x) × (y ≡ f x)
map_at f [] k y e = cc (e)
map_at f (x ∷ xs) zero y e = (x, refl, same (sym e))
  where
    same : Some y ≡ Some (f x) → y ≡ f x
    same h = cc
map_at f (x ∷ xs) (suc k) y e = map_at f xs k y e

at_map : {A B : Type 0} (f : A → B) (xs : List A) (k : ℕ) (x : A) → slice_get xs k ≡ Some x → slice_get (map f xs) k ≡ Some (f x)
at_map f xs k x e = slice_get-map f xs k ∙ ap (option_map f) e

-- a set is found by its place
at_node : (ds : List Change) (k : ℕ) (d : Change) → one_each ds ≡ true → slice_get ds k ≡ Some d → command_at ds d.node ≡ Some d
at_node [] k d one e = cc (e)
at_node (x ∷ ds) zero d one e = let is : x ≡ d = same e in ap (λ b. if b then Some x else command_at ds d.node) (same_path_at d.node x.node (ap (λ y. y.node) (sym is))) ∙ e
  where
    same : Some x ≡ Some d → x ≡ d
    same h = cc
at_node (x ∷ ds) (suc k) d one e = let parts = both (is_none (command_at ds x.node)) (one_each ds) one in go (at_node ds k d parts.1 e) (same_path d.node x.node) refl (none_is _ parts.0)
  where
    none_is : (o : Option Change) → is_none o ≡ true → o ≡ None
    none_is None e = refl
    none_is (Some d) e = cc (e)

    go : command_at ds d.node ≡ Some d → (b : Bool) → same_path d.node x.node ≡ b → command_at ds x.node ≡ None → (if b then Some x else command_at ds d.node) ≡ Some d
    go found false f none = found
    go found true f none = let lost : command_at ds d.node ≡ None = ap (command_at ds) (same_path_is d.node x.node f) ∙ none in cc (found, lost)

node_at : (ds : List Change) (p : Node) (d : Change) → command_at ds p ≡ Some d → (k : ℕ) × (slice_get ds k ≡ Some d)
node_at [] p d e = cc (e)
node_at (x ∷ ds) p d e = go (node_at ds p d) (same_path p x.node) e
  where
    go : (command_at ds p ≡ Some d → (k : ℕ) × (slice_get ds k ≡ Some d)) → (b : Bool) → (if b then Some x else command_at ds p) ≡ Some d → (k : ℕ) × (slice_get (x ∷ ds) k ≡ Some d)
    go rest true f = (0, f)
    go rest false f = let h = rest f in (suc h.0, h.1)

path_at : (ps : List Node) (p : Node) → has ps p ≡ true → (k : ℕ) × (slice_get ps k ≡ Some p)
path_at [] p e = cc (e)
path_at (q ∷ ps) p e = go (path_at ps p) (same_path p q) refl e
  where
    go : (has ps p ≡ true → (k : ℕ) × (slice_get ps k ≡ Some p)) → (b : Bool) → same_path p q ≡ b → (b || has ps p) ≡ true → (k : ℕ) × (slice_get (q ∷ ps) k ≡ Some p)
    go rest true f g = (0, ap Some (sym (same_path_is p q f)))
    go rest false f g = let h = rest g in (suc h.0, h.1)

has_at : (ps : List Node) (k : ℕ) (p : Node) → slice_get ps k ≡ Some p → has ps p ≡ true
has_at [] k p e = cc (e)
has_at (q ∷ ps) zero p e = ap (λ b. b || has ps p) (same_path_at p q (same (sym e)))
  where
    same : Some p ≡ Some q → p ≡ q
    same h = cc
has_at (q ∷ ps) (suc k) p e = go (same_path p q) (has_at ps k p e)
  where
    go : (b : Bool) → has ps p ≡ true → (b || has ps p) ≡ true
    go true h = refl
    go false h = h

module _ (l : ℕ) (cs : List Change) (paths : List Node) (over : (p : Node) → has paths p ≡ (above cs p && not (names cs p))) where
  abbrev part : List Claim
  part = map (claim_touched l) (table_of cs) ++ map (claim_above l) paths

  says_touched : (d : Change) → command_at (touches cs) d.node ≡ Some d → said cs d.node ≡ Some (Touches d.old d.new (leaves cs d.node))
  says_touched d e = ap (λ o. said_of o (leaves cs d.node) (above cs d.node)) e

  says_above : (p : Node) → has paths p ≡ true → said cs p ≡ Some Above
  says_above p h = go (command_at (touches cs) p) refl (above cs p) refl (sym (over p) ∙ h)
    where
      go : (o : Option Change) → command_at (touches cs) p ≡ o → (b : Bool) → above cs p ≡ b → (b && not (names cs p)) ≡ true → said_of o (leaves cs p) b ≡ Some Above
      go (Some d) e b f g = let n : names cs p ≡ true = named_touch cs p d e in named (names cs p) n b g
        where
          named : (n : Bool) → n ≡ true → (b : Bool) → (b && not n) ≡ true → said_of (Some d) (leaves cs p) b ≡ Some Above
          named n is true g = cc (is, g)
          named n is false g = cc (g)
      go None e true f g = refl
      go None e false f g = cc (g)

  pub of_log : AreClaimsOf l cs part
  of_log = record { sound = sound; complete = complete }
    where
      sound : (k : ℕ) (c : Claim) → slice_get part k ≡ Some c → (c.log ≡ l) × (said cs c.path ≡ Some c.says)
      sound k c e = go (append_split (map (claim_touched l) (table_of cs)) (map (claim_above l) paths) k c e)
        where
          touched : (t : Touch) × (slice_get (table_of cs) k ≡ Some t) × (c ≡ claim_touched l t) → (c.log ≡ l) × (said cs c.path ≡ Some c.says)
          touched h = by (map_at (touch_of cs) (touches cs) k h.0 h.1)
            where
              by : (d : Change) × (slice_get (touches cs) k ≡ Some d) × (h.0 ≡ touch_of cs d) → (c.log ≡ l) × (said cs c.path ≡ Some c.says)
              by g = let is : c ≡ claim_touched l (touch_of cs g.0) = h.2 ∙ ap (claim_touched l) g.2 in
                  subst (λ x. (x.log ≡ l) × (said cs x.path ≡ Some x.says)) (sym is) (refl, says_touched g.0 (at_node (touches cs) k g.0 (one_each-touches cs) g.1))

          over_one : (j : ℕ) × (slice_get (map (claim_above l) paths) j ≡ Some c) → (c.log ≡ l) × (said cs c.path ≡ Some c.says)
          over_one h = let g = map_at (claim_above l) paths h.0 c h.1 in subst (λ x. (x.log ≡ l) × (said cs x.path ≡ Some x.says)) (sym g.2) (refl, says_above g.0 (has_at paths h.0 g.0 g.1))

          go : (slice_get (map (claim_touched l) (table_of cs)) k ≡ Some c) ⊎ ((j : ℕ) × (slice_get (map (claim_above l) paths) j ≡ Some c)) → (c.log ≡ l) × (said cs c.path ≡ Some c.says)
          go (inl h) = touched (map_at (claim_touched l) (table_of cs) k c h)
          go (inr h) = over_one h

      complete : (p : Node) (s : Statement) → said cs p ≡ Some s → (k : ℕ) × (slice_get part k ≡ Some (record { path = p; log = l; says = s }))
      complete p s e = go (command_at (touches cs) p) refl (above cs p) refl e
        where
          some_says : {a b : Statement} → Some a ≡ Some b → a ≡ b
          some_says h = cc

          go : (o : Option Change) → command_at (touches cs) p ≡ o → (b : Bool) → above cs p ≡ b → said_of o (leaves cs p) b ≡ Some s → (k : ℕ) × (slice_get part k ≡ Some (record { path = p; log = l; says = s }))
          go (Some d) f b g h = let n = node_at (touches cs) p d f in let at = at_map (claim_touched l) (table_of cs) n.0 _ (at_map (touch_of cs) (touches cs) n.0 d n.1) in
              (n.0, append_left (map (claim_touched l) (table_of cs)) (map (claim_above l) paths) n.0 _ at ∙ ap Some (same (command_at-node (touches cs) p d f)))
            where
              same : p ≡ d.node → claim_touched l (touch_of cs d) ≡ record { path = p; log = l; says = s }
              same is = ap (λ q. record { path = q; log = l; says = Touches d.old d.new (leaves cs q) }) (sym is) ∙ ap (λ x. record { path = p; log = l; says = x }) (some_says h)
          go None f true g h = let n = path_at paths p (over p ∙ ap (λ b. b && not (names cs p)) g ∙ ap not (not_named cs p f)) in let at = append_right (map (claim_touched l) (table_of cs)) (map (claim_above l) paths) n.0 _ (at_map (claim_above l) paths n.0 p n.1) in
              (at.0, at.1 ∙ ap (λ x. Some (record { path = p; log = l; says = x })) (some_says h))
          go None f false g h = cc (h)

-- ---- once

append_at : {X : Type 0} (xs ys : List X) (k : ℕ) (x : X) → slice_get (xs ++ ys) k ≡ Some x → ((k < length xs) × (slice_get xs k ≡ Some x)) ⊎ ((j : ℕ) × (k ≡ length xs + j) × (slice_get ys j ≡ Some x))
append_at [] ys k x e = inr (k, omega arith, e)
append_at (z ∷ xs) ys zero x e = inl (omega arith, e)
append_at (z ∷ xs) ys (suc k) x e = go (append_at xs ys k x e)
  where
    go : ((k < length xs) × (slice_get xs k ≡ Some x)) ⊎ ((j : ℕ) × (k ≡ length xs + j) × (slice_get ys j ≡ Some x)) → ((suc k < length (z ∷ xs)) × (slice_get xs k ≡ Some x)) ⊎ ((j : ℕ) × (suc k ≡ length (z ∷ xs) + j) × (slice_get ys j ≡ Some x))
    go (inl h) = let low : k < length xs = h.0 in inl (omega arith, h.1)
    go (inr h) = let is : k ≡ length xs + h.0 = h.1 in inr (h.0, omega arith, h.2)

-- a set names a node at one place
one_place : (ds : List Change) → one_each ds ≡ true → (i j : ℕ) (d e : Change) → slice_get ds i ≡ Some d → slice_get ds j ≡ Some e → d.node ≡ e.node → i ≡ j
one_place [] one i j d e f g h = cc (f)
one_place (x ∷ ds) one zero zero d e f g h = refl
one_place (x ∷ ds) one zero (suc j) d e f g h = let parts = both (is_none (command_at ds x.node)) (one_each ds) one in absurd (gone (command_at ds x.node) refl parts.0 (at_node ds j e parts.1 g) (same f))
  where
    same : Some x ≡ Some d → x ≡ d
    same f = cc

    gone : (o : Option Change) → command_at ds x.node ≡ o → is_none o ≡ true → command_at ds e.node ≡ Some e → x ≡ d → ⊥
    gone (Some y) a b c k = cc (b)
    gone None a b c k = let l : command_at ds e.node ≡ None = ap (command_at ds) (sym h ∙ ap (λ y. y.node) (sym k)) ∙ a in cc (c, l)
one_place (x ∷ ds) one (suc i) zero d e f g h = let parts = both (is_none (command_at ds x.node)) (one_each ds) one in absurd (gone (command_at ds x.node) refl parts.0 (at_node ds i d parts.1 f) (same g))
  where
    same : Some x ≡ Some e → x ≡ e
    same f = cc

    gone : (o : Option Change) → command_at ds x.node ≡ o → is_none o ≡ true → command_at ds d.node ≡ Some d → x ≡ e → ⊥
    gone (Some y) a b c k = cc (b)
    gone None a b c k = let l : command_at ds d.node ≡ None = ap (command_at ds) (h ∙ ap (λ y. y.node) (sym k)) ∙ a in cc (c, l)
one_place (x ∷ ds) one (suc i) (suc j) d e f g h = let parts = both (is_none (command_at ds x.node)) (one_each ds) one in ap suc (one_place ds parts.1 i j d e f g h)

module _ (l : ℕ) (cs : List Change) (paths : List Node) (over : (p : Node) → has paths p ≡ (above cs p && not (names cs p))) where
  touch_there : (k : ℕ) (c : Claim) → slice_get (map (claim_touched l) (table_of cs)) k ≡ Some c → (d : Change) × (slice_get (touches cs) k ≡ Some d) × (c.path ≡ d.node)
  touch_there k c e = let t = map_at (claim_touched l) (table_of cs) k c e in let d = map_at (touch_of cs) (touches cs) k t.0 t.1 in (d.0, d.1, ap (λ x. x.path) t.2 ∙ ap (λ x. x.path) d.2)

  above_there : (k : ℕ) (c : Claim) → slice_get (map (claim_above l) paths) k ≡ Some c → (is_touching c.says ≡ false) × (has paths c.path ≡ true)
  above_there k c e = let p = map_at (claim_above l) paths k c e in (ap (λ x. is_touching x.says) p.2, ap (has paths) (ap (λ x. x.path) p.2) ∙ has_at paths k p.0 p.1)

  pub part_once : AreUnique (map (claim_touched l) (table_of cs) ++ map (claim_above l) paths)
  part_once i j c d e f lg p t = go (append_at (map (claim_touched l) (table_of cs)) (map (claim_above l) paths) i c e) (append_at (map (claim_touched l) (table_of cs)) (map (claim_above l) paths) j d f)
    where
      many : ℕ
      many = length (map (claim_touched l) (table_of cs))

      apart : (x : Change) → slice_get (touches cs) i ≡ Some x → c.path ≡ x.node → has paths d.path ≡ true → ⊥
      apart x at is h = by (above cs d.path) (names cs d.path) (sym (over d.path) ∙ h) (ap (names cs) (sym p ∙ is) ∙ named_touch cs x.node x (at_node (touches cs) i x (one_each-touches cs) at))
        where
          by : (a b : Bool) → (a && not b) ≡ true → b ≡ true → ⊥
          by true true g k = cc (g)
          by true false g k = cc (k)
          by false b g k = cc (g)

      go : ((i < length (map (claim_touched l) (table_of cs))) × (slice_get (map (claim_touched l) (table_of cs)) i ≡ Some c)) ⊎ ((k : ℕ) × (i ≡ length (map (claim_touched l) (table_of cs)) + k) × (slice_get (map (claim_above l) paths) k ≡ Some c)) →
          ((j < length (map (claim_touched l) (table_of cs))) × (slice_get (map (claim_touched l) (table_of cs)) j ≡ Some d)) ⊎ ((k : ℕ) × (j ≡ length (map (claim_touched l) (table_of cs)) + k) × (slice_get (map (claim_above l) paths) k ≡ Some d)) → i ≡ j
      go (inl g) (inl h) = let x = touch_there i c g.1 in let y = touch_there j d h.1 in one_place (touches cs) (one_each-touches cs) i j x.0 y.0 x.1 y.1 (sym x.2 ∙ p ∙ y.2)
      go (inl g) (inr h) = let x = touch_there i c g.1 in absurd (apart x.0 x.1 x.2 (above_there h.0 d h.2).1)
      go (inr g) h = let n : is_touching c.says ≡ false = (above_there g.0 c g.2).0 in cc (n, t)

-- what one log's parts give
pub adds : (old mid new : List Claim) (l : ℕ) (s : Sum) (touched : List Touch) (paths : List Node) → mid ≡ old ++ map (claim_touched l) touched → new ≡ mid ++ map (claim_above l) paths → touched ≡ s.touched →
    ((cs : List Change) → StandsFor s cs → (p : Node) → has paths p ≡ (above cs p && not (names cs p))) → IsSum s → AddsClaims old new l s
adds old mid new l s touched paths first then' same over sum = record {
  once = subst (λ ts. AreUnique (map (claim_touched l) ts ++ map (claim_above l) paths)) (sym (same ∙ sum.stands.touched)) (part_once l sum.log paths (over sum.log sum.stands));
  part = map (claim_touched l) touched ++ map (claim_above l) paths;
  is = then' ∙ ap (λ m. m ++ map (claim_above l) paths) first ∙ append_assoc old (map (claim_touched l) touched) (map (claim_above l) paths);
  of = λ cs st. subst (λ ts. AreClaimsOf l cs (map (claim_touched l) ts ++ map (claim_above l) paths)) (sym (same ∙ st.touched)) (of_log l cs paths (over cs st));
}

pub map_self : {X : Type 0} (xs : List X) → map (λ (x : X). x) xs ≡ xs
map_self [] = refl
map_self (x ∷ xs) = ap (λ l. x ∷ l) (map_self xs)

-- ---- one log more

each_snoc : (sums : List Sum) (s : Sum) (logs : List (List Change)) (cs : List Change) → EachStandsFor sums logs → StandsFor s cs → EachStandsFor (sums ++ s ∷ []) (logs ++ cs ∷ [])
each_snoc [] s [] cs h st = (st, tt)
each_snoc [] s (ds ∷ logs) cs h st = absurd h
each_snoc (u ∷ sums) s [] cs h st = absurd h
each_snoc (u ∷ sums) s (ds ∷ logs) cs h st = (h.0, each_snoc sums s logs cs h.1 st)

record IsSplit (sums : List Sum) (s : Sum) (logs : List (List Change)) : Type 0 where
  prefix : List (List Change)
  last : List Change
  is : logs ≡ prefix ++ last ∷ []
  stand : EachStandsFor sums prefix
  own : StandsFor s last

each_split : (sums : List Sum) (s : Sum) (logs : List (List Change)) → EachStandsFor (sums ++ s ∷ []) logs → IsSplit sums s logs
each_split [] s [] h = absurd h
each_split [] s (ds ∷ []) h = record { prefix = []; last = ds; is = refl; stand = tt; own = h.0 }
each_split [] s (ds ∷ (es ∷ logs)) h = absurd h.1
each_split (u ∷ sums) s [] h = absurd h
each_split (u ∷ sums) s (ds ∷ logs) h = let r = each_split sums s logs h.1 in record { prefix = ds ∷ r.prefix; last = r.last; is = ap (λ l. ds ∷ l) r.is; stand = (h.0, r.stand); own = r.own }

pub each_length : (sums : List Sum) (logs : List (List Change)) → EachStandsFor sums logs → length logs ≡ length sums
each_length [] [] h = refl
each_length [] (ds ∷ logs) h = absurd h
each_length (u ∷ sums) [] h = absurd h
each_length (u ∷ sums) (ds ∷ logs) h = ap suc (each_length sums logs h.1)

prefix_at : (logs : List (List Change)) (cs : List Change) (i : ℕ) → i < length logs → log_at (logs ++ cs ∷ []) i ≡ log_at logs i
prefix_at [] cs i low = absurd (omega arith)
prefix_at (ds ∷ logs) cs zero low = refl
prefix_at (ds ∷ logs) cs (suc i) low = prefix_at logs cs i (omega arith)

last_at : (logs : List (List Change)) (cs : List Change) (i : ℕ) → i ≡ length logs → log_at (logs ++ cs ∷ []) i ≡ cs
last_at [] cs zero e = refl
last_at [] cs (suc i) e = absurd (omega arith)
last_at (ds ∷ logs) cs zero e = absurd (omega arith)
last_at (ds ∷ logs) cs (suc i) e = last_at logs cs i (omega arith)

beyond : (logs : List (List Change)) (cs : List Change) (i : ℕ) → length logs < i → log_at (logs ++ cs ∷ []) i ≡ []
beyond [] cs zero e = absurd (omega arith)
beyond [] cs (suc i) e = refl
beyond (ds ∷ logs) cs zero e = absurd (omega arith)
beyond (ds ∷ logs) cs (suc i) e = beyond logs cs i (omega arith)

claims_more : (old new : List Claim) (prefix : List (List Change)) (cs : List Change) (l : ℕ) (s : Sum) → l ≡ length prefix → AreClaims old prefix → AddsClaims old new l s → StandsFor s cs → AreClaims new (prefix ++ cs ∷ [])
claims_more old new prefix cs l s is are adds st = subst (λ x. AreClaims x (prefix ++ cs ∷ [])) (sym adds.is) (record { sound = sound; complete = complete })
  where
    own : AreClaimsOf l cs adds.part
    own = adds.of cs st

    more : length (prefix ++ cs ∷ []) ≡ length prefix + 1
    more = length-append prefix (cs ∷ [])

    sound : (k : ℕ) (c : Claim) → slice_get (old ++ adds.part) k ≡ Some c → (c.log < length (prefix ++ cs ∷ [])) × (said (log_at (prefix ++ cs ∷ []) c.log) c.path ≡ Some c.says)
    sound k c e = go (append_split old adds.part k c e)
      where
        go : (slice_get old k ≡ Some c) ⊎ ((j : ℕ) × (slice_get adds.part j ≡ Some c)) → (c.log < length (prefix ++ cs ∷ [])) × (said (log_at (prefix ++ cs ∷ []) c.log) c.path ≡ Some c.says)
        go (inl h) = let a = are.sound k c h in let low : c.log < length prefix = a.0 in (omega (arith, more), ap (λ ds. said ds c.path) (prefix_at prefix cs c.log low) ∙ a.1)
        go (inr h) = let a = own.sound h.0 c h.1 in let at : c.log ≡ length prefix = a.0 ∙ is in (omega (arith, more), ap (λ ds. said ds c.path) (last_at prefix cs c.log at) ∙ a.1)

    complete : (i : ℕ) (p : Node) (u : Statement) → said (log_at (prefix ++ cs ∷ []) i) p ≡ Some u → (k : ℕ) × (slice_get (old ++ adds.part) k ≡ Some (record { path = p; log = i; says = u }))
    complete i p u e = go (cases_lt i (length prefix))
      where
        late : (length prefix < i) ⊎ (i ≤ length prefix) → length prefix ≤ i → (k : ℕ) × (slice_get (old ++ adds.part) k ≡ Some (record { path = p; log = i; says = u }))
        late (inl h) low = let none : said (log_at (prefix ++ cs ∷ []) i) p ≡ None = ap (λ ds. said ds p) (beyond prefix cs i h) in cc (none, e)
        late (inr h) low = let at : i ≡ length prefix = omega arith in let a = own.complete p u (ap (λ ds. said ds p) (sym (last_at prefix cs i at)) ∙ e) in let b = append_right old adds.part a.0 _ a.1 in (b.0, b.1 ∙ ap (λ n. Some (record { path = p; log = n; says = u })) (is ∙ sym at))

        go : (i < length prefix) ⊎ (length prefix ≤ i) → (k : ℕ) × (slice_get (old ++ adds.part) k ≡ Some (record { path = p; log = i; says = u }))
        go (inl h) = let a = are.complete i p u (ap (λ ds. said ds p) (sym (prefix_at prefix cs i h)) ∙ e) in (a.0, append_left old adds.part a.0 _ a.1)
        go (inr h) = late (cases_lt (length prefix) i) h

-- what the claims of the sums so far are
pub record Gathers (done : List Sum) (got : List Claim) (count : ℕ) : Type 0 where
  pub log : count ≡ length done
  pub sums : AreSums done
  pub claims : (logs : List (List Change)) → EachStandsFor done logs → AreClaims got logs
  pub once : AreUnique got

pub gathers_none : Gathers [] [] 0
gathers_none = record { log = refl; sums = record { logs = []; stand = tt }; claims = λ logs h. none logs h; once = λ i j c d e f l p t. cc (e) }
  where
    none : (logs : List (List Change)) → EachStandsFor [] logs → AreClaims [] logs
    none [] h = record { sound = λ k c e. cc (e); complete = λ l p s e. cc (e) }
    none (cs ∷ logs) h = absurd h

pub gathers_more : (done : List Sum) (s : Sum) (old new : List Claim) (l : ℕ) → Gathers done old l → IsSum s → AddsClaims old new l s → Gathers (done ++ s ∷ []) new (l + 1)
gathers_more done s old new l g i adds = record {
  log = omega (arith, length-append done (s ∷ []), g.log);
  sums = record { logs = g.sums.logs ++ i.log ∷ []; stand = each_snoc done s g.sums.logs i.log g.sums.stand i.stands };
  claims = λ logs h. by logs (each_split done s logs h);
  once = subst AreUnique (sym adds.is) once;
}
  where
    own : AreClaimsOf l i.log adds.part
    own = adds.of i.log i.stands

    low : (k : ℕ) (c : Claim) → slice_get old k ≡ Some c → c.log < l
    low k c e = let a : c.log < length g.sums.logs = ((g.claims g.sums.logs g.sums.stand).sound k c e).0 in let b : length g.sums.logs ≡ length done = each_length done g.sums.logs g.sums.stand in omega (arith, g.log)

    once : AreUnique (old ++ adds.part)
    once i' j c d e f lg p t = go (append_at old adds.part i' c e) (append_at old adds.part j d f)
      where
        go : ((i' < length old) × (slice_get old i' ≡ Some c)) ⊎ ((k : ℕ) × (i' ≡ length old + k) × (slice_get adds.part k ≡ Some c)) → ((j < length old) × (slice_get old j ≡ Some d)) ⊎ ((k : ℕ) × (j ≡ length old + k) × (slice_get adds.part k ≡ Some d)) → i' ≡ j
        go (inl a) (inl b) = g.once i' j c d a.1 b.1 lg p t
        go (inl a) (inr b) = let x : c.log < l = low i' c a.1 in let y : d.log ≡ l = (own.sound b.0 d b.2).0 in absurd (omega arith)
        go (inr a) (inl b) = let x : d.log < l = low j d b.1 in let y : c.log ≡ l = (own.sound a.0 c a.2).0 in absurd (omega arith)
        go (inr a) (inr b) = let s' : a.0 ≡ b.0 = adds.once a.0 b.0 c d a.2 b.2 lg p t in let x : i' ≡ length old + a.0 = a.1 in let y : j ≡ length old + b.0 = b.1 in omega arith

    by : (logs : List (List Change)) → IsSplit done s logs → AreClaims new logs
    by logs r = subst (λ x. AreClaims new x) (sym r.is) (claims_more old new r.prefix r.last l s (g.log ∙ sym (each_length done r.prefix r.stand)) (g.claims r.prefix r.stand) adds r.own)

-- ---- claims of the logs are closed under parents

said_up : (cs : List Change) (p q : Node) (s : Statement) → parent p ≡ Some q → said cs p ≡ Some s → (u : Statement) × (said cs q ≡ Some u)
said_up cs p q s up e = go (said cs q) refl
  where
    over : (o : Option Change) → command_at (touches cs) p ≡ o → (b : Bool) → above cs p ≡ b → said_of o (leaves cs p) b ≡ Some s → above cs q ≡ true
    over (Some d) f b g h = above_named cs p q (named_touch cs p d f) (under_parent q p up)
    over None f true g h = above_up cs p q g up
    over None f false g h = cc (h)

    some : above cs q ≡ true → (o : Option Change) → (b : Bool) → above cs q ≡ b → said_of o (leaves cs q) b ≡ None → ⊥
    some a (Some d) b f h = cc (h)
    some a None true f h = cc (h)
    some a None false f h = cc (a, f)

    go : (o : Option Statement) → said cs q ≡ o → (u : Statement) × (said cs q ≡ Some u)
    go (Some u) f = (u, f)
    go None f = absurd (some (over (command_at (touches cs) p) refl (above cs p) refl e) (command_at (touches cs) q) (above cs q) refl f)

pub are_closed : (claims : List Claim) (logs : List (List Change)) → AreClaims claims logs → AreClosed claims
are_closed claims logs are k c q at up = let h = said_up (log_at logs c.log) c.path q c.says up (are.sound k c at).1 in let f = are.complete c.log q h.0 h.1 in (f.0, _, f.1, refl)

-- ---- claims that only change places stay once

abbrev Origin : List Claim → ℕ → ℕ → ℕ → Claim → Type 0
Origin l a b k x = ((k ≡ b) × (slice_get l a ≡ Some x)) ⊎ (((k ≡ b → ⊥) × (k ≡ a) × (slice_get l b ≡ Some x)) ⊎ ((k ≡ b → ⊥) × (k ≡ a → ⊥) × (slice_get l k ≡ Some x)))

origin : (l : List Claim) (a b : ℕ) → a < length l → b < length l → (k : ℕ) (x : Claim) → slice_get (swap l a b) k ≡ Some x → Origin l a b k x
origin [] a b low high k x e = cc (e)
origin (d ∷ ys) a b low high k x e = go (set_at (slice_set (d ∷ ys) a (get_or (d ∷ ys) b d)) b k (get_or (d ∷ ys) a d) x e)
  where
    go : ((k ≡ b) × (x ≡ get_or (d ∷ ys) a d)) ⊎ ((k ≡ b → ⊥) × (slice_get (slice_set (d ∷ ys) a (get_or (d ∷ ys) b d)) k ≡ Some x)) → Origin (d ∷ ys) a b k x
    go (inl h) = inl (h.0, slice_get-get_or (d ∷ ys) a d low ∙ ap Some (sym h.1))
    go (inr h) = inr (by (set_at (d ∷ ys) a k (get_or (d ∷ ys) b d) x h.1))
      where
        by : ((k ≡ a) × (x ≡ get_or (d ∷ ys) b d)) ⊎ ((k ≡ a → ⊥) × (slice_get (d ∷ ys) k ≡ Some x)) → ((k ≡ b → ⊥) × (k ≡ a) × (slice_get (d ∷ ys) b ≡ Some x)) ⊎ ((k ≡ b → ⊥) × (k ≡ a → ⊥) × (slice_get (d ∷ ys) k ≡ Some x))
        by (inl g) = inl (h.0, g.0, slice_get-get_or (d ∷ ys) b d high ∙ ap Some (sym g.1))
        by (inr g) = inr (h.0, g.0, g.1)

swap_once : (l : List Claim) (a b : ℕ) → a < length l → b < length l → AreUnique l → AreUnique (swap l a b)
swap_once l a b low high once i j c d e f lg p t = go (origin l a b low high i c e) (origin l a b low high j d f)
  where
    at : (m n : ℕ) → slice_get l m ≡ Some c → slice_get l n ≡ Some d → m ≡ n
    at m n g h = once m n c d g h lg p t

    go : Origin l a b i c → Origin l a b j d → i ≡ j
    go (inl g) (inl h) = g.0 ∙ sym h.0
    go (inl g) (inr (inl h)) = let s : a ≡ b = at a b g.1 h.2 in g.0 ∙ sym s ∙ sym h.1
    go (inl g) (inr (inr h)) = let s : a ≡ j = at a j g.1 h.2 in absurd (h.1 (sym s))
    go (inr (inl g)) (inl h) = let s : b ≡ a = at b a g.2 h.1 in g.1 ∙ sym s ∙ sym h.0
    go (inr (inl g)) (inr (inl h)) = g.1 ∙ sym h.1
    go (inr (inl g)) (inr (inr h)) = let s : b ≡ j = at b j g.2 h.2 in absurd (h.0 (sym s))
    go (inr (inr g)) (inl h) = let s : i ≡ a = at i a g.2 h.1 in absurd (g.1 s)
    go (inr (inr g)) (inr (inl h)) = let s : i ≡ b = at i b g.2 h.2 in absurd (g.0 s)
    go (inr (inr g)) (inr (inr h)) = at i j g.2 h.2

pub permuted_unique : (xs ys : List Claim) → IsPermutation xs ys → AreUnique xs → AreUnique ys
permuted_unique xs ys moved once = IsPermutation-keeps xs AreUnique once swap_once ys moved

cmp_refl : (p : Node) → path_cmp p p ≡ Equal
unfolding same_path
cmp_refl p = go (path_cmp p p) (same_path_refl p)
  where
    go : (o : Ordering) → is_eq o ≡ true → o ≡ Equal
    go Less e = cc (e)
    go Equal e = refl
    go Greater e = cc (e)

below : (a b : ℕ) → a < b → is_lt (nat_cmp a b) ≡ false → ⊥
below a b less e = let f : is_lt (nat_cmp a b) ≡ true = grind (arith, nat_tests) in cc (e, f)

-- claims of one node are by log
by_logs : (claims : List Claim) → IsSortedBy (λ c d. is_lt (claim_cmp c d)) claims → (i j : ℕ) (c d : Claim) → i < j → slice_get claims i ≡ Some c → slice_get claims j ≡ Some d → c.path ≡ d.path → c.log ≤ d.log
by_logs claims sorted i j c d less at there same = go (cases_lt d.log c.log)
  where
    far : is_lt (claim_cmp d c) ≡ false
    far = ap (λ x. is_lt (claim_cmp x c)) (sym (get_or_from_slice_get claims j d c there)) ∙ ap (λ x. is_lt (claim_cmp (get_or claims j c) x)) (sym (get_or_from_slice_get claims i c c at)) ∙
        sorted_far (λ c d. is_lt (claim_cmp c d)) claims_order claims sorted i j c (omega arith) (slice_get_within claims j d there)

    equal : path_cmp d.path c.path ≡ Equal
    equal = ap (path_cmp d.path) same ∙ cmp_refl d.path

    go : (d.log < c.log) ⊎ (c.log ≤ d.log) → c.log ≤ d.log
    go (inr low) = low
    go (inl high) = let e : is_lt (ordering_then (path_cmp d.path c.path) (nat_cmp d.log c.log)) ≡ false = far in
        let f : is_lt (nat_cmp d.log c.log) ≡ false = sym (ap (λ o. is_lt (ordering_then o (nat_cmp d.log c.log))) equal) ∙ e in absurd (below d.log c.log high f)

pub are_ordered : (xs ys : List Claim) → IsPermutation xs ys → IsSortedBy (λ c d. is_lt (claim_cmp c d)) ys → AreUnique xs → AreOrdered ys
are_ordered xs ys moved sorted once = record { sorted = are_sorted ys sorted; unique = permuted_unique xs ys moved once; logs = by_logs ys sorted }
