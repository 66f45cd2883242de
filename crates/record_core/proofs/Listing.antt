-- The walk over a subtree by one stack.
use Rattle.std.proofs.Common.{◌≡◌, inl, inr, ℕ, suc, ◌<◌, List, [], ◌∷◌, ◌++◌, length, length-append, Bool, true, false, not, Option, Some, None, refl, sym, ap, subst, ◌∙◌, arith, append_assoc, append-nil}
use Rattle.std.specs.Prelude.{Result}
use Rattle.std.specs.List.{All, AllByRecursion, flat_map}
use Rattle.std.specs.Bool.{◌==◌}
use Rattle.std.proofs.lemmas.Bool.{eqb-true}
use Rattle.std.proofs.lemmas.Grind.{flat_map-append}
use Rattle.std.proofs.lemmas.List.Elements.{All-append, All-cons, All-push, All-weaker}
use Rattle.sync_path.specs.Paths.{Node, IsUnder, parent, same_path}
use Rattle.sync_path.proofs.CallerLemmas.{IsUnder-parent, same_path_refl}
use Rattle.sync_command.specs.Maps.{IsTreeMap, Store, at}
use Rattle.sync_command.specs.Values.{is_dir, is_empty}
use Rattle.tree_port.specs.States.{IfHeld, NoneFell, TreeState}
use Rattle.tree_port.specs.Conditions.{AreBelow, AreChildren}
use Rattle.record_core.specs.declared.faults.RecordFault.{RecordFault}
use Rattle.record_core.specs.Meanings.{backwards, has_child, nodes_of, subtree}
use Rattle.record_core.specs.Reading.{ReadsTree}
use Rattle.record_core.specs.Steps.{IsAtOrUnder}
use Rattle.record_core.proofs.Ascending.{has, of_has, or_left, or_right}
use Rattle.record_core.proofs.SubtreeLemmas.{has_child_is, no_children, subtree_step}
use Rattle.record_core.proofs.Walks.{fell_on, none_fell}

pub backwards-append : {A : Type 0} (a b : List A) → backwards (a ++ b) ≡ backwards b ++ backwards a
backwards-append [] b = sym (append-nil (backwards b))
backwards-append (x ∷ a) b = ap (λ l. l ++ x ∷ []) (backwards-append a b) ∙ append_assoc (backwards b) (backwards a) (x ∷ [])

pub backwards-twice : {A : Type 0} (a : List A) → backwards (backwards a) ≡ a
backwards-twice [] = refl
backwards-twice (x ∷ a) = backwards-append (backwards a) (x ∷ []) ∙ ap (λ l. x ∷ l) (backwards-twice a)

-- the nodes are not empty
abbrev pub AreFull : Store → List Node → Type 0
AreFull m ns = AllByRecursion (λ n. is_empty (at m n) ≡ false) ns

-- the subtrees of some nodes, one after another
abbrev pub subtrees : Store → List Node → List Node
subtrees m ns = flat_map (subtree (nodes_of m)) ns

-- what was found, and the subtrees of the nodes on the stack, from its top, make up the subtree
pub record IsRest (m : Store) (p : Node) (found stack : List Node) : Type 0 where
  pub full : AreFull m stack
  pub whole : subtree (nodes_of m) p ≡ found ++ subtrees m (backwards stack)

pub record IsListed (p : Node) (t u : TreeState) (found stack : List Node) : Type 0 where
  pub later : NoneFell t.counts u.counts
  pub contents : u.contents ≡ t.contents
  pub found_below : All (IsAtOrUnder p) found
  pub stack_below : All (IsAtOrUnder p) stack
  pub known : IfHeld t.contents (λ m. IsRest m p found stack)

full_append : (m : Store) (a b : List Node) → AreFull m a → AreFull m b → AreFull m (a ++ b)
full_append m [] b f g = g
full_append m (x ∷ a) b f g = (f.0, full_append m a b f.1 g)

full_parts : (m : Store) (a b : List Node) → AreFull m (a ++ b) → AreFull m a × AreFull m b
full_parts m [] b f = (tt, f)
full_parts m (x ∷ a) b f = let r = full_parts m a b f.1 in ((f.0, r.0), r.1)

full_backwards : (m : Store) (a : List Node) → AreFull m a → AreFull m (backwards a)
full_backwards m [] f = tt
full_backwards m (x ∷ a) f = full_append m (backwards a) (x ∷ []) (full_backwards m a f.1) (f.0, tt)

full_from : (m : Store) (ns : List Node) → ((c : Node) → has ns c ≡ true → is_empty (at m c) ≡ false) → AreFull m ns
full_from m [] f = tt
full_from m (x ∷ ns) f = (f x (or_left (same_path x x) (has ns x) (same_path_refl x)), full_from m ns (λ c h. f c (or_right (same_path c x) (has ns c) h)))

pub begins_rest : (m : Store) (p : Node) → is_empty (at m p) ≡ false → IsRest m p [] (p ∷ [])
begins_rest m p full = record { full = (full, tt); whole = sym (append-nil (subtree (nodes_of m) p)) }

pub rest_on : (m : Store) → IsTreeMap m → (p : Node) (found stack : List Node) (next : Node) (ch : List Node) → AreChildren (at m) (Some next) ch → AreBelow (Some next) ch → IsRest m p found (stack ++ next ∷ []) → IsRest m p (found ++ next ∷ []) (stack ++ backwards ch)
rest_on m tree p found stack next ch are below r =
    let parts = full_parts m stack (next ∷ []) r.full in
    record {
      full = full_append m stack (backwards ch) parts.0 (full_backwards m ch (full_from m ch (λ c h. ((are c).0 (of_has ch c h)).1)));
      whole = r.whole ∙ ap (λ s. found ++ subtrees m s) (backwards-append stack (next ∷ []))
          ∙ ap (λ s. found ++ (s ++ subtrees m (backwards stack))) (subtree_step m tree next ch parts.1.0 are below)
          ∙ ap (λ s. found ++ (next ∷ s)) (sym (flat_map-append (subtree (nodes_of m)) ch (backwards stack)))
          ∙ ap (λ s. found ++ (next ∷ subtrees m (s ++ backwards stack))) (sym (backwards-twice ch))
          ∙ ap (λ s. found ++ (next ∷ subtrees m s)) (sym (backwards-append stack (backwards ch)))
          ∙ sym (append_assoc found (next ∷ []) (subtrees m (backwards (stack ++ backwards ch))));
    }

under_next : (p n c : Node) → IsAtOrUnder p n → parent c ≡ Some n → IsAtOrUnder p c
under_next p n c (inl e) up = inr (subst (λ q. IsUnder c q) e (IsUnder-parent c n up))
under_next p n c (inr u) up = inr (deeper (IsUnder-parent c n up))
  where
    deeper : IsUnder c n → IsUnder c p
    deeper v = (u.0 ++ v.0, longer u.0 v.0 u.1, v.2 ∙ ap (λ x. x ++ v.0) u.2 ∙ append_assoc p u.0 v.0)
      where
        longer : (a b : List (List ℕ)) → 0 < length a → 0 < length (a ++ b)
        longer a b h = let l = length-append a b in omega (arith, l)

pub children_under : (p n : Node) (ch : List Node) → IsAtOrUnder p n → All (λ c. parent c ≡ Some n) ch → All (IsAtOrUnder p) ch
children_under p n ch at below = All-weaker (λ c. parent c ≡ Some n) (IsAtOrUnder p) (λ c e. under_next p n c at e) ch below

all_backwards : (P : Node → Type 0) (ns : List Node) → All P ns → All P (backwards ns)
all_backwards P [] h = h
all_backwards P (x ∷ ns) h = All-push P (backwards ns) x (all_backwards P ns (λ k d low. h (suc k) d (omega arith))) (h 0 x (omega arith))

held_step : {P Q R S : Store → Type 0} (t : Option Store) → IfHeld t P → IfHeld t Q → IfHeld t R → ((m : Store) → P m → Q m → R m → S m) → IfHeld t S
held_step None p q r f = tt
held_step (Some m) p q r f = f m p q r

pub listing_begins : (p : Node) (t : TreeState) → IfHeld t.contents (λ m. IsTreeMap m × (is_empty (at m p) ≡ false)) → IsListed p t t [] (p ∷ [])
listing_begins p t h = record {
  later = none_fell t.counts;
  contents = refl;
  found_below = λ k d low. absurd (omega (arith, low));
  stack_below = All-push (IsAtOrUnder p) [] p (λ k d low. absurd (omega (arith, low))) (inl refl);
  known = held_step t.contents h h h (λ m a b c. begins_rest m p a.1);
}

pub listing_on : {T : Type 0} (r : Result T RecordFault) (p : Node) (t u v : TreeState) (found stack old more next_found : List Node) (next : Node) (ch : List Node) → IfHeld t.contents IsTreeMap → IsListed p t u found old → old ≡ stack ++ next ∷ []
    → ReadsTree r u v → AreBelow (Some next) ch → IfHeld u.contents (λ m. AreChildren (at m) (Some next) ch) → more ≡ stack ++ backwards ch → next_found ≡ found ++ next ∷ [] → IsListed p t v next_found more
listing_on r p t u v found stack old more next_found next ch trees is popped reads below children pushed added =
    let parts : All (IsAtOrUnder p) (stack ++ next ∷ []) = subst (All (IsAtOrUnder p)) popped is.stack_below in
    let here : IsAtOrUnder p next = last stack next parts in
    record {
      later = fell_on t.counts u.counts v.counts is.later reads.later;
      contents = reads.contents ∙ is.contents;
      found_below = subst (All (IsAtOrUnder p)) (sym added) (All-push (IsAtOrUnder p) found next is.found_below here);
      stack_below = subst (All (IsAtOrUnder p)) (sym pushed) (All-append (IsAtOrUnder p) stack (backwards ch) (prefix stack next parts) (all_backwards (IsAtOrUnder p) ch (children_under p next ch here below.parents)));
      known = held_step t.contents trees is.known (subst (λ c. IfHeld c (λ m. AreChildren (at m) (Some next) ch)) is.contents children)
          (λ m tree rest are. subst (λ s. IsRest m p s more) (sym added) (subst (IsRest m p (found ++ next ∷ [])) (sym pushed) (rest_on m tree p found stack next ch are below (subst (IsRest m p found) popped rest))));
    }
  where
    last : (stack : List Node) (next : Node) → All (IsAtOrUnder p) (stack ++ next ∷ []) → IsAtOrUnder p next
    last [] next h = h 0 next (omega arith)
    last (x ∷ stack) next h = last stack next (λ k d low. h (suc k) d (omega arith))

    prefix : (stack : List Node) (next : Node) → All (IsAtOrUnder p) (stack ++ next ∷ []) → All (IsAtOrUnder p) stack
    prefix stack next h = go stack h
      where
        go : (s : List Node) → All (IsAtOrUnder p) (s ++ next ∷ []) → All (IsAtOrUnder p) s
        go [] h = λ k d low. absurd (omega (arith, low))
        go (x ∷ s) h = All-cons (IsAtOrUnder p) x s (h 0 x (omega arith)) (go s (λ k d low. h (suc k) d (omega arith)))

pub listing_done : (p : Node) (t u : TreeState) (found stack : List Node) → stack ≡ [] → IsListed p t u found stack → IfHeld t.contents (λ m. found ≡ subtree (nodes_of m) p)
listing_done p t u found stack none is = held_step t.contents is.known is.known is.known (λ m r a b. sym (r.whole ∙ ap (λ s. found ++ subtrees m (backwards s)) none ∙ append-nil found))

-- what is no directory has no children
pub no_children_known : (t : Option Store) (p : Node) (b : Bool) (found : List Node) → IfHeld t IsTreeMap → IfHeld t (λ m. b ≡ is_dir (at m p)) → b ≡ false → found ≡ [] → IfHeld t (λ m. AreChildren (at m) (Some p) found)
no_children_known t p b found trees dir e none = held_step t trees dir dir (λ m tree d d'. subst (AreChildren (at m) (Some p)) (sym none) (no_children m p tree (sym d ∙ e)))

pub none_below : (p : Node) (found : List Node) → found ≡ [] → AreBelow (Some p) found
none_below p found e = subst (AreBelow (Some p)) (sym e) (record { order = λ i j d low high. absurd (omega (arith, high)); parents = λ k d low. absurd (omega (arith, low)) })

pub held_first : (t : Option Store) (p : Node) → IfHeld t (λ m. IsTreeMap m × (is_empty (at m p) ≡ false)) → IfHeld t IsTreeMap
held_first None p h = tt
held_first (Some m) p h = h.0

pub has_child_known : (t : Option Store) (p : Node) (found : List Node) (b : Bool) → IfHeld t IsTreeMap → IfHeld t (λ m. AreChildren (at m) (Some p) found) → b ≡ (length found == 0) → IfHeld t (λ m. not b ≡ has_child (nodes_of m) p)
has_child_known t p found b trees are e = held_step t trees are are (λ m tree a a'. has_child_is m tree p found a b (none found b e) (is_none found b e))
  where
    none : (l : List Node) (b : Bool) → b ≡ (length l == 0) → b ≡ true → l ≡ []
    none [] b e t = refl
    none (x ∷ l) b e t = absurd (longer (length l) (sym e ∙ t))
      where
        longer : (k : ℕ) → (suc k == 0) ≡ true → ⊥
        longer k e = let h = eqb-true (suc k) 0 e in omega (arith, h)

    is_none : (l : List Node) (b : Bool) → b ≡ (length l == 0) → l ≡ [] → b ≡ true
    is_none l b e n = e ∙ ap (λ l. length l == 0) n
