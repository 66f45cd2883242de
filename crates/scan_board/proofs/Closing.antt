-- What a walk down closes.
use Rattle.std.proofs.Common.{◌≡◌, ℕ, zero, suc, ◌<◌, Bool, true, false, refl, ap, sym, subst, ◌∙◌, arith, ◌⊎◌, inl, inr, List, Option, Some, None}
use Rattle.std.specs.Prelude.{unwrap_or, [], ◌∷◌, ◌++◌}
use Rattle.sync_command.specs.declared.values.Kind.TheVariants.{Empty}
use Rattle.scan_board.specs.declared.board.Mark.{Mark}
use Rattle.scan_board.specs.declared.board.Mark.TheVariants.{Open, Blocked}
use Rattle.scan_board.specs.Tables.{Tables, State, IsBoard, is_open, is_open_mark, mark_of, node_of, leaves_of, command_count, node_count, is_bare, parent_of, child_of, sibling_of}
use Rattle.scan_board.specs.Turns.{Grows, IsIn, up, IsAtOrUnder, IsUnderNode, IsClosedBelow, IsPiled, IsDeep, ChangesBelow}

-- the children have been walked up to the next one, or all
pub record IsChildWalk (s r : State) (n : ℕ) (next : Option ℕ) : Type 0 where
  pub closed : (i : ℕ) → i < command_count s.tables → parent_of s.tables (node_of s.tables i) ≡ Some n → node_of s.tables i < unwrap_or next (node_count s.tables) → (leaves_of s.tables i ≡ Empty → ⊥) → is_open r i ≡ false
  pub others : ChangesBelow s r n
  pub piled : (m : ℕ) → m < node_count s.tables → parent_of s.tables m ≡ Some n → m < unwrap_or next (node_count s.tables) → IsIn r.pile m
  pub kept : (m : ℕ) → IsIn s.pile m → IsIn r.pile m

pub in_push : (xs : List ℕ) (x m : ℕ) → IsIn xs m → IsIn (xs ++ x ∷ []) m
in_push [] x m h = absurd h
in_push (y ∷ xs) x m (inl e) = inl e
in_push (y ∷ xs) x m (inr h) = inr (in_push xs x m h)

pub in_last : (xs : List ℕ) (x : ℕ) → IsIn (xs ++ x ∷ []) x
in_last [] x = inl refl
in_last (y ∷ xs) x = inr (in_last xs x)

pub in_split : (xs : List ℕ) (x m : ℕ) → IsIn (xs ++ x ∷ []) m → IsIn xs m ⊎ (m ≡ x)
in_split [] x m (inl e) = inr e
in_split [] x m (inr h) = absurd h
in_split (y ∷ xs) x m (inl e) = inl (inl e)
in_split (y ∷ xs) x m (inr h) = go (in_split xs x m h)
  where
    go : IsIn xs m ⊎ (m ≡ x) → (IsIn (y ∷ xs) m) ⊎ (m ≡ x)
    go (inl a) = inl (inr a)
    go (inr b) = inr b

closed_mark : (a b : Mark) → (b ≡ a) ⊎ ((a ≡ Open) × (b ≡ Blocked)) → is_open_mark a ≡ false → is_open_mark b ≡ false
closed_mark a b (inl e) h = ap is_open_mark e ∙ h
closed_mark a b (inr e) h = ap is_open_mark e.1

pub grows_closed : (s r : State) (i : ℕ) → Grows s r → i < command_count s.tables → is_open s i ≡ false → is_open r i ≡ false
grows_closed s r i g l h = closed_mark (mark_of s i) (mark_of r i) (g i l) h

three : (m k e : ℕ) → m < e → (m < k) ⊎ ((m ≡ k) ⊎ (k < m))
three m k e l = grind arith

pub child_start : (s : State) (n : ℕ) (first : Option ℕ) → IsBoard s → n < node_count s.tables → first ≡ child_of s.tables n → IsChildWalk s s n first
child_start s n first h l e = record {
  closed = (λ i a p b x. absurd (h.sound.child_least n (node_of s.tables i) l (subst (λ o. node_of s.tables i < unwrap_or o (node_count s.tables)) e b) p));
  others = (λ i a b. refl);
  piled = (λ m a p b. absurd (h.sound.child_least n m l (subst (λ o. m < unwrap_or o (node_count s.tables)) e b) p));
  kept = (λ m a. a);
}

pub child_step : (s r u : State) (n k : ℕ) (old next : Option ℕ) → IsBoard s → r.tables ≡ s.tables → old ≡ Some k → k < node_count s.tables → parent_of s.tables k ≡ Some n → IsChildWalk s r n old → next ≡ sibling_of r.tables k →
    u.pile ≡ r.pile ++ k ∷ [] → Grows r u → ((i : ℕ) → i < command_count r.tables → node_of r.tables i ≡ k → (leaves_of r.tables i ≡ Empty → ⊥) → is_open u i ≡ false) →
    ((i : ℕ) → i < command_count r.tables → (node_of r.tables i ≡ k → ⊥) → mark_of u i ≡ mark_of r i) → IsChildWalk s u n next
child_step s r u n k old next h t o inside own w e piled grows closed others = record {
  closed = (λ i a p b x. shut i a p x (three (node_of s.tables i) k _ b) b);
  others = (λ i a b. others i (in_r i a) (λ x. b (ap (parent_of s.tables) (sym (node_r i) ∙ x) ∙ own)) ∙ w.others i a b);
  piled = (λ m a p b. put m a p (three m k _ b) b);
  kept = (λ m a. subst (λ xs. IsIn xs m) (sym piled) (in_push r.pile k m (w.kept m a)));
}
  where
    v : IsChildWalk s r n (Some k)
    v = subst (λ x. IsChildWalk s r n x) o w

    is : next ≡ sibling_of s.tables k
    is = e ∙ ap (λ (x : Tables). sibling_of x k) t

    in_r : (i : ℕ) → i < command_count s.tables → i < command_count r.tables
    in_r i a = subst (λ (x : Tables). i < command_count x) (sym t) a

    node_r : (i : ℕ) → node_of r.tables i ≡ node_of s.tables i
    node_r i = ap (λ (x : Tables). node_of x i) t

    gap : (m : ℕ) → parent_of s.tables m ≡ Some n → k < m → m < unwrap_or next (node_count s.tables) → ⊥
    gap m p a b = h.sound.sibling_least k m n inside a (subst (λ x. m < unwrap_or x (node_count s.tables)) (e ∙ ap (λ (x : Tables). sibling_of x k) t) b) own p

    shut : (i : ℕ) → i < command_count s.tables → parent_of s.tables (node_of s.tables i) ≡ Some n → (leaves_of s.tables i ≡ Empty → ⊥) →
        (node_of s.tables i < k) ⊎ ((node_of s.tables i ≡ k) ⊎ (k < node_of s.tables i)) → node_of s.tables i < unwrap_or next (node_count s.tables) → is_open u i ≡ false
    shut i a p x (inl below) b = grows_closed r u i grows (in_r i a) (v.closed i a p below x)
    shut i a p x (inr (inl here)) b = closed i (in_r i a) (node_r i ∙ here) (λ y. x (sym (ap (λ (w : Tables). leaves_of w i) t) ∙ y))
    shut i a p x (inr (inr above)) b = absurd (gap (node_of s.tables i) p above b)

    put : (m : ℕ) → m < node_count s.tables → parent_of s.tables m ≡ Some n → (m < k) ⊎ ((m ≡ k) ⊎ (k < m)) → m < unwrap_or next (node_count s.tables) → IsIn u.pile m
    put m a p (inl below) b = subst (λ xs. IsIn xs m) (sym piled) (in_push r.pile k m (v.piled m a p below))
    put m a p (inr (inl here)) b = subst (λ xs. IsIn xs m) (sym piled) (subst (λ x. IsIn (r.pile ++ k ∷ []) x) (sym here) (in_last r.pile k))
    put m a p (inr (inr above)) b = absurd (gap m p above b)

pub child_ends : (s r : State) (n : ℕ) (next : Option ℕ) → IsBoard s → r.tables ≡ s.tables → next ≡ None → IsChildWalk s r n next →
    IsClosedBelow r n × ChangesBelow s r n × IsPiled r n × ((m : ℕ) → IsIn s.pile m → IsIn r.pile m)
child_ends s r n next h t e w = (
  subst (λ (x : Tables). (i : ℕ) → i < command_count x → parent_of x (node_of x i) ≡ Some n → (leaves_of x i ≡ Empty → ⊥) → is_open r i ≡ false) (sym t) (λ i a p x. w.closed i a p (rw e (h.sound.node_in i a)) x),
  w.others,
  subst (λ (x : Tables). (m : ℕ) → m < node_count x → parent_of x m ≡ Some n → IsIn r.pile m) (sym t) (λ m a p. w.piled m a p (rw e a)),
  w.kept,
)

-- each node that became bare has been covered, and its children are bare or on the pile
pub record IsCovered (s r : State) (start : ℕ) : Type 0 where
  pub begun : IsIn r.pile start ⊎ (is_bare r start ≡ true)
  pub closed : (n i : ℕ) → is_bare r n ≡ true → (is_bare s n ≡ false) → i < command_count s.tables → parent_of s.tables (node_of s.tables i) ≡ Some n → (leaves_of s.tables i ≡ Empty → ⊥) → is_open r i ≡ false
  pub children : (n m : ℕ) → is_bare r n ≡ true → (is_bare s n ≡ false) → m < node_count s.tables → parent_of s.tables m ≡ Some n → IsIn r.pile m ⊎ (is_bare r m ≡ true)

pub tell_bool : (b : Bool) → (b ≡ true) ⊎ (b ≡ false)
tell_bool true = inl refl
tell_bool false = inr refl

pub tell_equal : (a b : ℕ) → (a ≡ b) ⊎ ((a ≡ b) → ⊥)
tell_equal a b = grind arith

pub covered_start : (s u : State) (n : ℕ) → u ≡ record s { pile = s.pile ++ n ∷ [] } → IsCovered s u n
covered_start s u n same = record {
  begun = inl (subst (λ xs. IsIn xs n) (sym (ap (λ x. x.pile) same)) (in_last s.pile n));
  closed = (λ m i b c. absurd (clash m b c));
  children = (λ m i b c. absurd (clash m b c));
}
  where
    clash : (m : ℕ) → is_bare u m ≡ true → is_bare s m ≡ false → ⊥
    clash m b c = let e : is_bare u m ≡ is_bare s m = ap (λ x. is_bare x m) same in cc

pub covered_step : (s r p u : State) (start x : ℕ) → r.tables ≡ s.tables → r ≡ record p { pile = p.pile ++ x ∷ [] } → u.tables ≡ p.tables → IsCovered s r start → Grows p u → is_bare u x ≡ true → ((n : ℕ) → (n ≡ x → ⊥) → is_bare u n ≡ is_bare p n) →
    (is_bare p x ≡ false → IsClosedBelow u x) → (is_bare p x ≡ false → IsPiled u x) → ((m : ℕ) → IsIn p.pile m → IsIn u.pile m) → IsCovered s u start
covered_step s r p u start x t popped ut w grows here others closed piled kept = record {
  begun = still start w.begun;
  closed = (λ n i b c a q y. shut n i b c a q y (tell_equal n x) (tell_bool (is_bare r n)));
  children = (λ n m b c a q. next n m b c a q (tell_equal n x) (tell_bool (is_bare r n)));
}
  where
    pt : p.tables ≡ s.tables
    pt = sym (ap (λ x. x.tables) popped) ∙ t

    st : u.tables ≡ s.tables
    st = ut ∙ (sym (ap (λ x. x.tables) popped) ∙ t)

    bare_r : (n : ℕ) → is_bare r n ≡ is_bare p n
    bare_r n = ap (λ y. is_bare y n) popped

    open_r : (i : ℕ) → is_open r i ≡ is_open p i
    open_r i = ap (λ y. is_open y i) popped

    still : (m : ℕ) → IsIn r.pile m ⊎ (is_bare r m ≡ true) → IsIn u.pile m ⊎ (is_bare u m ≡ true)
    still m (inl h) = go (in_split p.pile x m (subst (λ xs. IsIn xs m) (ap (λ y. y.pile) popped) h))
      where
        go : IsIn p.pile m ⊎ (m ≡ x) → IsIn u.pile m ⊎ (is_bare u m ≡ true)
        go (inl a) = inl (kept m a)
        go (inr b) = inr (ap (is_bare u) b ∙ here)
    still m (inr h) = go (tell_equal m x)
      where
        go : (m ≡ x) ⊎ ((m ≡ x) → ⊥) → IsIn u.pile m ⊎ (is_bare u m ≡ true)
        go (inl e) = inr (ap (is_bare u) e ∙ here)
        go (inr a) = inr (others m a ∙ sym (ap (λ y. is_bare y m) popped) ∙ h)

    shut : (n i : ℕ) → is_bare u n ≡ true → is_bare s n ≡ false → i < command_count s.tables → parent_of s.tables (node_of s.tables i) ≡ Some n → (leaves_of s.tables i ≡ Empty → ⊥) → (n ≡ x) ⊎ ((n ≡ x) → ⊥) → (is_bare r n ≡ true) ⊎ (is_bare r n ≡ false) → is_open u i ≡ false
    shut n i b c a q y e (inl was) = grows_closed p u i grows (subst (λ (z : Tables). i < command_count z) (sym pt) a) (sym (open_r i) ∙ w.closed n i was c a q y)
    shut n i b c a q y (inl e) (inr was) =
        closed (sym (bare_r x) ∙ ap (is_bare r) (sym e) ∙ was) i (subst (λ (z : Tables). i < command_count z) (sym st) a) (ap (λ (z : Tables). parent_of z (node_of z i)) st ∙ q ∙ ap Some e) (λ z. y (sym (ap (λ (v : Tables). leaves_of v i) st) ∙ z))
    shut n i b c a q y (inr e) (inr was) = absurd (let k : is_bare u n ≡ is_bare r n = others n e ∙ sym (bare_r n) in cc)

    next : (n m : ℕ) → is_bare u n ≡ true → is_bare s n ≡ false → m < node_count s.tables → parent_of s.tables m ≡ Some n → (n ≡ x) ⊎ ((n ≡ x) → ⊥) → (is_bare r n ≡ true) ⊎ (is_bare r n ≡ false) → IsIn u.pile m ⊎ (is_bare u m ≡ true)
    next n m b c a q e (inl was) = still m (w.children n m was c a q)
    next n m b c a q (inl e) (inr was) = inl (piled (sym (bare_r x) ∙ ap (is_bare r) (sym e) ∙ was) m (subst (λ (z : Tables). m < node_count z) (sym st) a) (ap (λ (z : Tables). parent_of z m) st ∙ q ∙ ap Some e))
    next n m b c a q (inr e) (inr was) = absurd (let k : is_bare u n ≡ is_bare r n = others n e ∙ sym (bare_r n) in cc)

-- At the end all below the start is closed.
pub covered_ends : (s r : State) (start : ℕ) → IsBoard s → Grows s r → r.pile ≡ [] → IsCovered s r start → IsDeep s →
    (i : ℕ) → i < command_count s.tables → IsUnderNode s.tables (node_of s.tables i) start → (leaves_of s.tables i ≡ Empty → ⊥) → is_open r i ≡ false
covered_ends s r start h grows none w deep i a under y = last (parent_of s.tables (node_of s.tables i)) refl under
  where
    -- bare now, or below what was bare before
    Done : ℕ → Type 0
    Done n = (is_bare r n ≡ true) ⊎ ((q : ℕ) × (is_bare s q ≡ true) × IsAtOrUnder s.tables n q)

    empty : (m : ℕ) → IsIn r.pile m ⊎ (is_bare r m ≡ true) → is_bare r m ≡ true
    empty m (inl z) = absurd (subst (λ xs. IsIn xs m) none z)
    empty m (inr z) = z

    down : (m n : ℕ) → m < node_count s.tables → parent_of s.tables m ≡ Some n → Done n → Done m
    down m n l e (inl b) = go (tell_bool (is_bare s n))
      where
        go : (is_bare s n ≡ true) ⊎ (is_bare s n ≡ false) → Done m
        go (inl old) = inr (n, old, (suc zero, e))
        go (inr new) = inl (empty m (w.children n m b new l e))
    down m n l e (inr (q, b, (k, u))) = inr (q, b, (suc k, ap (up s.tables k) e ∙ u))

    reach : (k m : ℕ) → m < node_count s.tables → up s.tables k (Some m) ≡ Some start → Done m
    reach zero m l e = let is : m ≡ start = cc in inl (ap (is_bare r) is ∙ empty start w.begun)
    reach (suc k) m l e = step (parent_of s.tables m) refl e (reach k)
      where
        stuck : (j : ℕ) → up s.tables j None ≡ None
        stuck zero = refl
        stuck (suc j) = stuck j

        step : (o : Option ℕ) → parent_of s.tables m ≡ o → up s.tables k o ≡ Some start → ((p : ℕ) → p < node_count s.tables → up s.tables k (Some p) ≡ Some start → Done p) → Done m
        step None f g ih = absurd (let z : None ≡ Some start = sym (stuck k) ∙ g in cc)
        step (Some p) f g ih = down m p l f (ih p (let low : p < m = h.sound.parent_in m p l f in omega arith) g)

    last : (o : Option ℕ) → parent_of s.tables (node_of s.tables i) ≡ o → ((k : ℕ) × (up s.tables k o ≡ Some start)) → is_open r i ≡ false
    last None f (k, g) = absurd (let z : None ≡ Some start = sym (stuck k) ∙ g in cc)
      where
        stuck : (j : ℕ) → up s.tables j None ≡ None
        stuck zero = refl
        stuck (suc j) = stuck j
    last (Some p) f (k, g) = at (reach k p (let low : p < node_of s.tables i = h.sound.parent_in (node_of s.tables i) p (h.sound.node_in i a) f in let m : node_of s.tables i < node_count s.tables = h.sound.node_in i a in omega arith) g)
      where
        at : Done p → is_open r i ≡ false
        at (inl b) = go (tell_bool (is_bare s p))
          where
            go : (is_bare s p ≡ true) ⊎ (is_bare s p ≡ false) → is_open r i ≡ false
            go (inl old) = grows_closed s r i grows a (deep p i old a (zero, f) y)
            go (inr new) = w.closed p i b new a f y
        at (inr (q, b, (j, u))) = grows_closed s r i grows a (deep q i b a (j, ap (up s.tables j) f ∙ u) y)
