-- A turn keeps a board settled.
use Rattle.std.proofs.Common.{◌≡◌, ℕ, zero, suc, ◌<◌, ◌≤◌, Bool, true, false, refl, ap, sym, subst, ◌∙◌, arith, ◌⊎◌, inl, inr, Option, Some, None, List, slice_set, slice_index_or, get_or-set_same, get_or-set_other}
use Rattle.std.specs.Prelude.{[]}
use Rattle.sync_command.specs.declared.values.Kind.{Kind}
use Rattle.sync_command.specs.declared.values.Kind.TheVariants.{Empty, Dir}
use Rattle.scan_board.specs.declared.board.Mark.{Mark}
use Rattle.scan_board.specs.declared.board.Mark.TheVariants.{Open, Taken, Blocked}
use Rattle.scan_board.specs.declared.turning.Rule.TheVariants.{All}
use Rattle.scan_board.specs.Tables.{Tables, State, IsSound, IsBoard, is_open, is_open_mark, mark_of, node_of, leaves_of, starts_of, parent_of, is_bare, is_shut, command_count, node_count}
use Rattle.scan_board.specs.Turns.{up as up_to, Grows, IsOnWay, IsUnderNode, IsAtOrUnder, IsDeep, IsShutOk, IsAlone, blocked_by}
use Rattle.scan_board.specs.Settling.{Clash, IsExact, IsBareRight, IsMade, IsDirsRight, IsShutRight, IsSettled, IsUpWalk, IsSoundDown, IsCoveredDown}
use Rattle.scan_board.proofs.Settling.{up_none, bare_is_deep}
use Rattle.scan_board.proofs.Closing.{tell_bool, tell_equal}
use Rattle.scan_board.proofs.Walking.{blocked_apart, grows_trans}
use Rattle.scan_board.proofs.Dirs.{take_dirs}

pub clash_sym : (t : Tables) (i j : ℕ) → Clash t i j → Clash t j i
clash_sym t i j (inl (e, a)) = inl (sym e, (λ x. a (sym x)))
clash_sym t i j (inr (inl x)) = inr (inr x)
clash_sym t i j (inr (inr x)) = inr (inl x)

-- a node is not below itself
up_lower : (t : Tables) (k m n : ℕ) → IsSound t → m < node_count t → up_to t k (Some m) ≡ Some n → n ≤ m
up_lower t zero m n h l e = let k : m ≡ n = cc in omega arith
up_lower t (suc k) m n h l e = go (parent_of t m) refl e (up_lower t k)
  where
    go : (o : Option ℕ) → parent_of t m ≡ o → up_to t k o ≡ Some n → ((m n : ℕ) → IsSound t → m < node_count t → up_to t k (Some m) ≡ Some n → n ≤ m) → n ≤ m
    go None f g ih = absurd (up_none t k n g)
    go (Some p) f g ih = let low : p < m = h.parent_in m p l f in let rest : n ≤ p = ih p n h (omega arith) g in omega arith

pub under_lower : (t : Tables) (m n : ℕ) → IsSound t → m < node_count t → IsUnderNode t m n → n < m
under_lower t m n h l (k, e) = go (parent_of t m) refl e
  where
    go : (o : Option ℕ) → parent_of t m ≡ o → up_to t k o ≡ Some n → n < m
    go None f g = absurd (up_none t k n g)
    go (Some p) f g = let low : p < m = h.parent_in m p l f in let rest : n ≤ p = up_lower t k p n h (omega arith) g in omega arith

pub clash_self : (t : Tables) (k : ℕ) → IsSound t → k < command_count t → Clash t k k → ⊥
clash_self t k h l (inl (e, a)) = a refl
clash_self t k h l (inr (inl (a, u, b))) = let x : node_of t k < node_of t k = under_lower t (node_of t k) (node_of t k) h (h.node_in k l) u in omega arith
clash_self t k h l (inr (inr (a, u, b))) = let x : node_of t k < node_of t k = under_lower t (node_of t k) (node_of t k) h (h.node_in k l) u in omega arith

not_open : (m : Mark) → m ≡ Blocked → is_open_mark m ≡ false
not_open m e = ap is_open_mark e

pub shut_ok : (s : State) → IsShutRight s → IsShutOk s
shut_ok s h = record { row = (λ n i b a e y. ap is_open_mark (h.row n i b a e y)); parent = h.parent }

pub alone : (s : State) → IsExact s → IsAlone s
alone s exact i j li lj same taken was = go (tell_equal i j)
  where
    go : (i ≡ j) ⊎ ((i ≡ j) → ⊥) → ⊥
    go (inl e) = let k : Taken ≡ Open = sym taken ∙ ap (mark_of s) (sym e) ∙ was in cc
    go (inr a) = let k : Blocked ≡ Open = sym (exact.clash i j li lj taken (inl (same, a))) ∙ was in cc

deep_of : (s : State) → IsBoard s → IsMade s.tables → IsSettled s → IsDeep s
deep_of s h made w = bare_is_deep s h.sound w.exact w.bare made

abbrev pub Kept : State → State → ℕ → Type 0
Kept s d i = (mark_of d i ≡ mark_of s i) ⊎ ((mark_of s i ≡ Open) × (mark_of d i ≡ Blocked))

-- what became blocked in a turn clashes with what was taken
take_cause : (s a b c d : State) (k n : ℕ) → IsBoard s → k < command_count s.tables → n ≡ node_of s.tables k → a ≡ record s { marks = slice_set s.marks k Taken } → b.tables ≡ a.tables → ((i : ℕ) → i < command_count a.tables → mark_of b i ≡ blocked_by a n All i) →
    c.tables ≡ b.tables → (((leaves_of s.tables k ≡ Empty → ⊥) × IsUpWalk b c (parent_of b.tables n)) ⊎ (c ≡ b)) → (((leaves_of s.tables k ≡ Dir → ⊥) × IsSoundDown c d n) ⊎ (d ≡ c)) →
    (i : ℕ) → i < command_count s.tables → (i ≡ k → ⊥) → (mark_of d i ≡ mark_of s i) ⊎ Clash s.tables i k
take_cause s a b c d k n h l own sa tb mb tc upward downward i li apart = first (tell_equal (node_of s.tables i) n)
  where
    ta : a.tables ≡ s.tables
    ta = ap (λ x. x.tables) sa

    sb : b.tables ≡ s.tables
    sb = tb ∙ ap (λ x. x.tables) sa

    sc : c.tables ≡ s.tables
    sc = tc ∙ (tb ∙ ap (λ x. x.tables) sa)

    Out : Type 0
    Out = (mark_of d i ≡ mark_of s i) ⊎ Clash s.tables i k

    here : mark_of a i ≡ mark_of s i
    here = ap (λ (x : List Mark). slice_index_or x i Blocked) (ap (λ x. x.marks) sa) ∙ get_or-set_other s.marks k i Taken Blocked apart

    third : mark_of c i ≡ mark_of s i → (((leaves_of s.tables k ≡ Dir → ⊥) × IsSoundDown c d n) ⊎ (d ≡ c)) → Out
    third e (inr same) = inl (ap (λ x. mark_of x i) same ∙ e)
    third e (inl (other, w)) = go (w.why i (subst (λ (x : Tables). i < command_count x) (sym sc) li))
      where
        go : (mark_of d i ≡ mark_of c i) ⊎ (IsUnderNode c.tables (node_of c.tables i) n × (leaves_of c.tables i ≡ Empty → ⊥)) → Out
        go (inl f) = inl (f ∙ e)
        go (inr (u, y)) = inr (inr (inr (other, subst (λ q. IsUnderNode s.tables (node_of s.tables i) q) own (subst (λ (x : Tables). IsUnderNode x (node_of x i) n) sc u), (λ z. y (ap (λ (x : Tables). leaves_of x i) sc ∙ z)))))

    second : mark_of b i ≡ mark_of s i → (((leaves_of s.tables k ≡ Empty → ⊥) × IsUpWalk b c (parent_of b.tables n)) ⊎ (c ≡ b)) → Out
    second e (inr same) = third (ap (λ x. mark_of x i) same ∙ e) downward
    second e (inl (full, w)) = go (w.why i (subst (λ (x : Tables). i < command_count x) (sym sb) li))
      where
        go : (mark_of c i ≡ mark_of b i) ⊎ (IsOnWay b.tables (parent_of b.tables n) (node_of b.tables i) × (leaves_of b.tables i ≡ Dir → ⊥)) → Out
        go (inl f) = third (f ∙ e) downward
        go (inr (u, y)) = inr (inr (inl ((λ z. y (ap (λ (x : Tables). leaves_of x i) sb ∙ z)), subst (λ q. IsUnderNode s.tables q (node_of s.tables i)) own (subst (λ (x : Tables). IsOnWay x (parent_of x n) (node_of x i)) sb u), full)))

    first : (node_of s.tables i ≡ n) ⊎ ((node_of s.tables i ≡ n) → ⊥) → Out
    first (inl e) = inr (inl (e ∙ own, apart))
    first (inr e) = second (mb i (subst (λ (x : Tables). i < command_count x) (sym ta) li) ∙ blocked_apart a n All i (λ z. e (sym (ap (λ (x : Tables). node_of x i) ta) ∙ z)) ∙ here) upward

-- blocked stays exact
turn_exact : (s d : State) (k : ℕ) → IsBoard s → k < command_count s.tables → mark_of s k ≡ Open → mark_of d k ≡ Taken → ((i : ℕ) → i < command_count s.tables → (i ≡ k → ⊥) → Kept s d i) →
    ((i : ℕ) → i < command_count s.tables → (i ≡ k → ⊥) → (mark_of d i ≡ mark_of s i) ⊎ Clash s.tables i k) → ((j : ℕ) → j < command_count s.tables → Clash s.tables k j → is_open d j ≡ false) → IsExact s →
    ((i : ℕ) → i < command_count s.tables → mark_of d i ≡ Blocked → (j : ℕ) × (j < command_count s.tables) × (mark_of d j ≡ Taken) × Clash s.tables i j) ×
    ((i j : ℕ) → i < command_count s.tables → j < command_count s.tables → mark_of d j ≡ Taken → Clash s.tables i j → mark_of d i ≡ Blocked)
turn_exact s d k h l was now others cause complete exact = (blocked, clash)
  where
    Reason : ℕ → Type 0
    Reason i = (j : ℕ) × (j < command_count s.tables) × (mark_of d j ≡ Taken) × Clash s.tables i j

    -- a taken one stays taken, a blocked one blocked
    stays : (j : ℕ) (m : Mark) → j < command_count s.tables → mark_of s j ≡ m → (m ≡ Open → ⊥) → mark_of d j ≡ m
    stays j m lj e a = go (tell_equal j k)
      where
        go : (j ≡ k) ⊎ ((j ≡ k) → ⊥) → mark_of d j ≡ m
        go (inl same) = absurd (a (sym e ∙ ap (mark_of s) same ∙ was))
        go (inr apart) = pick (others j lj apart)
          where
            pick : Kept s d j → mark_of d j ≡ m
            pick (inl f) = f ∙ e
            pick (inr f) = absurd (a (sym e ∙ f.0))

    blocked : (i : ℕ) → i < command_count s.tables → mark_of d i ≡ Blocked → Reason i
    blocked i li e = go (tell_equal i k)
      where
        from : (j : ℕ) × (j < command_count s.tables) × (mark_of s j ≡ Taken) × Clash s.tables i j → Reason i
        from (j, lj, taken, x) = (j, lj, stays j Taken lj taken (λ z. cc), x)

        go : (i ≡ k) ⊎ ((i ≡ k) → ⊥) → Reason i
        go (inl same) = absurd (let z : Blocked ≡ Taken = sym e ∙ ap (mark_of d) same ∙ now in cc)
        go (inr apart) = pick (cause i li apart)
          where
            pick : (mark_of d i ≡ mark_of s i) ⊎ Clash s.tables i k → Reason i
            pick (inl f) = from (exact.blocked i li (sym f ∙ e))
            pick (inr x) = (k, l, now, x)

    free : (j : ℕ) → j < command_count s.tables → mark_of s j ≡ Taken → Clash s.tables k j → ⊥
    free j lj taken x = let z : Blocked ≡ Open = sym (exact.clash k j l lj taken x) ∙ was in cc

    closed : (m : Mark) → is_open_mark m ≡ false → (m ≡ Taken → ⊥) → m ≡ Blocked
    closed Open e f = absurd (let z : true ≡ false = e in cc)
    closed Taken e f = absurd (f refl)
    closed Blocked e f = refl

    taken_before : (j : ℕ) → j < command_count s.tables → (j ≡ k → ⊥) → mark_of d j ≡ Taken → mark_of s j ≡ Taken
    taken_before j lj apart e = go (others j lj apart)
      where
        go : Kept s d j → mark_of s j ≡ Taken
        go (inl f) = sym f ∙ e
        go (inr f) = absurd (let z : Blocked ≡ Taken = sym f.1 ∙ e in cc)

    by_own : (i : ℕ) → i < command_count s.tables → Clash s.tables i k → mark_of d i ≡ Blocked
    by_own i li x = go (tell_equal i k)
      where
        go : (i ≡ k) ⊎ ((i ≡ k) → ⊥) → mark_of d i ≡ Blocked
        go (inl same) = absurd (clash_self s.tables k h.sound l (subst (λ q. Clash s.tables q k) same x))
        go (inr apart) = closed (mark_of d i) (complete i li (clash_sym s.tables i k x)) (λ e. free i li (taken_before i li apart e) (clash_sym s.tables i k x))

    clash : (i j : ℕ) → i < command_count s.tables → j < command_count s.tables → mark_of d j ≡ Taken → Clash s.tables i j → mark_of d i ≡ Blocked
    clash i j li lj e x = go (tell_equal j k)
      where
        go : (j ≡ k) ⊎ ((j ≡ k) → ⊥) → mark_of d i ≡ Blocked
        go (inl same) = by_own i li (subst (λ q. Clash s.tables i q) same x)
        go (inr apart) = stays i Blocked li (exact.clash i j li lj (taken_before j lj apart e) x) (λ z. cc)

exact_at : (d : State) (t : Tables) → d.tables ≡ t →
    ((i : ℕ) → i < command_count t → mark_of d i ≡ Blocked → (j : ℕ) × (j < command_count t) × (mark_of d j ≡ Taken) × Clash t i j) ×
    ((i j : ℕ) → i < command_count t → j < command_count t → mark_of d j ≡ Taken → Clash t i j → mark_of d i ≡ Blocked) → IsExact d
exact_at d t e (f, g) = record {
  blocked = subst (λ (x : Tables). (i : ℕ) → i < command_count x → mark_of d i ≡ Blocked → (j : ℕ) × (j < command_count x) × (mark_of d j ≡ Taken) × Clash x i j) (sym e) f;
  clash = subst (λ (x : Tables). (i j : ℕ) → i < command_count x → j < command_count x → mark_of d j ≡ Taken → Clash x i j → mark_of d i ≡ Blocked) (sym e) g;
}

shut_at : (d : State) (t : Tables) → d.tables ≡ t → ((n i : ℕ) → is_shut d n ≡ true → i < command_count t → node_of t i ≡ n → (leaves_of t i ≡ Dir → ⊥) → mark_of d i ≡ Blocked) →
    ((n p : ℕ) → n < node_count d.tables → is_shut d n ≡ true → parent_of d.tables n ≡ Some p → is_shut d p ≡ true) → IsShutRight d
shut_at d t e f g = record {
  row = subst (λ (x : Tables). (n i : ℕ) → is_shut d n ≡ true → i < command_count x → node_of x i ≡ n → (leaves_of x i ≡ Dir → ⊥) → mark_of d i ≡ Blocked) (sym e) f;
  parent = g;
}

bare_at : (d : State) (t : Tables) → d.tables ≡ t → ((n i : ℕ) → is_bare d n ≡ true → i < command_count t → parent_of t (node_of t i) ≡ Some n → (leaves_of t i ≡ Empty → ⊥) → mark_of d i ≡ Blocked) →
    ((n m : ℕ) → is_bare d n ≡ true → m < node_count t → parent_of t m ≡ Some n → starts_of t m ≡ Dir → is_bare d m ≡ true) → IsBareRight d
bare_at d t e f g = record {
  row = subst (λ (x : Tables). (n i : ℕ) → is_bare d n ≡ true → i < command_count x → parent_of x (node_of x i) ≡ Some n → (leaves_of x i ≡ Empty → ⊥) → mark_of d i ≡ Blocked) (sym e) f;
  down = subst (λ (x : Tables). (n m : ℕ) → is_bare d n ≡ true → m < node_count x → parent_of x m ≡ Some n → starts_of x m ≡ Dir → is_bare d m ≡ true) (sym e) g;
}

pub take_settled : (s a b c d : State) (k n : ℕ) → IsBoard s → k < command_count s.tables → n ≡ node_of s.tables k → mark_of s k ≡ Open →
    a ≡ record s { marks = slice_set s.marks k Taken } →
    b ≡ record a { marks = b.marks; dirs = b.dirs } → ((i : ℕ) → i < command_count a.tables → mark_of b i ≡ blocked_by a n All i) → (IsDirsRight a → IsDirsRight b) →
    c ≡ record b { marks = c.marks; dirs = c.dirs; shut = c.shut } → (((leaves_of s.tables k ≡ Empty → ⊥) × IsUpWalk b c (parent_of b.tables n)) ⊎ (c ≡ b)) →
    d ≡ record c { marks = d.marks; dirs = d.dirs; bare = d.bare } → (((leaves_of s.tables k ≡ Dir → ⊥) × IsSoundDown c d n) ⊎ (d ≡ c)) → IsCoveredDown c d →
    mark_of d k ≡ Taken → d.pile ≡ [] → ((i : ℕ) → i < command_count s.tables → (i ≡ k → ⊥) → Kept s d i) → (IsDeep s → IsShutOk s → (j : ℕ) → j < command_count s.tables → Clash s.tables k j → is_open d j ≡ false) → (IsShutOk s → IsShutOk d) →
    IsMade s.tables → IsSettled s → IsSettled d
take_settled s a b c d k n h l own was sa sb mb db sc upward sd downward cov now pile others complete right made w = record {
  pile = pile;
  exact = exact_at d s.tables td exact;
  dirs = down_dirs downward (up_dirs upward (db (take_dirs s a k h l was (ap (λ x. x.tables) sa) (ap (λ x. x.marks) sa) (ap (λ x. x.dirs) sa) w.dirs)));
  shut = shut_at d s.tables td shut_row (right (shut_ok s w.shut)).parent;
  bare = bare_at d s.tables td bare_row bare_down;
}
  where
    tb : b.tables ≡ s.tables
    tb = ap (λ x. x.tables) sb ∙ ap (λ x. x.tables) sa

    tc : c.tables ≡ s.tables
    tc = ap (λ x. x.tables) sc ∙ (ap (λ x. x.tables) sb ∙ ap (λ x. x.tables) sa)

    td : d.tables ≡ s.tables
    td = ap (λ x. x.tables) sd ∙ (ap (λ x. x.tables) sc ∙ (ap (λ x. x.tables) sb ∙ ap (λ x. x.tables) sa))

    exact : ((i : ℕ) → i < command_count s.tables → mark_of d i ≡ Blocked → (j : ℕ) × (j < command_count s.tables) × (mark_of d j ≡ Taken) × Clash s.tables i j) ×
        ((i j : ℕ) → i < command_count s.tables → j < command_count s.tables → mark_of d j ≡ Taken → Clash s.tables i j → mark_of d i ≡ Blocked)
    exact = turn_exact s d k h l was now others (take_cause s a b c d k n h l own sa (ap (λ x. x.tables) sb) mb (ap (λ x. x.tables) sc) upward downward) (complete (deep_of s h made w) (shut_ok s w.shut)) w.exact

    up_dirs : (((leaves_of s.tables k ≡ Empty → ⊥) × IsUpWalk b c (parent_of b.tables n)) ⊎ (c ≡ b)) → IsDirsRight b → IsDirsRight c
    up_dirs (inl (x, v)) r = v.dirs r
    up_dirs (inr e) r = subst (λ x. IsDirsRight x) (sym e) r

    down_dirs : (((leaves_of s.tables k ≡ Dir → ⊥) × IsSoundDown c d n) ⊎ (d ≡ c)) → IsDirsRight c → IsDirsRight d
    down_dirs (inl (x, v)) r = v.dirs r
    down_dirs (inr e) r = subst (λ x. IsDirsRight x) (sym e) r

    -- a blocked one stays blocked
    stays : (i : ℕ) → i < command_count s.tables → mark_of s i ≡ Blocked → mark_of d i ≡ Blocked
    stays i li e = go (tell_equal i k)
      where
        go : (i ≡ k) ⊎ ((i ≡ k) → ⊥) → mark_of d i ≡ Blocked
        go (inl same) = absurd (let z : Blocked ≡ Open = sym e ∙ ap (mark_of s) same ∙ was in cc)
        go (inr apart) = pick (others i li apart)
          where
            pick : Kept s d i → mark_of d i ≡ Blocked
            pick (inl f) = f ∙ e
            pick (inr f) = f.1

    shut_c : (q : ℕ) → is_shut d q ≡ is_shut c q
    shut_c q = ap (λ (x : List Bool). slice_index_or x q false) (ap (λ x. x.shut) sd)

    shut_b : (q : ℕ) → is_shut b q ≡ is_shut s q
    shut_b q = ap (λ (x : List Bool). slice_index_or x q false) (ap (λ x. x.shut) sb ∙ ap (λ x. x.shut) sa)

    bare_c : (q : ℕ) → is_bare c q ≡ is_bare s q
    bare_c q = ap (λ (x : List Bool). slice_index_or x q false) (ap (λ x. x.bare) sc ∙ (ap (λ x. x.bare) sb ∙ ap (λ x. x.bare) sa))

    shut_row : (q i : ℕ) → is_shut d q ≡ true → i < command_count s.tables → node_of s.tables i ≡ q → (leaves_of s.tables i ≡ Dir → ⊥) → mark_of d i ≡ Blocked
    shut_row q i e li at y = go upward
      where
        old : is_shut b q ≡ true → mark_of d i ≡ Blocked
        old f = stays i li (w.shut.row q i (sym (shut_b q) ∙ f) li at y)

        go : (((leaves_of s.tables k ≡ Empty → ⊥) × IsUpWalk b c (parent_of b.tables n)) ⊎ (c ≡ b)) → mark_of d i ≡ Blocked
        go (inr same) = old (sym (ap (λ x. is_shut x q) same) ∙ sym (shut_c q) ∙ e)
        go (inl (full, v)) = pick (v.shut q (sym (shut_c q) ∙ e))
          where
            pick : (is_shut b q ≡ true) ⊎ IsOnWay b.tables (parent_of b.tables n) q → mark_of d i ≡ Blocked
            pick (inl f) = old f
            pick (inr u) = exact.1 i k li l now (inr (inl (y, subst (λ z. IsUnderNode s.tables z (node_of s.tables i)) own (subst (λ z. IsOnWay s.tables (parent_of s.tables n) z) (sym at) (subst (λ (x : Tables). IsOnWay x (parent_of x n) q) tb u)), full)))

    bare_row : (q i : ℕ) → is_bare d q ≡ true → i < command_count s.tables → parent_of s.tables (node_of s.tables i) ≡ Some q → (leaves_of s.tables i ≡ Empty → ⊥) → mark_of d i ≡ Blocked
    bare_row q i e li at y = go downward
      where
        old : is_bare c q ≡ true → mark_of d i ≡ Blocked
        old f = stays i li (w.bare.row q i (sym (bare_c q) ∙ f) li at y)

        go : (((leaves_of s.tables k ≡ Dir → ⊥) × IsSoundDown c d n) ⊎ (d ≡ c)) → mark_of d i ≡ Blocked
        go (inr same) = old (sym (ap (λ x. is_bare x q) same) ∙ e)
        go (inl (other, v)) = pick (v.bare q e)
          where
            pick : (is_bare c q ≡ true) ⊎ IsAtOrUnder c.tables q n → mark_of d i ≡ Blocked
            pick (inl f) = old f
            pick (inr (j, u)) = exact.1 i k li l now (inr (inr (other, subst (λ z. IsUnderNode s.tables (node_of s.tables i) z) own (j, ap (up_to s.tables j) at ∙ (ap (λ (x : Tables). up_to x j (Some q)) (sym tc) ∙ u)), y)))

    bare_down : (q m : ℕ) → is_bare d q ≡ true → m < node_count s.tables → parent_of s.tables m ≡ Some q → starts_of s.tables m ≡ Dir → is_bare d m ≡ true
    bare_down q m e lm at dir = go downward (tell_bool (is_bare c q))
      where
        old : is_bare c q ≡ true → is_bare c m ≡ true
        old f = bare_c m ∙ w.bare.down q m (sym (bare_c q) ∙ f) lm at dir

        go : (((leaves_of s.tables k ≡ Dir → ⊥) × IsSoundDown c d n) ⊎ (d ≡ c)) → (is_bare c q ≡ true) ⊎ (is_bare c q ≡ false) → is_bare d m ≡ true
        go (inr same) f = ap (λ x. is_bare x m) same ∙ old (sym (ap (λ x. is_bare x q) same) ∙ e)
        go (inl (other, v)) (inl f) = v.kept m (old f)
        go (inl (other, v)) (inr f) = cov q m e f (subst (λ (x : Tables). m < node_count x) (sym tc) lm) (ap (λ (x : Tables). parent_of x m) tc ∙ at)

pub up_given : (b c : State) (x y : Kind) (o q : Option ℕ) → x ≡ y → o ≡ q → (((x ≡ Empty → ⊥) × IsUpWalk b c o) ⊎ (c ≡ b)) → (((y ≡ Empty → ⊥) × IsUpWalk b c q) ⊎ (c ≡ b))
up_given b c x y o q e f (inl (a, w)) = inl ((λ z. a (e ∙ z)), subst (λ z. IsUpWalk b c z) f w)
up_given b c x y o q e f (inr z) = inr z

pub down_given : (c d : State) (x y : Kind) (n : ℕ) → x ≡ y → (((x ≡ Dir → ⊥) × IsSoundDown c d n) ⊎ (d ≡ c)) → (((y ≡ Dir → ⊥) × IsSoundDown c d n) ⊎ (d ≡ c))
down_given c d x y n e (inl (a, w)) = inl ((λ z. a (e ∙ z)), w)
down_given c d x y n e (inr z) = inr z

pub own_taken : (s a b c d : State) (k : ℕ) → IsBoard s → k < command_count s.tables → a ≡ record s { marks = slice_set s.marks k Taken } → b.tables ≡ a.tables → c.tables ≡ b.tables → Grows a b → Grows b c → Grows c d → mark_of d k ≡ Taken
own_taken s a b c d k h l sa tb tc gb gc gd = go (grows_trans a c d (tc ∙ tb) (grows_trans a b c tb gb gc) gd k (subst (λ (x : Tables). k < command_count x) (sym (ap (λ x. x.tables) sa)) l))
  where
    first : mark_of a k ≡ Taken
    first = ap (λ (x : List Mark). slice_index_or x k Blocked) (ap (λ x. x.marks) sa) ∙ get_or-set_same s.marks k Taken Blocked (rw h.marks l)

    go : (mark_of d k ≡ mark_of a k) ⊎ ((mark_of a k ≡ Open) × (mark_of d k ≡ Blocked)) → mark_of d k ≡ Taken
    go (inl e) = e ∙ first
    go (inr e) = absurd (let z : Open ≡ Taken = sym e.0 ∙ first in cc)
