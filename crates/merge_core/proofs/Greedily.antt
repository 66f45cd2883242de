-- The scan of a board takes what the greedy scan takes, and what it costs.
use Rattle.std.proofs.Common.{◌≡◌, ℕ, suc, ◌+◌, ◌*◌, ◌<◌, ◌≤◌, Bool, true, false, ◌||◌, refl, ap, sym, subst, ◌∙◌, arith, ◌⊎◌, inl, inr, List, [], ◌∷◌, length, map, drop}
use Rattle.std.specs.Prelude.{if◌then◌else◌, slice_index}
use Rattle.std.specs.List.{list_any}
use Rattle.std.proofs.Math.Seq.{drop-cons}
use Rattle.std.proofs.lemmas.List.{drop_all}
use Rattle.sync_path.specs.Paths.{Node}
use Rattle.sync_command.specs.Changes.{Change, same_change}
use Rattle.sync_command.specs.Trees.{Holding}
use Rattle.refluent.specs.Sets.{is_in, IsSubset}
use Rattle.merge_core.specs.Conflicts.{conflicts, greedy_scan}
use Rattle.merge_core.specs.FirstMergers.{IsFirstMerger}
use Rattle.refluent.proofs.CallerLemmas.{same_change_is, same_change_at}
use Rattle.merge_core.proofs.Greedy.{greedy_first}
use Rattle.scan_board.specs.declared.board.Mark.{Mark}
use Rattle.scan_board.specs.declared.board.Mark.TheVariants.{Open, Taken, Blocked}
use Rattle.scan_board.specs.Tables.{Tables, State, IsSound, mark_of, command_count, credit, opens, unshut, covered, untaken, is_open, is_unshut, is_covered, is_untaken}
use Rattle.scan_board.specs.Settling.{Clash, IsSettled}
use Rattle.scan_board.proofs.CallerLemmas.{tell_equal, count_most}
use Rattle.merge_core.specs.Boards.{IsMarked}
use Rattle.merge_core.proofs.DrawnBoards.{IsOf}
use Rattle.merge_core.proofs.Between.{clash_conflicts, conflicts_clash}
use Rattle.merge_core.proofs.RankedNumbers.{ranked_in, ranked_from, ranked_differ, few}

or_left : (a b : Bool) → a ≡ true → (a || b) ≡ true
or_left a b e = grind arith

or_right : (a b : Bool) → b ≡ true → (a || b) ≡ true
or_right a b e = grind arith

or_cases : (a b : Bool) → (a || b) ≡ true → (a ≡ true) ⊎ (b ≡ true)
or_cases true b e = inl refl
or_cases false b e = inr e

no_false : (b : Bool) → (b ≡ true → ⊥) → b ≡ false
no_false true e = absurd (e refl)
no_false false e = refl

-- the numbers of a ranking: each of the first so many once
pub record IsRanking (count : ℕ) (places : List ℕ) : Type 0 where
  pub within : (k : ℕ) → k < length places → slice_index places k < count
  pub once : (j k : ℕ) → j < k → k < length places → slice_index places j ≡ slice_index places k → ⊥
  pub all : (i : ℕ) → i < count → (k : ℕ) × (k < length places) × (slice_index places k ≡ i)

-- these are the taken ones
pub record IsTakenList (cmd : ℕ → Change) (s : State) (taken : List Change) : Type 0 where
  pub has : (i : ℕ) → i < command_count s.tables → mark_of s i ≡ Taken → is_in taken (cmd i) ≡ true
  pub only : (c : Change) → is_in taken c ≡ true → (i : ℕ) × (i < command_count s.tables) × (mark_of s i ≡ Taken) × (cmd i ≡ c)

-- the rest of the ranking leads on from what is taken
pub record IsOnWayTo (cmd : ℕ → Change) (s : State) (all rest : List Change) : Type 0 where
  pub taken : List Change
  pub is : IsTakenList cmd s taken
  pub same : greedy_scan all [] ≡ greedy_scan rest taken

pub record IsScan (s r : State) (places : List ℕ) (k from to : ℕ) : Type 0 where
  pub tables : r.tables ≡ s.tables
  pub settled : IsSettled r
  pub before : (j : ℕ) → j < k → mark_of r (slice_index places j) ≡ Open → ⊥
  pub taken : (i : ℕ) → i < command_count s.tables → mark_of r i ≡ Taken → (j : ℕ) × (j < k) × (slice_index places j ≡ i)
  pub way : (t : Holding) (drawn : List Change) (cmd : ℕ → Change) (path : ℕ → Node) → IsOf t drawn cmd path s.tables → IsOnWayTo cmd r (map cmd places) (map cmd (drop k places))
  pub steps : to + credit r ≤ from + credit s + 2 * k

pub scan_start : (s : State) (places : List ℕ) (from : ℕ) → IsSettled s → ((i : ℕ) → i < command_count s.tables → mark_of s i ≡ Open) → IsScan s s places 0 from from
scan_start s places from settled fresh = record {
  tables = refl;
  settled = settled;
  before = (λ j l. absurd (omega arith));
  taken = (λ i l e. absurd (clash i l e));
  way = (λ t drawn cmd path h. record { taken = []; is = record { has = (λ i l e. absurd (clash i l e)); only = (λ c e. cc (e)) }; same = refl });
  steps = omega arith;
}
  where
    clash : (i : ℕ) → i < command_count s.tables → mark_of s i ≡ Taken → ⊥
    clash i l e = let z : Open ≡ Taken = sym (fresh i l) ∙ e in cc (z)

any_in : (f : Change → Bool) (cs : List Change) (c : Change) → is_in cs c ≡ true → f c ≡ true → list_any f cs ≡ true
any_in f [] c e h = cc (e)
any_in f (x ∷ cs) c e h = go (or_cases (same_change c x) (is_in cs c) e) (λ a. any_in f cs c a h)
  where
    go : (same_change c x ≡ true) ⊎ (is_in cs c ≡ true) → (is_in cs c ≡ true → list_any f cs ≡ true) → list_any f (x ∷ cs) ≡ true
    go (inl a) ih = or_left (f x) (list_any f cs) (ap f (sym (same_change_is c x a)) ∙ h)
    go (inr a) ih = or_right (f x) (list_any f cs) (ih a)

any_from : (f : Change → Bool) (cs : List Change) → list_any f cs ≡ true → (c : Change) × (is_in cs c ≡ true) × (f c ≡ true)
any_from f [] e = cc (e)
any_from f (x ∷ cs) e = go (or_cases (f x) (list_any f cs) e) (any_from f cs)
  where
    Out : Type 0
    Out = (c : Change) × (is_in (x ∷ cs) c ≡ true) × (f c ≡ true)

    later : (c : Change) × (is_in cs c ≡ true) × (f c ≡ true) → Out
    later (c, a, b) = (c, or_right (same_change c x) (is_in cs c) a, b)

    go : (f x ≡ true) ⊎ (list_any f cs ≡ true) → (list_any f cs ≡ true → (c : Change) × (is_in cs c ≡ true) × (f c ≡ true)) → Out
    go (inl a) ih = (x, or_left (same_change x x) (is_in cs x) (same_change_at x x refl), a)
    go (inr a) ih = later (ih a)

greedy_takes : (c : Change) (cs taken : List Change) → list_any (conflicts c) taken ≡ false → greedy_scan (c ∷ cs) taken ≡ greedy_scan cs (c ∷ taken)
greedy_takes c cs taken e = ap (λ b. if b then greedy_scan cs taken else greedy_scan cs (c ∷ taken)) e

greedy_leaves : (c : Change) (cs taken : List Change) → list_any (conflicts c) taken ≡ true → greedy_scan (c ∷ cs) taken ≡ greedy_scan cs taken
greedy_leaves c cs taken e = ap (λ b. if b then greedy_scan cs taken else greedy_scan cs (c ∷ taken)) e

tell_mark : (m : Mark) → (m ≡ Open) ⊎ ((m ≡ Taken) ⊎ (m ≡ Blocked))
tell_mark Open = inl refl
tell_mark Taken = inr (inl refl)
tell_mark Blocked = inr (inr refl)

module _ (s r u : State) (places : List ℕ) (k from to past : ℕ) (sound : IsSound s.tables) (ranking : IsRanking (command_count s.tables) places) (lk : k < length places) (w : IsScan s r places k from to)
    (settled : IsSettled u) (tables : u.tables ≡ r.tables)
    (kept : (i : ℕ) → i < command_count r.tables → (mark_of r i ≡ Open → ⊥) → mark_of u i ≡ mark_of r i)
    (others : (i : ℕ) → i < command_count r.tables → (i ≡ slice_index places k → ⊥) → mark_of u i ≡ Taken → mark_of r i ≡ Taken)
    (stays : (mark_of r (slice_index places k) ≡ Open → ⊥) → u ≡ r)
    (taken : mark_of r (slice_index places k) ≡ Open → mark_of u (slice_index places k) ≡ Taken)
    (cost : past + credit u ≤ 2 + to + credit r) where
  abbrev own : ℕ
  own = slice_index places k

  own_in : slice_index places k < command_count s.tables
  own_in = ranking.within k lk

  count_r : command_count r.tables ≡ command_count s.tables
  count_r = ap (λ (x : Tables). command_count x) w.tables

  count_u : command_count u.tables ≡ command_count s.tables
  count_u = ap (λ (x : Tables). command_count x) (tables ∙ w.tables)

  in_r : (i : ℕ) → i < command_count s.tables → i < command_count r.tables
  in_r i l = rw count_r l

  kept_s : (i : ℕ) → i < command_count s.tables → (mark_of r i ≡ Open → ⊥) → mark_of u i ≡ mark_of r i
  kept_s i l a = kept i (in_r i l) a

  others_s : (i : ℕ) → i < command_count s.tables → (i ≡ slice_index places k → ⊥) → mark_of u i ≡ Taken → mark_of r i ≡ Taken
  others_s i l a e = others i (in_r i l) a e

  stays_s : (mark_of r (slice_index places k) ≡ Open → ⊥) → u ≡ r
  stays_s a = stays a

  taken_s : mark_of r (slice_index places k) ≡ Open → mark_of u (slice_index places k) ≡ Taken
  taken_s e = taken e

  not_taken : mark_of r (slice_index places k) ≡ Taken → ⊥
  not_taken e = go (w.taken (slice_index places k) own_in e)
    where
      go : (j : ℕ) × (j < k) × (slice_index places j ≡ slice_index places k) → ⊥
      go (j, l, is) = ranking.once j k l lk is

  closed : (j : ℕ) → j < k + 1 → mark_of u (slice_index places j) ≡ Open → ⊥
  closed j l e = go (tell_equal j k)
    where
      number_in : j < length places → slice_index places j < command_count s.tables
      number_in a = ranking.within j a

      here : (mark_of r (slice_index places k) ≡ Open) ⊎ ((mark_of r (slice_index places k) ≡ Taken) ⊎ (mark_of r (slice_index places k) ≡ Blocked)) → mark_of u (slice_index places k) ≡ Open → ⊥
      here (inl a) f = let z : Taken ≡ Open = sym (taken_s a) ∙ f in cc (z)
      here (inr (inl a)) f = not_taken a
      here (inr (inr a)) f = let z : Blocked ≡ Open = sym a ∙ sym (kept_s (slice_index places k) own_in (λ q. let y : Blocked ≡ Open = sym a ∙ q in cc (y))) ∙ f in cc (z)

      go : (j ≡ k) ⊎ ((j ≡ k) → ⊥) → ⊥
      go (inl same) = here (tell_mark (mark_of r (slice_index places k))) (ap (λ q. mark_of u (slice_index places q)) (sym same) ∙ e)
      go (inr apart) = let low : j < k = omega arith in
          w.before j low (sym (kept_s (slice_index places j) (number_in (omega arith)) (w.before j low)) ∙ e)

  first : (i : ℕ) → i < command_count s.tables → mark_of u i ≡ Taken → (j : ℕ) × (j < k + 1) × (slice_index places j ≡ i)
  first i l e = go (tell_equal i (slice_index places k))
    where
      wider : (j : ℕ) × (j < k) × (slice_index places j ≡ i) → (j : ℕ) × (j < k + 1) × (slice_index places j ≡ i)
      wider (j, a, b) = (j, omega arith, b)

      go : (i ≡ slice_index places k) ⊎ ((i ≡ slice_index places k) → ⊥) → (j : ℕ) × (j < k + 1) × (slice_index places j ≡ i)
      go (inl same) = (k, omega arith, sym same)
      go (inr apart) = wider (w.taken i l (others_s i l apart e))

  next_way : (t : Holding) (drawn : List Change) (cmd : ℕ → Change) (path : ℕ → Node) → IsOf t drawn cmd path s.tables → IsOnWayTo cmd r (map cmd places) (map cmd (drop k places)) →
      IsOnWayTo cmd u (map cmd places) (map cmd (drop (k + 1) places))
  next_way t drawn cmd path h v = go (tell_mark (mark_of r (slice_index places k)))
    where
      Next : Type 0
      Next = IsOnWayTo cmd u (map cmd places) (map cmd (drop (k + 1) places))

      rest : map cmd (drop k places) ≡ cmd (slice_index places k) ∷ map cmd (drop (k + 1) places)
      rest = ap (λ x. map cmd x) (drop-cons places k 0 lk) ∙ ap (λ x. cmd (slice_index places k) ∷ map cmd (drop x places)) (let e : suc k ≡ k + 1 = omega arith in e)

      found : list_any (conflicts (cmd (slice_index places k))) v.taken ≡ true → (j : ℕ) × (j < command_count s.tables) × (mark_of r j ≡ Taken) × Clash s.tables (slice_index places k) j
      found e = take_it (any_from (conflicts (cmd (slice_index places k))) v.taken e)
        where
          take_it : (c : Change) × (is_in v.taken c ≡ true) × (conflicts (cmd (slice_index places k)) c ≡ true) → (j : ℕ) × (j < command_count s.tables) × (mark_of r j ≡ Taken) × Clash s.tables (slice_index places k) j
          take_it (c, a, x) = place (v.is.only c a)
            where
              place : (i : ℕ) × (i < command_count r.tables) × (mark_of r i ≡ Taken) × (cmd i ≡ c) → (j : ℕ) × (j < command_count s.tables) × (mark_of r j ≡ Taken) × Clash s.tables (slice_index places k) j
              place (i, li, m, is) = let l : i < command_count s.tables = subst (λ q. i < q) count_r li in
                  (i, l, m, conflicts_clash t drawn cmd path s.tables sound h (slice_index places k) i own_in l (ap (conflicts (cmd (slice_index places k))) is ∙ x))

      exact_clash : (j : ℕ) → j < command_count s.tables → mark_of r j ≡ Taken → Clash s.tables (slice_index places k) j → mark_of r (slice_index places k) ≡ Blocked
      exact_clash j l m x = w.settled.exact.clash (slice_index places k) j (in_r (slice_index places k) own_in) (in_r j l) m (subst (λ (b : Tables). Clash b (slice_index places k) j) (sym w.tables) x)

      exact_cause : mark_of r (slice_index places k) ≡ Blocked → list_any (conflicts (cmd (slice_index places k))) v.taken ≡ true
      exact_cause e = place (w.settled.exact.blocked (slice_index places k) (in_r (slice_index places k) own_in) e)
        where
          place : (j : ℕ) × (j < command_count r.tables) × (mark_of r j ≡ Taken) × Clash r.tables (slice_index places k) j → list_any (conflicts (cmd (slice_index places k))) v.taken ≡ true
          place (j, lj, m, x) = any_in (conflicts (cmd (slice_index places k))) v.taken (cmd j) (v.is.has j lj m)
              (clash_conflicts t drawn cmd path s.tables sound h (slice_index places k) j own_in (subst (λ q. j < q) count_r lj) (subst (λ (b : Tables). Clash b (slice_index places k) j) w.tables x))

      taking : mark_of r (slice_index places k) ≡ Open → Next
      taking e = record {
        taken = cmd (slice_index places k) ∷ v.taken;
        is = record { has = has; only = only };
        same = v.same ∙ ap (λ x. greedy_scan x v.taken) rest ∙ greedy_takes (cmd (slice_index places k)) (map cmd (drop (k + 1) places)) v.taken (no_false (list_any (conflicts (cmd (slice_index places k))) v.taken) (λ x. free (found x)));
      }
        where
          free : (j : ℕ) × (j < command_count s.tables) × (mark_of r j ≡ Taken) × Clash s.tables (slice_index places k) j → ⊥
          free (j, l, m, x) = let z : Blocked ≡ Open = sym (exact_clash j l m x) ∙ e in cc (z)

          has : (i : ℕ) → i < command_count u.tables → mark_of u i ≡ Taken → is_in (cmd (slice_index places k) ∷ v.taken) (cmd i) ≡ true
          has i li m = pick (tell_equal i (slice_index places k))
            where
              l : i < command_count s.tables
              l = subst (λ q. i < q) count_u li

              pick : (i ≡ slice_index places k) ⊎ ((i ≡ slice_index places k) → ⊥) → is_in (cmd (slice_index places k) ∷ v.taken) (cmd i) ≡ true
              pick (inl same) = or_left (same_change (cmd i) (cmd (slice_index places k))) (is_in v.taken (cmd i)) (same_change_at (cmd i) (cmd (slice_index places k)) (ap cmd same))
              pick (inr apart) = or_right (same_change (cmd i) (cmd (slice_index places k))) (is_in v.taken (cmd i)) (v.is.has i (in_r i (subst (λ q. i < q) count_u li)) (others_s i (subst (λ q. i < q) count_u li) apart m))

          only : (c : Change) → is_in (cmd (slice_index places k) ∷ v.taken) c ≡ true → (i : ℕ) × (i < command_count u.tables) × (mark_of u i ≡ Taken) × (cmd i ≡ c)
          only c a = pick (or_cases (same_change c (cmd (slice_index places k))) (is_in v.taken c) a)
            where
              Out : Type 0
              Out = (i : ℕ) × (i < command_count u.tables) × (mark_of u i ≡ Taken) × (cmd i ≡ c)

              old : (i : ℕ) × (i < command_count r.tables) × (mark_of r i ≡ Taken) × (cmd i ≡ c) → Out
              old (i, li, m, is) = (i, subst (λ (x : Tables). i < command_count x) (sym tables) li, kept i li (λ q. let z : Taken ≡ Open = sym m ∙ q in cc (z)) ∙ m, is)

              pick : (same_change c (cmd (slice_index places k)) ≡ true) ⊎ (is_in v.taken c ≡ true) → Out
              pick (inl x) = (slice_index places k, rw count_u own_in, taken_s e, sym (same_change_is c (cmd (slice_index places k)) x))
              pick (inr x) = old (v.is.only c x)

      leaving : mark_of r (slice_index places k) ≡ Blocked → Next
      leaving e = record {
        taken = v.taken;
        is = subst (λ x. IsTakenList cmd x v.taken) (sym (stays_s (λ q. let z : Blocked ≡ Open = sym e ∙ q in cc (z)))) v.is;
        same = v.same ∙ ap (λ x. greedy_scan x v.taken) rest ∙ greedy_leaves (cmd (slice_index places k)) (map cmd (drop (k + 1) places)) v.taken (exact_cause e);
      }

      go : (mark_of r (slice_index places k) ≡ Open) ⊎ ((mark_of r (slice_index places k) ≡ Taken) ⊎ (mark_of r (slice_index places k) ≡ Blocked)) → Next
      go (inl e) = taking e
      go (inr (inl e)) = absurd (not_taken e)
      go (inr (inr e)) = leaving e

  pub scan_step : IsScan s u places (k + 1) from past
  scan_step = record {
    tables = tables ∙ w.tables;
    settled = settled;
    before = closed;
    taken = first;
    way = (λ t drawn cmd path h. next_way t drawn cmd path h (w.way t drawn cmd path h));
    steps = omega (arith, w.steps, cost);
  }

pub scan_ends : (s r : State) (places : List ℕ) (k from to : ℕ) → IsSound s.tables → IsRanking (command_count s.tables) places → length places ≤ k → IsScan s r places k from to →
    (t : Holding) (drawn : List Change) (cmd : ℕ → Change) (path : ℕ → Node) → IsOf t drawn cmd path s.tables → (ms : List Change) × IsFirstMerger t drawn (map cmd places) ms × IsMarked cmd r ms
scan_ends s r places k from to sound ranking all w t drawn cmd path h = (greedy_scan (map cmd places) [], best, marked)
  where
    turn_in : (j : ℕ) → j < length places → slice_index places j < command_count s.tables
    turn_in j l = ranking.within j l

    part : IsSubset (map cmd places) drawn
    part c e = go (ranked_from cmd places c e)
      where
        go : (j : ℕ) × (j < length places) × (cmd (slice_index places j) ≡ c) → is_in drawn c ≡ true
        go (j, l, is) = ap (is_in drawn) (sym is) ∙ h.here (slice_index places j) (turn_in j l)

    full : IsSubset drawn (map cmd places)
    full c e = go (h.all c e)
      where
        go : (i : ℕ) × (i < command_count s.tables) × (cmd i ≡ c) → is_in (map cmd places) c ≡ true
        go (i, l, is) = at (ranking.all i l)
          where
            at : (j : ℕ) × (j < length places) × (slice_index places j ≡ i) → is_in (map cmd places) c ≡ true
            at (j, lj, e) = ap (is_in (map cmd places)) (sym (ap cmd e ∙ is)) ∙ ranked_in cmd places j lj

    best : IsFirstMerger t drawn (map cmd places) (greedy_scan (map cmd places) [])
    best = greedy_first t drawn h.tree h.known (map cmd places) part full
        (ranked_differ cmd places (λ j l a b e. ranking.once j l a b (h.once (slice_index places j) (slice_index places l) (turn_in j (omega arith)) (turn_in l b) e)))

    v : IsOnWayTo cmd r (map cmd places) (map cmd (drop k places))
    v = w.way t drawn cmd path h

    same : greedy_scan (map cmd places) [] ≡ (w.way t drawn cmd path h).taken
    same = (w.way t drawn cmd path h).same ∙ ap (λ x. greedy_scan (map cmd x) (w.way t drawn cmd path h).taken) (drop_all k places (omega arith))

    marked : IsMarked cmd r (greedy_scan (map cmd places) [])
    marked i li = go (tell_mark (mark_of r i))
      where
        l : i < command_count s.tables
        l = subst (λ (x : Tables). i < command_count x) w.tables li

        no : mark_of r i ≡ Blocked → is_in (w.way t drawn cmd path h).taken (cmd i) ≡ true → ⊥
        no m e = at ((w.way t drawn cmd path h).is.only (cmd i) e)
          where
            at : (j : ℕ) × (j < command_count r.tables) × (mark_of r j ≡ Taken) × (cmd j ≡ cmd i) → ⊥
            at (j, lj, n, is) = let q : j ≡ i = h.once j i (subst (λ (x : Tables). j < command_count x) w.tables lj) (subst (λ (x : Tables). i < command_count x) w.tables li) is in
                let z : Taken ≡ Blocked = sym n ∙ ap (mark_of r) q ∙ m in cc (z)

        not_open : mark_of r i ≡ Open → ⊥
        not_open e = at (ranking.all i (subst (λ (x : Tables). i < command_count x) w.tables li))
          where
            at : (j : ℕ) × (j < length places) × (slice_index places j ≡ i) → ⊥
            at (j, lj, is) = w.before j (omega arith) (ap (mark_of r) is ∙ e)

        go : (mark_of r i ≡ Open) ⊎ ((mark_of r i ≡ Taken) ⊎ (mark_of r i ≡ Blocked)) →
            ((mark_of r i ≡ Taken) × (is_in (greedy_scan (map cmd places) []) (cmd i) ≡ true)) ⊎ ((mark_of r i ≡ Blocked) × (is_in (greedy_scan (map cmd places) []) (cmd i) ≡ false))
        go (inl e) = absurd (not_open e)
        go (inr (inl e)) = inl (e, ap (λ x. is_in x (cmd i)) same ∙ (w.way t drawn cmd path h).is.has i li e)
        go (inr (inr e)) = inr (e, ap (λ x. is_in x (cmd i)) same ∙ no_false (is_in (w.way t drawn cmd path h).taken (cmd i)) (no e))

-- a ranking is no longer than the commands
pub ranking_few : (count : ℕ) (places : List ℕ) → IsRanking count places → length places ≤ count
ranking_few count places w = few (λ k. slice_index places k) (length places) count w.within w.once

credit_most : (s : State) → credit s ≤ 18 * command_count s.tables
credit_most s =
    let a : opens s ≤ command_count s.tables = count_most (is_open s) (command_count s.tables) in
    let b : unshut s ≤ command_count s.tables = count_most (is_unshut s) (command_count s.tables) in
    let d : covered s ≤ command_count s.tables = count_most (is_covered s) (command_count s.tables) in
    let e : untaken s ≤ command_count s.tables = count_most (is_untaken s) (command_count s.tables) in
    omega arith

pub scan_cost : (s r : State) (places : List ℕ) (k from to : ℕ) → IsRanking (command_count s.tables) places → k ≤ length places → IsScan s r places k from to → to ≤ from + 20 * command_count s.tables
scan_cost s r places k from to ranking l w =
    let a : length places ≤ command_count s.tables = ranking_few (command_count s.tables) places ranking in
    let b : credit s ≤ 18 * command_count s.tables = credit_most s in
    let c : to + credit r ≤ from + credit s + 2 * k = w.steps in
    omega arith
