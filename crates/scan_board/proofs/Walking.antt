-- The lists of commands and of children, and what a walk along them costs.
use Rattle.std.proofs.Common.{◌≡◌, ℕ, zero, suc, ◌+◌, ◌-◌, ◌*◌, ◌<◌, ◌≤◌, Bool, true, false, refl, ap, sym, subst, ◌∙◌, arith, ◌⊎◌, inl, inr, List, length, Option, Some, None, nat_eq, nat_lt, slice_set, slice_index_or, get_or-set_same, get_or-set_other, length-append}
use Rattle.std.specs.Prelude.{if◌then◌else◌, unwrap_or, ◌&&◌, ◌||◌, not, [], ◌∷◌, ◌++◌}
use Rattle.std.proofs.lemmas.Grind.{common_steps}
use Rattle.scan_board.specs.declared.board.Mark.{Mark}
use Rattle.scan_board.specs.declared.board.Mark.TheVariants.{Open, Taken, Blocked}
use Rattle.scan_board.specs.declared.turning.Rule.{Rule}
use Rattle.scan_board.specs.Tables.{Tables, State, IsSound, IsBoard, count, opens, is_open, is_open_mark, mark_of, node_of, next_of, first_of, leaves_of, in_row, command_count, node_count, credit, unshut, is_unshut, is_shut, is_bare, is_below, is_covered, is_bare_at, is_number, covered, parent_of, child_of, sibling_of, untaken, is_untaken, has_taken, is_taken_mark}
use Rattle.scan_board.specs.Turns.{blocked_by, falls_under_rule, Grows, IsOptionWithin, IsWithin, IsAlone, is_upto, height}
use Rattle.scan_board.proofs.Counting.{bit, tell_equal, count_gap, count_one, count_same, count_some, count_sum, count_within, count_most}

pub nat_eq_is : (a b : ℕ) → nat_eq a b ≡ true → a ≡ b
nat_eq_is a b e = grind (arith, common_steps)

pub nat_eq_at : (a b : ℕ) → a ≡ b → nat_eq a b ≡ true
nat_eq_at a b e = grind (arith, common_steps)

pub nat_eq_not : (a b : ℕ) → (a ≡ b → ⊥) → nat_eq a b ≡ false
nat_eq_not a b e = grind (arith, common_steps)

pub opens_block : (s r : State) (k : ℕ) → k < length s.marks → k < command_count s.tables → r.tables ≡ s.tables → r.marks ≡ slice_set s.marks k Blocked → is_open s k ≡ true → opens s ≡ opens r + 1
opens_block s r k l m t e o = rw t (count_one (is_open s) (is_open r) k (command_count s.tables) m o here others)
  where
    here : is_open r k ≡ false
    here = rw e (ap is_open_mark (get_or-set_same s.marks k Blocked Blocked l))

    others : (i : ℕ) → i < command_count s.tables → (i ≡ k → ⊥) → is_open s i ≡ is_open r i
    others i j a = rw e (ap is_open_mark (sym (get_or-set_other s.marks k i Blocked Blocked a)))

-- from a command of a node to the next one
pub count_next : (t : Tables) (n k : ℕ) → IsSound t → k < command_count t → node_of t k ≡ n → count (in_row t n) (unwrap_or (next_of t k) (length t.nodes)) ≡ count (in_row t n) k + 1
unfolding count
count_next t n k h l e =
    let own : in_row t n k ≡ true = nat_eq_at (node_of t k) n e in
    let first : count (in_row t n) (suc k) ≡ count (in_row t n) k + 1 = rw own (omega arith) in
    count_gap (in_row t n) (suc k) (unwrap_or (next_of t k) (length t.nodes)) (h.next_in k l) (λ i a b p. h.next_least k i l a b (nat_eq_is (node_of t i) n p ∙ sym e)) ∙ first

-- the row of a node has been walked up to the next command, or whole
pub record IsRowWalk (s r : State) (n : ℕ) (rule : Rule) (next : Option ℕ) (from to : ℕ) : Type 0 where
  pub board : IsBoard r
  pub same : r ≡ record s { marks = r.marks; dirs = r.dirs }
  pub next_at : (k : ℕ) → next ≡ Some k → (k < command_count s.tables) × (node_of s.tables k ≡ n)
  pub done : (i : ℕ) → i < command_count s.tables → i < unwrap_or next (length s.tables.nodes) → mark_of r i ≡ blocked_by s n rule i
  pub left : (i : ℕ) → unwrap_or next (length s.tables.nodes) ≤ i → mark_of r i ≡ mark_of s i
  pub steps : to + 8 * opens r ≤ from + 8 * opens s + count (in_row s.tables n) (unwrap_or next (length s.tables.nodes))

-- outside the row nothing is blocked
pub blocked_apart : (s : State) (n : ℕ) (rule : Rule) (i : ℕ) → (node_of s.tables i ≡ n → ⊥) → blocked_by s n rule i ≡ mark_of s i
blocked_apart s n rule i a = let e : in_row s.tables n i ≡ false = nat_eq_not (node_of s.tables i) n a in rw e refl

pub row_start : (s : State) (n : ℕ) (rule : Rule) (from : ℕ) → IsBoard s → n < node_count s.tables → IsRowWalk s s n rule (Some (first_of s.tables n)) from from
row_start s n rule from h l = record {
  board = h;
  same = refl;
  next_at = (λ k e. let f : first_of s.tables n ≡ k = cc in subst (λ x. (x < command_count s.tables) × (node_of s.tables x ≡ n)) f (h.sound.first_in n l, h.sound.first_at n l));
  done = (λ i a b. sym (blocked_apart s n rule i (h.sound.first_least n i l b)));
  left = (λ i a. refl);
  steps = omega arith;
}

same_blocked : (s r : State) (n : ℕ) (rule : Rule) (i : ℕ) → r.tables ≡ s.tables → mark_of r i ≡ mark_of s i → blocked_by r n rule i ≡ blocked_by s n rule i
same_blocked s r n rule i t e = rw (t, e) refl

pub row_step : (s r u : State) (n : ℕ) (rule : Rule) (k : ℕ) (from to past : ℕ) → IsBoard s → IsRowWalk s r n rule (Some k) from to → IsBoard u → u ≡ record r { marks = u.marks; dirs = u.dirs } →
    mark_of u k ≡ blocked_by r n rule k → ((i : ℕ) → (i ≡ k → ⊥) → mark_of u i ≡ mark_of r i) → past + 8 * opens u ≤ to + 8 * opens r + 1 → IsRowWalk s u n rule (next_of s.tables k) from past
row_step s r u n rule k from to past h w hu same here others cost = record {
  board = hu;
  same = all;
  next_at = (λ j e. let x = h.sound.next_at k j inside e in (x.0, x.1 ∙ own));
  done = go;
  left = (λ i a. others i (λ e. omega (arith, h.sound.next_in k inside)) ∙ w.left i (omega (arith, h.sound.next_in k inside)));
  steps = let c = count_next s.tables n k h.sound inside own in omega (arith, w.steps);
}
  where
    tables : r.tables ≡ s.tables
    tables = ap (λ x. x.tables) w.same

    all : u ≡ record s { marks = u.marks; dirs = u.dirs }
    all = grind (arith, same, w.same)

    inside : k < command_count s.tables
    inside = (w.next_at k refl).0

    own : node_of s.tables k ≡ n
    own = (w.next_at k refl).1

    pick : (i : ℕ) → (i < k) ⊎ ((i ≡ k) ⊎ (k < i))
    pick i = grind arith

    go : (i : ℕ) → i < command_count s.tables → i < unwrap_or (next_of s.tables k) (length s.tables.nodes) → mark_of u i ≡ blocked_by s n rule i
    go i a b = cases (pick i)
      where
        cases : (i < k) ⊎ ((i ≡ k) ⊎ (k < i)) → mark_of u i ≡ blocked_by s n rule i
        cases (inl below) = others i (λ e. omega arith) ∙ w.done i a below
        cases (inr (inl same)) = subst (λ x. mark_of u x ≡ blocked_by s n rule x) (sym same) (here ∙ same_blocked s r n rule k tables (w.left k (omega arith)))
        cases (inr (inr above)) = others i (λ e. omega arith) ∙ w.left i (omega arith) ∙ sym (blocked_apart s n rule i (λ e. h.sound.next_least k i inside above b (e ∙ sym own)))

pub row_step_to : (s r u : State) (n : ℕ) (rule : Rule) (k : ℕ) (old next : Option ℕ) (from to past : ℕ) → IsBoard s → old ≡ Some k → IsRowWalk s r n rule old from to → IsBoard u → next ≡ next_of r.tables k → u ≡ record r { marks = u.marks; dirs = u.dirs } →
    mark_of u k ≡ blocked_by r n rule k → ((i : ℕ) → (i ≡ k → ⊥) → mark_of u i ≡ mark_of r i) → past + 8 * opens u ≤ to + 8 * opens r + 1 → IsRowWalk s u n rule next from past
row_step_to s r u n rule k old next from to past h o w hu e same here others cost =
    let tables : r.tables ≡ s.tables = ap (λ x. x.tables) w.same in
    let is : next_of s.tables k ≡ next = cc in
    subst (λ x. IsRowWalk s u n rule x from past) is (row_step s r u n rule k from to past h (subst (λ x. IsRowWalk s r n rule x from to) o w) hu same here others cost)

pub row_inside : (s r : State) (n : ℕ) (rule : Rule) (k : ℕ) (old : Option ℕ) (from to : ℕ) → IsBoard s → old ≡ Some k → IsRowWalk s r n rule old from to →
    (k < command_count r.tables) × (node_of r.tables k ≡ n) × (r.tables ≡ s.tables)
row_inside s r n rule k old from to h o w =
    let tables : r.tables ≡ s.tables = ap (λ x. x.tables) w.same in
    let x = w.next_at k o in
    (rw tables x.0, rw tables x.1, tables)

-- the measure falls
pub row_falls : (s r u : State) (n : ℕ) (rule : Rule) (k : ℕ) (old next : Option ℕ) (from to : ℕ) → IsBoard s → old ≡ Some k → IsRowWalk s r n rule old from to → next ≡ next_of r.tables k → u.tables ≡ r.tables →
    length u.tables.nodes - unwrap_or next (length u.tables.nodes) < length r.tables.nodes - unwrap_or old (length r.tables.nodes)
row_falls s r u n rule k old next from to h o w e t =
    let tables : r.tables ≡ s.tables = ap (λ x. x.tables) w.same in
    let low : k < unwrap_or (next_of s.tables k) (length s.tables.nodes) = h.sound.next_in k (w.next_at k o).0 in
    let inside : k < length s.tables.nodes = (w.next_at k o).0 in
    rw (t, o, e, tables) (omega arith)

pub row_ends : (s r : State) (n : ℕ) (rule : Rule) (old : Option ℕ) (from to : ℕ) → old ≡ None → IsRowWalk s r n rule old from to →
    ((i : ℕ) → i < command_count s.tables → mark_of r i ≡ blocked_by s n rule i) × (to + 8 * opens r ≤ from + 8 * opens s + count (in_row s.tables n) (command_count s.tables))
row_ends s r n rule old from to o w = let v : IsRowWalk s r n rule None from to = subst (λ x. IsRowWalk s r n rule x from to) o w in ((λ i a. v.done i a a), v.steps)

blocked_or : (b : Bool) (m : Mark) → (b ≡ true → m ≡ Open) → ((if b then Blocked else m) ≡ m) ⊎ ((m ≡ Open) × ((if b then Blocked else m) ≡ Blocked))
blocked_or true m e = inr (e refl, refl)
blocked_or false m e = inl refl

open_is : (m : Mark) (a f : Bool) → (a && (is_open_mark m && f)) ≡ true → m ≡ Open
open_is Open a f e = refl
open_is Taken a f e = absurd (grind arith)
open_is Blocked a f e = absurd (grind arith)

pub grows_row : (s r : State) (n : ℕ) (rule : Rule) → ((i : ℕ) → i < command_count s.tables → mark_of r i ≡ blocked_by s n rule i) → Grows s r
grows_row s r n rule e i l = subst (λ m. (m ≡ mark_of s i) ⊎ ((mark_of s i ≡ Open) × (m ≡ Blocked))) (sym (e i l))
    (blocked_or (in_row s.tables n i && (is_open s i && falls_under_rule rule (leaves_of s.tables i))) (mark_of s i) (open_is (mark_of s i) (in_row s.tables n i) (falls_under_rule rule (leaves_of s.tables i))))

pub grows_refl : (s : State) → Grows s s
grows_refl s i l = inl refl

-- only the marks count
pub grows_to : (s r u : State) → u.marks ≡ r.marks → Grows s r → Grows s u
grows_to s r u e h i l = rw e (h i l)

pub grows_from : (s r u : State) → s.marks ≡ r.marks → s.tables ≡ r.tables → Grows r u → Grows s u
grows_from s r u e t h i l = rw e (h i (subst (λ x. i < command_count x) t l))

join_marks : (a b c : Mark) → (b ≡ a) ⊎ ((a ≡ Open) × (b ≡ Blocked)) → (c ≡ b) ⊎ ((b ≡ Open) × (c ≡ Blocked)) → (c ≡ a) ⊎ ((a ≡ Open) × (c ≡ Blocked))
join_marks a b c (inl x) (inl y) = inl (y ∙ x)
join_marks a b c (inl x) (inr y) = inr (sym x ∙ y.0, y.1)
join_marks a b c (inr x) (inl y) = inr (x.0, y ∙ x.1)
join_marks a b c (inr x) (inr y) = inr (x.0, y.1)

pub grows_trans : (s r u : State) → r.tables ≡ s.tables → Grows s r → Grows r u → Grows s u
grows_trans s r u t a b i l = join_marks (mark_of s i) (mark_of r i) (mark_of u i) (a i l) (b i (subst (λ x. i < command_count x) (sym t) l))

-- the row of a node is not empty
pub row_some : (t : Tables) (n : ℕ) → IsSound t → n < node_count t → 1 ≤ count (in_row t n) (command_count t)
row_some t n h l = count_some (in_row t n) (first_of t n) (command_count t) (h.first_in n l) (nat_eq_at (node_of t (first_of t n)) n (h.first_at n l))

pub unshut_falls : (s r : State) (n : ℕ) → n < length s.shut → r.tables ≡ s.tables → r.shut ≡ slice_set s.shut n true → is_shut s n ≡ false → unshut s ≡ unshut r + count (in_row s.tables n) (command_count s.tables)
unshut_falls s r n l t e f =
    let k : count (is_unshut s) (command_count s.tables) ≡ count (is_unshut r) (command_count s.tables) + count (in_row s.tables n) (command_count s.tables) = count_sum (is_unshut s) (is_unshut r) (in_row s.tables n) (command_count s.tables) each in
    let m : count (is_unshut r) (command_count r.tables) ≡ count (is_unshut r) (command_count s.tables) = ap (λ (x : Tables). count (is_unshut r) (command_count x)) t in
    omega arith
  where
    each : (i : ℕ) → i < command_count s.tables → bit (is_unshut s i) ≡ bit (is_unshut r i) + bit (in_row s.tables n i)
    each i a = cases (tell_equal (node_of s.tables i) n)
      where
        cases : (node_of s.tables i ≡ n) ⊎ ((node_of s.tables i ≡ n) → ⊥) → bit (is_unshut s i) ≡ bit (is_unshut r i) + bit (in_row s.tables n i)
        cases (inl same) =
            let old : is_shut s (node_of s.tables i) ≡ false = rw same f in
            let new : is_shut r (node_of r.tables i) ≡ true = rw (t, same, e) (get_or-set_same s.shut n true false l) in
            let row : in_row s.tables n i ≡ true = nat_eq_at (node_of s.tables i) n same in
            rw (old, new, row) refl
        cases (inr apart) =
            let new : is_shut r (node_of r.tables i) ≡ is_shut s (node_of s.tables i) = rw (t, e) (get_or-set_other s.shut n (node_of s.tables i) true false apart) in
            let row : in_row s.tables n i ≡ false = nat_eq_not (node_of s.tables i) n apart in
            rw (new, row) (omega arith)

pub opens_same : (s r : State) → r.tables ≡ s.tables → r.marks ≡ s.marks → opens r ≡ opens s
opens_same s r t e = ap (λ (m : List Mark). count (λ (i : ℕ). is_open_mark (slice_index_or m i Blocked)) (length r.tables.nodes)) e ∙
    ap (λ (x : Tables). count (λ (i : ℕ). is_open_mark (slice_index_or s.marks i Blocked)) (length x.nodes)) t

pub unshut_same : (s r : State) → r.tables ≡ s.tables → r.shut ≡ s.shut → unshut r ≡ unshut s
unshut_same s r t e = ap (λ (x : Tables). count (λ (i : ℕ). not (slice_index_or r.shut (node_of x i) false)) (length x.nodes)) t ∙
    ap (λ (m : List Bool). count (λ (i : ℕ). not (slice_index_or m (node_of s.tables i) false)) (length s.tables.nodes)) e

pub covered_same : (s r : State) → r.tables ≡ s.tables → r.bare ≡ s.bare → covered r ≡ covered s
covered_same s r t e = ap (λ (x : Tables). count (is_covered r) (command_count x)) t ∙ count_same (is_covered r) (is_covered s) (command_count s.tables) each
  where
    at : (o : Option ℕ) → is_bare_at r o ≡ is_bare_at s o
    at None = refl
    at (Some p) = ap (λ (m : List Bool). slice_index_or m p false) e

    each : (i : ℕ) → i < command_count s.tables → is_covered r i ≡ is_covered s i
    each i l = ap (λ (x : Tables). not (is_bare_at r (parent_of x (node_of x i)))) t ∙ ap not (at (parent_of s.tables (node_of s.tables i)))

pub shut_cost : (s r u : State) (n from mid past : ℕ) → IsBoard s → n < node_count s.tables → r.tables ≡ s.tables → r.shut ≡ s.shut → u.tables ≡ r.tables → u.marks ≡ r.marks → u.shut ≡ slice_set r.shut n true → is_shut s n ≡ false →
    mid + 8 * opens r ≤ from + 1 + 8 * opens s + count (in_row s.tables n) (command_count s.tables) → past ≡ mid + 1 → past + 8 * opens u + 3 * unshut u ≤ from + 8 * opens s + 3 * unshut s
shut_cost s r u n from mid past h l t e ut um us f cost p =
    let o : opens u ≡ opens r = opens_same r u ut um in
    let fall : unshut s ≡ unshut u + count (in_row s.tables n) (command_count s.tables) = unshut_falls s u n (rw h.shut l) (ut ∙ t) (us ∙ ap (λ (x : List Bool). slice_set x n true) e) f in
    let some : 1 ≤ count (in_row s.tables n) (command_count s.tables) = row_some s.tables n h.sound l in
    omega arith

-- the way up has been walked, up to a node or to its end
pub record IsShutWalk (s r : State) (at : Option ℕ) (from to : ℕ) : Type 0 where
  pub board : IsBoard r
  pub same : r ≡ record s { marks = r.marks; dirs = r.dirs; shut = r.shut }
  pub at_in : IsOptionWithin at (node_count s.tables)
  pub grows : Grows s r
  pub paid : (p : ℕ) → at ≡ Some p → to + 8 * opens r + 3 * unshut r ≤ from + 8 * opens s + 3 * unshut s
  pub steps : to + 8 * opens r + 3 * unshut r ≤ from + 8 * opens s + 3 * unshut s + 1

pub lower_in : (o : Option ℕ) (n m : ℕ) → n < m → IsOptionWithin o n → IsOptionWithin o m
lower_in None n m l h = tt
lower_in (Some k) n m l h = omega arith

pub lower_falls : (o at : Option ℕ) (n : ℕ) → at ≡ Some n → IsOptionWithin o n → height o < height at
lower_falls None at n e h = rw e (omega arith)
lower_falls (Some k) at n e h = rw e (omega arith)

pub option_in : (o : Option ℕ) (n m : ℕ) → o ≡ Some n → IsOptionWithin o m → n < m
option_in o n m e h = subst (λ x. IsOptionWithin x m) e h

pub parent_lower : (t : Tables) (n : ℕ) → IsSound t → n < node_count t → IsOptionWithin (parent_of t n) n
parent_lower t n h l = go (parent_of t n) refl
  where
    go : (o : Option ℕ) → parent_of t n ≡ o → IsOptionWithin o n
    go None e = tt
    go (Some p) e = h.parent_in n p l e

pub shut_step : (s r u : State) (n : ℕ) (at next : Option ℕ) (from to past : ℕ) → at ≡ Some n → IsShutWalk s r at from to → IsBoard u → u ≡ record r { marks = u.marks; dirs = u.dirs; shut = u.shut } → IsOptionWithin next n → Grows r u →
    ((p : ℕ) → next ≡ Some p → past + 8 * opens u + 3 * unshut u ≤ to + 8 * opens r + 3 * unshut r) → past + 8 * opens u + 3 * unshut u ≤ to + 8 * opens r + 3 * unshut r + 1 → IsShutWalk s u next from past
shut_step s r u n at next from to past a w hu same lower grows paid steps = record {
  board = hu;
  same = grind (arith, same, w.same);
  at_in = lower_in next n (node_count s.tables) (option_in at n (node_count s.tables) a w.at_in) lower;
  grows = grows_trans s r u (ap (λ x. x.tables) w.same) w.grows grows;
  paid = (λ p e. let x = paid p e in let y = w.paid n a in omega arith);
  steps = let y = w.paid n a in omega arith;
}

pub covered_falls : (s r : State) (n : ℕ) → n < length s.bare → r.tables ≡ s.tables → r.bare ≡ slice_set s.bare n true → is_bare s n ≡ false → covered s ≡ covered r + count (is_below s.tables n) (command_count s.tables)
covered_falls s r n l t e f =
    let k : count (is_covered s) (command_count s.tables) ≡ count (is_covered r) (command_count s.tables) + count (is_below s.tables n) (command_count s.tables) = count_sum (is_covered s) (is_covered r) (is_below s.tables n) (command_count s.tables) each in
    let m : count (is_covered r) (command_count r.tables) ≡ count (is_covered r) (command_count s.tables) = ap (λ (x : Tables). count (is_covered r) (command_count x)) t in
    omega arith
  where
    at : (o : Option ℕ) → bit (not (is_bare_at s o)) ≡ bit (not (is_bare_at r o)) + bit (is_number o n)
    at None = refl
    at (Some p) = cases (tell_equal p n)
      where
        cases : (p ≡ n) ⊎ ((p ≡ n) → ⊥) → bit (not (is_bare s p)) ≡ bit (not (is_bare r p)) + bit (nat_eq p n)
        cases (inl same) =
            let old : is_bare s p ≡ false = rw same f in
            let new : is_bare r p ≡ true = rw (same, e) (get_or-set_same s.bare n true false l) in
            let row : nat_eq p n ≡ true = nat_eq_at p n same in
            rw (old, new, row) refl
        cases (inr apart) =
            let new : is_bare r p ≡ is_bare s p = rw e (get_or-set_other s.bare n p true false apart) in
            let row : nat_eq p n ≡ false = nat_eq_not p n apart in
            rw (new, row) (omega arith)

    each : (i : ℕ) → i < command_count s.tables → bit (is_covered s i) ≡ bit (is_covered r i) + bit (is_below s.tables n i)
    each i a = rw t (at (parent_of s.tables (node_of s.tables i)))

-- the children of a node have been walked up to the next child, or all
pub record IsCoverWalk (s r : State) (n : ℕ) (next : Option ℕ) (from to : ℕ) : Type 0 where
  pub board : IsBoard r
  pub same : r ≡ record s { marks = r.marks; dirs = r.dirs; pile = r.pile }
  pub next_at : (k : ℕ) → next ≡ Some k → (k < node_count s.tables) × (parent_of s.tables k ≡ Some n)
  pub grows : Grows s r
  pub within : IsWithin r.pile (node_count s.tables)
  pub pile : length r.pile ≤ length s.pile + count (is_upto s.tables n (unwrap_or next (node_count s.tables))) (command_count s.tables)
  pub steps : to + 8 * opens r + 3 * length r.pile ≤ from + 8 * opens s + 3 * length s.pile + 6 * count (is_upto s.tables n (unwrap_or next (node_count s.tables))) (command_count s.tables)

pub within_push : (xs : List ℕ) (x n : ℕ) → IsWithin xs n → x < n → IsWithin (xs ++ x ∷ []) n
within_push [] x n h l = (l, tt)
within_push (y ∷ xs) x n h l = (h.0, within_push xs x n h.1 l)

pub within_pop : (xs : List ℕ) (x n : ℕ) → IsWithin (xs ++ x ∷ []) n → IsWithin xs n × (x < n)
within_pop [] x n h = (tt, h.0)
within_pop (y ∷ xs) x n h = let k = within_pop xs x n h.1 in ((h.0, k.0), k.1)

number_at : (o : Option ℕ) (n : ℕ) → is_number o n ≡ true → o ≡ Some n
number_at None n e = cc
number_at (Some p) n e = ap Some (nat_eq_is p n e)

number_is : (o : Option ℕ) (n : ℕ) → o ≡ Some n → is_number o n ≡ true
number_is None n e = cc
number_is (Some p) n e = let k : p ≡ n = cc in nat_eq_at p n k

lt_is : (a b : ℕ) → nat_lt a b ≡ true → a < b
lt_is a b e = grind (arith, common_steps)

lt_at : (a b : ℕ) → a < b → nat_lt a b ≡ true
lt_at a b e = grind (arith, common_steps)

lt_not : (a b : ℕ) → b ≤ a → nat_lt a b ≡ false
lt_not a b e = grind (arith, common_steps)

-- from a child to the next one
pub count_sibling : (t : Tables) (n k : ℕ) → IsSound t → k < node_count t → parent_of t k ≡ Some n →
    count (is_upto t n (unwrap_or (sibling_of t k) (node_count t))) (command_count t) ≡ count (is_upto t n k) (command_count t) + count (in_row t k) (command_count t)
count_sibling t n k h l e = count_sum (is_upto t n (unwrap_or (sibling_of t k) (node_count t))) (is_upto t n k) (in_row t k) (command_count t) each
  where
    low : k < unwrap_or (sibling_of t k) (node_count t)
    low = h.sibling_in k l

    three : (m : ℕ) → (m < k) ⊎ ((m ≡ k) ⊎ ((k < m) × ((m < unwrap_or (sibling_of t k) (node_count t)) ⊎ (unwrap_or (sibling_of t k) (node_count t) ≤ m))))
    three m = grind arith

    below : (m : ℕ) (b : Bool) (x y z : Bool) → x ≡ true → y ≡ true → z ≡ false → bit (b && x) ≡ bit (b && y) + bit z
    below m b x y z p q r = rw (p, q, r) (omega arith)

    here : (b x y z : Bool) → b ≡ true → x ≡ true → y ≡ false → z ≡ true → bit (b && x) ≡ bit (b && y) + bit z
    here b x y z o p q r = rw (o, p, q, r) refl

    gap : (b x y z : Bool) → b ≡ false → z ≡ false → bit (b && x) ≡ bit (b && y) + bit z
    gap b x y z o r = rw (o, r) refl

    past : (b x y z : Bool) → x ≡ false → y ≡ false → z ≡ false → bit (b && x) ≡ bit (b && y) + bit z
    past b x y z p q r = grind arith

    none : (b : Bool) → (b ≡ true → ⊥) → b ≡ false
    none true f = absurd (f refl)
    none false f = refl

    each : (i : ℕ) → i < command_count t → bit (is_upto t n (unwrap_or (sibling_of t k) (node_count t)) i) ≡ bit (is_upto t n k i) + bit (in_row t k i)
    each i a = cases (three (node_of t i))
      where
        b : Bool
        b = is_below t n i

        cases : (node_of t i < k) ⊎ ((node_of t i ≡ k) ⊎ ((k < node_of t i) × ((node_of t i < unwrap_or (sibling_of t k) (node_count t)) ⊎ (unwrap_or (sibling_of t k) (node_count t) ≤ node_of t i)))) →
            bit (is_upto t n (unwrap_or (sibling_of t k) (node_count t)) i) ≡ bit (is_upto t n k i) + bit (in_row t k i)
        cases (inl x) = below (node_of t i) (is_below t n i) _ _ _ (lt_at (node_of t i) _ (omega (arith, low))) (lt_at (node_of t i) k x) (nat_eq_not (node_of t i) k (λ s. omega arith))
        cases (inr (inl x)) = here (is_below t n i) _ _ _ (number_is (parent_of t (node_of t i)) n (ap (parent_of t) x ∙ e)) (lt_at (node_of t i) _ (omega (arith, low))) (lt_not (node_of t i) k (omega arith)) (nat_eq_at (node_of t i) k x)
        cases (inr (inr (x, inl y))) = gap (is_below t n i) _ _ _ (none (is_below t n i) (λ w. h.sibling_least k (node_of t i) n l x y e (number_at (parent_of t (node_of t i)) n w))) (nat_eq_not (node_of t i) k (λ s. omega arith))
        cases (inr (inr (x, inr y))) = past (is_below t n i) _ _ _ (lt_not (node_of t i) _ y) (lt_not (node_of t i) k (omega arith)) (nat_eq_not (node_of t i) k (λ s. omega arith))

pub upto_most : (t : Tables) (n m : ℕ) → count (is_upto t n m) (command_count t) ≤ count (is_below t n) (command_count t)
upto_most t n m = count_within (is_upto t n m) (is_below t n) (command_count t) (λ i l e. first (is_below t n i) (nat_lt (node_of t i) m) e)
  where
    first : (a b : Bool) → (a && b) ≡ true → a ≡ true
    first true b e = refl
    first false b e = absurd (grind arith)

pub cover_start : (s : State) (n : ℕ) (first : Option ℕ) (from : ℕ) → IsBoard s → n < node_count s.tables → first ≡ child_of s.tables n → IsWithin s.pile (node_count s.tables) → IsCoverWalk s s n first from from
cover_start s n first from h l e w = record {
  board = h;
  same = refl;
  next_at = (λ k o. h.sound.child_at n k l (sym e ∙ o));
  grows = grows_refl s;
  within = w;
  pile = omega arith;
  steps = omega arith;
}

pub cover_step : (s r u : State) (n k : ℕ) (old next : Option ℕ) (from to past : ℕ) → IsBoard s → old ≡ Some k → IsCoverWalk s r n old from to → IsBoard u → next ≡ sibling_of r.tables k →
    u ≡ record r { marks = u.marks; dirs = u.dirs; pile = r.pile ++ k ∷ [] } → Grows r u → past + 8 * opens u ≤ to + 8 * opens r + 2 + count (in_row r.tables k) (command_count r.tables) → IsCoverWalk s u n next from past
cover_step s r u n k old next from to past h o w hu e same grows cost = record {
  board = hu;
  same = all;
  next_at = (λ j f. let x = h.sound.sibling_at k j (w.next_at k o).0 (sym is ∙ f) in (x.0, x.1 ∙ (w.next_at k o).1));
  grows = grows_trans s r u tables w.grows grows;
  within = rw piled (within_push r.pile k (node_count s.tables) w.within (w.next_at k o).0);
  pile = omega (arith, v.pile, longer, sib, some);
  steps = omega (arith, v.steps, longer, sib, some, row, cost);
}
  where
    v : IsCoverWalk s r n (Some k) from to
    v = subst (λ x. IsCoverWalk s r n x from to) o w

    longer : length u.pile ≡ length r.pile + 1
    longer = ap length (ap (λ x. x.pile) same) ∙ length-append r.pile (k ∷ [])

    sib : count (is_upto s.tables n (unwrap_or next (node_count s.tables))) (command_count s.tables) ≡ count (is_upto s.tables n k) (command_count s.tables) + count (in_row s.tables k) (command_count s.tables)
    sib = ap (λ (x : Option ℕ). count (is_upto s.tables n (unwrap_or x (node_count s.tables))) (command_count s.tables)) (e ∙ ap (λ (x : Tables). sibling_of x k) (ap (λ x. x.tables) w.same)) ∙ count_sibling s.tables n k h.sound (w.next_at k o).0 (w.next_at k o).1

    some : 1 ≤ count (in_row s.tables k) (command_count s.tables)
    some = row_some s.tables k h.sound (w.next_at k o).0

    row : count (in_row r.tables k) (command_count r.tables) ≡ count (in_row s.tables k) (command_count s.tables)
    row = ap (λ (x : Tables). count (in_row x k) (command_count x)) (ap (λ x. x.tables) w.same)

    tables : r.tables ≡ s.tables
    tables = ap (λ x. x.tables) w.same

    all : u ≡ record s { marks = u.marks; dirs = u.dirs; pile = u.pile }
    all = grind (arith, same, w.same)

    is : next ≡ sibling_of s.tables k
    is = e ∙ ap (λ (x : Tables). sibling_of x k) tables

    piled : u.pile ≡ r.pile ++ k ∷ []
    piled = ap (λ x. x.pile) same

pub cover_inside : (s r : State) (n k : ℕ) (old : Option ℕ) (from to : ℕ) → IsBoard s → old ≡ Some k → IsCoverWalk s r n old from to → length s.pile ≤ command_count s.tables →
    (k < node_count r.tables) × (length r.pile < 4 * command_count r.tables)
cover_inside s r n k old from to h o w space =
    let t : r.tables ≡ s.tables = ap (λ x. x.tables) w.same in
    let l : k < node_count s.tables = (w.next_at k o).0 in
    let m : command_count r.tables ≡ command_count s.tables = ap (λ (x : Tables). command_count x) t in
    let some : first_of s.tables k < command_count s.tables = h.sound.first_in k l in
    let most : count (is_upto s.tables n (unwrap_or old (node_count s.tables))) (command_count s.tables) ≤ command_count s.tables = count_most (is_upto s.tables n (unwrap_or old (node_count s.tables))) (command_count s.tables) in
    (rw t l, omega (arith, w.pile))

pub cover_falls : (s r u : State) (n k : ℕ) (old next : Option ℕ) (from to : ℕ) → IsBoard s → old ≡ Some k → IsCoverWalk s r n old from to → next ≡ sibling_of r.tables k → u.tables ≡ r.tables →
    node_count u.tables - unwrap_or next (node_count u.tables) < node_count r.tables - unwrap_or old (node_count r.tables)
cover_falls s r u n k old next from to h o w e t =
    let tables : r.tables ≡ s.tables = ap (λ x. x.tables) w.same in
    let low : k < unwrap_or (sibling_of s.tables k) (node_count s.tables) = h.sound.sibling_in k (w.next_at k o).0 in
    let inside : k < node_count s.tables = (w.next_at k o).0 in
    rw (t, o, e, tables) (omega arith)

-- one node has been covered
pub cover_cost : (s r u : State) (n from mid past : ℕ) → IsBoard s → n < node_count s.tables → r.tables ≡ s.tables → r.bare ≡ s.bare → u.tables ≡ r.tables → u.marks ≡ r.marks → u.pile ≡ r.pile → u.bare ≡ slice_set r.bare n true → is_bare s n ≡ false →
    length r.pile ≤ length s.pile + count (is_below s.tables n) (command_count s.tables) →
    mid + 8 * opens r + 3 * length r.pile ≤ from + 1 + 8 * opens s + 3 * length s.pile + 6 * count (is_below s.tables n) (command_count s.tables) → past ≡ mid + 1 →
    (length u.pile + covered u ≤ length s.pile + covered s) × (past + 8 * opens u + 6 * covered u + 3 * length u.pile ≤ from + 8 * opens s + 6 * covered s + 3 * length s.pile + 2)
cover_cost s r u n from mid past h l t e ut um up us f pile cost p =
    let o : opens u ≡ opens r = opens_same r u ut um in
    let len : length u.pile ≡ length r.pile = ap length up in
    let fall : covered s ≡ covered u + count (is_below s.tables n) (command_count s.tables) = covered_falls s u n (rw h.bare l) (ut ∙ t) (us ∙ ap (λ (x : List Bool). slice_set x n true) e) f in
    (omega arith, omega arith)

-- what is on the pile is still to be covered
pub record IsDownWalk (s r : State) (from to : ℕ) : Type 0 where
  pub board : IsBoard r
  pub same : r ≡ record s { marks = r.marks; dirs = r.dirs; bare = r.bare; pile = r.pile }
  pub grows : Grows s r
  pub within : IsWithin r.pile (node_count s.tables)
  pub pile : length r.pile + covered r ≤ 1 + covered s
  pub steps : to + 8 * opens r + 6 * covered r + 3 * length r.pile ≤ from + 8 * opens s + 6 * covered s + 4

pub down_start : (s u : State) (n from to : ℕ) → n < node_count s.tables → s.pile ≡ [] → IsBoard u → u ≡ record s { pile = s.pile ++ n ∷ [] } → to ≡ from + 1 → IsDownWalk s u from to
down_start s u n from to l e hu same cost = record {
  board = hu;
  same = grind (arith, same);
  grows = grows_to s s u (ap (λ x. x.marks) same) (grows_refl s);
  within = rw piled (l, tt);
  pile = omega (arith, len, covers);
  steps = omega (arith, len, covers, open_same);
}
  where
    piled : u.pile ≡ n ∷ []
    piled = ap (λ x. x.pile) same ∙ ap (λ (x : List ℕ). x ++ n ∷ []) e

    len : length u.pile ≡ 1
    len = ap length (ap (λ x. x.pile) same ∙ ap (λ (x : List ℕ). x ++ n ∷ []) e)

    covers : covered u ≡ covered s
    covers = covered_same s u (ap (λ x. x.tables) same) (ap (λ x. x.bare) same)

    open_same : opens u ≡ opens s
    open_same = opens_same s u (ap (λ x. x.tables) same) (ap (λ x. x.marks) same)

pub down_inside : (s r p : State) (n from to : ℕ) → IsBoard s → IsDownWalk s r from to → r ≡ record p { pile = p.pile ++ n ∷ [] } →
    (n < node_count p.tables) × (length p.pile ≤ command_count p.tables) × IsWithin p.pile (node_count p.tables)
down_inside s r p n from to h w same =
    let t : p.tables ≡ s.tables = sym (ap (λ x. x.tables) same) ∙ ap (λ x. x.tables) w.same in
    let k = within_pop p.pile n (node_count s.tables) (subst (λ x. IsWithin x (node_count s.tables)) (ap (λ x. x.pile) same) w.within) in
    let len : length r.pile ≡ length p.pile + 1 = ap length (ap (λ x. x.pile) same) ∙ length-append p.pile (n ∷ []) in
    let most : covered s ≤ command_count s.tables = count_most (is_covered s) (command_count s.tables) in
    let space : length p.pile ≤ command_count s.tables = omega (arith, w.pile) in
    (rw t k.1, rw t space, rw t k.0)

pub down_step : (s r p u : State) (n from to mid past : ℕ) → IsBoard s → IsDownWalk s r from to → r ≡ record p { pile = p.pile ++ n ∷ [] } → mid ≡ to + 1 → IsBoard u → u ≡ record p { marks = u.marks; dirs = u.dirs; bare = u.bare; pile = u.pile } → Grows p u →
    IsWithin u.pile (node_count p.tables) → length u.pile + covered u ≤ length p.pile + covered p → past + 8 * opens u + 6 * covered u + 3 * length u.pile ≤ mid + 8 * opens p + 6 * covered p + 3 * length p.pile + 2 →
    IsDownWalk s u from past
down_step s r p u n from to mid past h w popped m hu same grows within pile cost = record {
  board = hu;
  same = grind (arith, same, popped, w.same);
  grows = grows_trans s p u t (grows_to s r p (sym (ap (λ x. x.marks) popped)) w.grows) grows;
  within = subst (λ (x : Tables). IsWithin u.pile (node_count x)) t within;
  pile = omega (arith, w.pile, len, covers);
  steps = omega (arith, w.steps, len, covers, open_same, cost, m);
}
  where
    t : p.tables ≡ s.tables
    t = sym (ap (λ x. x.tables) popped) ∙ ap (λ x. x.tables) w.same

    len : length r.pile ≡ length p.pile + 1
    len = ap length (ap (λ x. x.pile) popped) ∙ length-append p.pile (n ∷ [])

    covers : covered r ≡ covered p
    covers = covered_same p r (ap (λ x. x.tables) popped) (ap (λ x. x.bare) popped)

    open_same : opens r ≡ opens p
    open_same = opens_same p r (ap (λ x. x.tables) popped) (ap (λ x. x.marks) popped)

pub down_falls : (r p u : State) (n : ℕ) → r ≡ record p { pile = p.pile ++ n ∷ [] } → length u.pile + covered u ≤ length p.pile + covered p → length u.pile + covered u < length r.pile + covered r
down_falls r p u n popped pile =
    let len : length r.pile ≡ length p.pile + 1 = ap length (ap (λ x. x.pile) popped) ∙ length-append p.pile (n ∷ []) in
    let covers : covered r ≡ covered p = covered_same p r (ap (λ x. x.tables) popped) (ap (λ x. x.bare) popped) in
    omega arith

pub down_ends : (s r p : State) (from to : ℕ) → s.pile ≡ [] → IsDownWalk s r from to → r.pile ≡ [] → p ≡ r →
    (p ≡ record s { marks = p.marks; dirs = p.dirs; bare = p.bare }) × Grows s p × (to + 8 * opens p + 6 * covered p ≤ from + 8 * opens s + 6 * covered s + 4)
down_ends s r p from to e w none is = (whole, grows_to s r p (ap (λ x. x.marks) is) w.grows, rw is (omega (arith, w.steps)))
  where
    whole : p ≡ record s { marks = p.marks; dirs = p.dirs; bare = p.bare }
    whole = grind (arith, w.same, is, none, e)

pub opens_take : (s r : State) (k : ℕ) → k < length s.marks → k < command_count s.tables → r.tables ≡ s.tables → r.marks ≡ slice_set s.marks k Taken → mark_of s k ≡ Open → opens s ≡ opens r + 1
opens_take s r k l m t e o =
    let a : count (is_open s) (command_count s.tables) ≡ count (is_open r) (command_count s.tables) + 1 = count_one (is_open s) (is_open r) k (command_count s.tables) m (ap is_open_mark o) here others in
    let b : count (is_open r) (command_count r.tables) ≡ count (is_open r) (command_count s.tables) = ap (λ (x : Tables). count (is_open r) (command_count x)) t in
    omega arith
  where
    here : is_open r k ≡ false
    here = rw e (ap is_open_mark (get_or-set_same s.marks k Taken Blocked l))

    others : (i : ℕ) → i < command_count s.tables → (i ≡ k → ⊥) → is_open s i ≡ is_open r i
    others i j a = rw e (ap is_open_mark (sym (get_or-set_other s.marks k i Taken Blocked a)))

has_same : (s r : State) (n m : ℕ) → r.tables ≡ s.tables → ((i : ℕ) → i < m → (is_taken_mark (mark_of r i) && in_row s.tables n i) ≡ (is_taken_mark (mark_of s i) && in_row s.tables n i)) → has_taken r n m ≡ has_taken s n m
has_same s r n zero t e = refl
has_same s r n (suc m) t e =
    let rest : has_taken r n m ≡ has_taken s n m = has_same s r n m t (λ i l. e i (omega arith)) in
    let here : (is_taken_mark (mark_of r m) && in_row r.tables n m) ≡ (is_taken_mark (mark_of s m) && in_row s.tables n m) = ap (λ (x : Tables). is_taken_mark (mark_of r m) && in_row x n m) t ∙ e m (omega arith) in
    rw (here, rest) refl

has_none : (s : State) (n m : ℕ) → ((i : ℕ) → i < m → node_of s.tables i ≡ n → mark_of s i ≡ Taken → ⊥) → has_taken s n m ≡ false
has_none s n zero e = refl
has_none s n (suc m) e =
    let rest : has_taken s n m ≡ false = has_none s n m (λ i l. e i (omega arith)) in
    let here : (is_taken_mark (mark_of s m) && in_row s.tables n m) ≡ false = no (mark_of s m) (in_row s.tables n m) (λ a b. e m (omega arith) (nat_eq_is (node_of s.tables m) n b) a) in
    rw (here, rest) refl
  where
    no : (a : Mark) (b : Bool) → (a ≡ Taken → b ≡ true → ⊥) → (is_taken_mark a && b) ≡ false
    no Open b f = refl
    no Blocked b f = refl
    no Taken true f = absurd (f refl refl)
    no Taken false f = refl

has_some : (s : State) (n k m : ℕ) → k < m → node_of s.tables k ≡ n → mark_of s k ≡ Taken → has_taken s n m ≡ true
has_some s n k zero l e t = absurd (omega arith)
has_some s n k (suc m) l e t = split (tell_equal k m) (λ a. has_some s n k m a e t)
  where
    last : (a b : Bool) → b ≡ true → (a || b) ≡ true
    last a b e = grind arith

    split : (k ≡ m) ⊎ ((k ≡ m) → ⊥) → (k < m → has_taken s n m ≡ true) → has_taken s n (suc m) ≡ true
    split (inl same) go =
        let row : in_row s.tables n m ≡ true = nat_eq_at (node_of s.tables m) n (ap (node_of s.tables) (sym same) ∙ e) in
        let mark : is_taken_mark (mark_of s m) ≡ true = ap is_taken_mark (ap (mark_of s) (sym same) ∙ t) in
        rw (row, mark) refl
    split (inr apart) go = last (is_taken_mark (mark_of s m) && in_row s.tables n m) (has_taken s n m) (go (omega arith))

pub untaken_falls : (s r : State) (k n : ℕ) → k < length s.marks → k < command_count s.tables → r.tables ≡ s.tables → r.marks ≡ slice_set s.marks k Taken → mark_of s k ≡ Open → IsAlone s → n ≡ node_of s.tables k →
    untaken s ≡ untaken r + count (in_row s.tables n) (command_count s.tables)
untaken_falls s r k n l m t e o alone own =
    let a : count (is_untaken s) (command_count s.tables) ≡ count (is_untaken r) (command_count s.tables) + count (in_row s.tables n) (command_count s.tables) = count_sum (is_untaken s) (is_untaken r) (in_row s.tables n) (command_count s.tables) each in
    let b : count (is_untaken r) (command_count r.tables) ≡ count (is_untaken r) (command_count s.tables) = ap (λ (x : Tables). count (is_untaken r) (command_count x)) t in
    omega arith
  where
    now : mark_of r k ≡ Taken
    now = rw e (get_or-set_same s.marks k Taken Blocked l)

    before : has_taken s n (command_count s.tables) ≡ false
    before = has_none s n (command_count s.tables) (λ i x p q. alone k i m x (sym own ∙ sym p) q o)

    after : has_taken r n (command_count s.tables) ≡ true
    after = has_some r n k (command_count s.tables) m (ap (λ (x : Tables). node_of x k) t ∙ sym own) (rw e (get_or-set_same s.marks k Taken Blocked l))

    apart_same : (q : ℕ) → (q ≡ n → ⊥) → has_taken r q (command_count s.tables) ≡ has_taken s q (command_count s.tables)
    apart_same q a = has_same s r q (command_count s.tables) t at
      where
        none : (x y z : Bool) → z ≡ false → (x && z) ≡ (y && z)
        none x y z h = grind arith

        at : (i : ℕ) → i < command_count s.tables → (is_taken_mark (mark_of r i) && in_row s.tables q i) ≡ (is_taken_mark (mark_of s i) && in_row s.tables q i)
        at i x = cases (tell_equal i k)
          where
            cases : (i ≡ k) ⊎ ((i ≡ k) → ⊥) → (is_taken_mark (mark_of r i) && in_row s.tables q i) ≡ (is_taken_mark (mark_of s i) && in_row s.tables q i)
            cases (inl same) = none (is_taken_mark (mark_of r i)) (is_taken_mark (mark_of s i)) (in_row s.tables q i) (nat_eq_not (node_of s.tables i) q (λ w. a (sym w ∙ ap (node_of s.tables) same ∙ sym own)))
            cases (inr other) = ap (λ w. is_taken_mark w && in_row s.tables q i) (ap (λ (x : List Mark). slice_index_or x i Blocked) e ∙ get_or-set_other s.marks k i Taken Blocked other)

    each : (i : ℕ) → i < command_count s.tables → bit (is_untaken s i) ≡ bit (is_untaken r i) + bit (in_row s.tables n i)
    each i x = cases (tell_equal (node_of s.tables i) n)
      where
        count_at : is_untaken r i ≡ not (has_taken r (node_of s.tables i) (command_count s.tables))
        count_at = ap (λ (w : Tables). not (has_taken r (node_of w i) (command_count w))) t

        cases : (node_of s.tables i ≡ n) ⊎ ((node_of s.tables i ≡ n) → ⊥) → bit (is_untaken s i) ≡ bit (is_untaken r i) + bit (in_row s.tables n i)
        cases (inl same) =
            let row : in_row s.tables n i ≡ true = nat_eq_at (node_of s.tables i) n same in
            let old : is_untaken s i ≡ true = ap (λ (q : ℕ). not (has_taken s q (command_count s.tables))) same ∙ ap not before in
            let new : is_untaken r i ≡ false = count_at ∙ ap (λ (q : ℕ). not (has_taken r q (command_count s.tables))) same ∙ ap not after in
            rw (old, new, row) refl
        cases (inr apart) =
            let row : in_row s.tables n i ≡ false = nat_eq_not (node_of s.tables i) n apart in
            let new : is_untaken r i ≡ is_untaken s i = count_at ∙ ap not (apart_same (node_of s.tables i) apart) in
            rw (new, row) (omega arith)

pub untaken_same : (s r : State) → r.tables ≡ s.tables → Grows s r → untaken r ≡ untaken s
untaken_same s r t g = ap (λ (x : Tables). count (is_untaken r) (command_count x)) t ∙ count_same (is_untaken r) (is_untaken s) (command_count s.tables) each
  where
    marks : (a b : Mark) → (b ≡ a) ⊎ ((a ≡ Open) × (b ≡ Blocked)) → is_taken_mark b ≡ is_taken_mark a
    marks a b (inl e) = ap is_taken_mark e
    marks a b (inr e) = ap is_taken_mark e.1 ∙ sym (ap is_taken_mark e.0)

    each : (i : ℕ) → i < command_count s.tables → is_untaken r i ≡ is_untaken s i
    each i x = ap (λ (w : Tables). not (has_taken r (node_of w i) (command_count w))) t ∙
        ap not (has_same s r (node_of s.tables i) (command_count s.tables) t (λ j y. ap (λ b. b && in_row s.tables (node_of s.tables i) j) (marks (mark_of s j) (mark_of r j) (g j y))))

-- a command has been taken: marked, its row blocked, and what is above and below
pub take_cost : (s a b c d : State) (k n s0 s1 s2 s3 s4 : ℕ) → IsBoard s → k < command_count s.tables → n ≡ node_of s.tables k → mark_of s k ≡ Open → IsAlone s →
    a ≡ record s { marks = slice_set s.marks k Taken } → s1 ≡ s0 + 1 + 1 →
    b ≡ record a { marks = b.marks; dirs = b.dirs } → Grows a b → s2 + 8 * opens b ≤ s1 + 8 * opens a + count (in_row a.tables n) (command_count a.tables) →
    c ≡ record b { marks = c.marks; dirs = c.dirs; shut = c.shut } → Grows b c → s3 + 8 * opens c + 3 * unshut c ≤ s2 + 8 * opens b + 3 * unshut b + 1 →
    d ≡ record c { marks = d.marks; dirs = d.dirs; bare = d.bare } → Grows c d → s4 + 8 * opens d + 6 * covered d ≤ s3 + 8 * opens c + 6 * covered c + 5 →
    s4 + credit d ≤ s0 + credit s
take_cost s a b c d k n s0 s1 s2 s3 s4 h l own o alone sa ea sb gb eb sc gc ec sd gd ed =
    let ta : a.tables ≡ s.tables = ap (λ x. x.tables) sa in
    let tb : b.tables ≡ a.tables = ap (λ x. x.tables) sb in
    let tc : c.tables ≡ b.tables = ap (λ x. x.tables) sc in
    let td : d.tables ≡ c.tables = ap (λ x. x.tables) sd in
    let oa : opens s ≡ opens a + 1 = opens_take s a k (rw h.marks l) l ta (ap (λ x. x.marks) sa) o in
    let na : untaken s ≡ untaken a + count (in_row s.tables n) (command_count s.tables) = untaken_falls s a k n (rw h.marks l) l ta (ap (λ x. x.marks) sa) o alone own in
    let nb : untaken b ≡ untaken a = untaken_same a b tb gb in
    let nc : untaken c ≡ untaken b = untaken_same b c tc gc in
    let nd : untaken d ≡ untaken c = untaken_same c d td gd in
    let ua : unshut a ≡ unshut s = unshut_same s a ta (ap (λ x. x.shut) sa) in
    let ub : unshut b ≡ unshut a = unshut_same a b tb (ap (λ x. x.shut) sb) in
    let ud : unshut d ≡ unshut c = unshut_same c d td (ap (λ x. x.shut) sd) in
    let ca : covered a ≡ covered s = covered_same s a ta (ap (λ x. x.bare) sa) in
    let cb : covered b ≡ covered a = covered_same a b tb (ap (λ x. x.bare) sb) in
    let cc' : covered c ≡ covered b = covered_same b c tc (ap (λ x. x.bare) sc) in
    let row : count (in_row a.tables n) (command_count a.tables) ≡ count (in_row s.tables n) (command_count s.tables) = ap (λ (x : Tables). count (in_row x n) (command_count x)) ta in
    omega arith
