-- What a walk up shuts.
use Rattle.std.proofs.Common.{◌≡◌, ℕ, zero, suc, ◌<◌, ◌≤◌, Bool, true, false, refl, ap, sym, subst, ◌∙◌, arith, ◌⊎◌, inl, inr, Option, Some, None}
use Rattle.std.specs.Prelude.{◌&&◌, if◌then◌else◌}
use Rattle.sync_command.specs.declared.values.Kind.TheVariants.{Dir}
use Rattle.scan_board.specs.declared.board.Mark.{Mark}
use Rattle.scan_board.specs.declared.board.Mark.TheVariants.{Blocked}
use Rattle.scan_board.specs.declared.turning.Rule.TheVariants.{NotDir}
use Rattle.scan_board.specs.Tables.{Tables, State, IsBoard, is_open, mark_of, node_of, leaves_of, parent_of, in_row, is_shut, command_count, node_count}
use Rattle.scan_board.specs.Turns.{Grows, up, IsOnWay, IsShutOk, blocked_by, falls_under_rule}
use Rattle.scan_board.proofs.Closing.{grows_closed, tell_bool, tell_equal}
use Rattle.scan_board.proofs.Settling.{up_none, up_more, tell_dir}
use Rattle.scan_board.proofs.Walking.{blocked_apart}

-- the way up so far
pub record IsShutWay (s r : State) (first at : Option ℕ) : Type 0 where
  pub row : IsShutOk s → (n i : ℕ) → is_shut r n ≡ true → i < command_count s.tables → node_of s.tables i ≡ n → (leaves_of s.tables i ≡ Dir → ⊥) → is_open r i ≡ false
  pub parent : IsShutOk s → (n p : ℕ) → n < node_count s.tables → is_shut r n ≡ true → parent_of s.tables n ≡ Some p → (is_shut r p ≡ true) ⊎ (at ≡ Some p)
  pub chain : IsShutOk s → (k q : ℕ) → up s.tables k first ≡ Some q → (is_shut r q ≡ true) ⊎ IsOnWay s.tables at q
  pub on : (q : ℕ) → at ≡ Some q → IsOnWay s.tables first q
  pub why : (i : ℕ) → i < command_count s.tables → (mark_of r i ≡ mark_of s i) ⊎ (IsOnWay s.tables first (node_of s.tables i) × (leaves_of s.tables i ≡ Dir → ⊥))

pub way_start : (s : State) (first : Option ℕ) → IsShutWay s s first first
way_start s first = record {
  row = (λ h n i a b c d. h.row n i a b c d);
  parent = (λ h n p l a b. inl (h.parent n p l a b));
  chain = (λ h k q e. inr (k, e));
  on = (λ q e. (zero, e));
  why = (λ i l. inl refl);
}

-- what the row rule of a directory spares
spared : (s : State) (n i : ℕ) → leaves_of s.tables i ≡ Dir → blocked_by s n NotDir i ≡ mark_of s i
spared s n i e = go (in_row s.tables n i) (is_open s i) (falls_under_rule NotDir (leaves_of s.tables i)) (ap (falls_under_rule NotDir) e)
  where
    go : (a b c : Bool) → c ≡ false → (if a && (b && c) then Blocked else mark_of s i) ≡ mark_of s i
    go true true c e = rw e refl
    go true false c e = refl
    go false b c e = refl

pub row_why : (s : State) (n i : ℕ) (m : Mark) → m ≡ blocked_by s n NotDir i → (m ≡ mark_of s i) ⊎ ((node_of s.tables i ≡ n) × (leaves_of s.tables i ≡ Dir → ⊥))
row_why s n i m e = go (tell_equal (node_of s.tables i) n) (tell_dir (leaves_of s.tables i))
  where
    go : (node_of s.tables i ≡ n) ⊎ ((node_of s.tables i ≡ n) → ⊥) → (leaves_of s.tables i ≡ Dir) ⊎ ((leaves_of s.tables i ≡ Dir) → ⊥) → (m ≡ mark_of s i) ⊎ ((node_of s.tables i ≡ n) × (leaves_of s.tables i ≡ Dir → ⊥))
    go (inl a) (inl b) = inl (e ∙ spared s n i b)
    go (inl a) (inr b) = inr (a, b)
    go (inr a) b = inl (e ∙ blocked_apart s n NotDir i a)

pub way_step : (s r u : State) (first at next : Option ℕ) (n : ℕ) → IsBoard s → r.tables ≡ s.tables → at ≡ Some n → n < node_count s.tables → IsShutWay s r first at → Grows r u → is_shut u n ≡ true → ((m : ℕ) → (m ≡ n → ⊥) → is_shut u m ≡ is_shut r m) →
    (is_shut r n ≡ false → (i : ℕ) → i < command_count r.tables → node_of r.tables i ≡ n → (leaves_of r.tables i ≡ Dir → ⊥) → is_open u i ≡ false) →
    ((i : ℕ) → i < command_count r.tables → (mark_of u i ≡ mark_of r i) ⊎ ((node_of r.tables i ≡ n) × (leaves_of r.tables i ≡ Dir → ⊥))) →
    (is_shut r n ≡ true → next ≡ None) → (is_shut r n ≡ false → next ≡ parent_of r.tables n) → IsShutWay s u first next
way_step s r u first at next n h t o l w grows here others row why stops goes = record {
  row = (λ ok m i b a e y. shut ok m i b a e y (tell_equal m n) (tell_bool (is_shut r n)));
  parent = (λ ok m p z b e. above ok m p z b e (tell_equal m n) (tell_bool (is_shut r n)));
  chain = (λ ok k q e. far ok q (w.chain ok k q e));
  on = (λ q e. came q e (tell_bool (is_shut r n)));
  why = (λ i a. cause i a (why i (in_r i a)));
}
  where
    in_r : (i : ℕ) → i < command_count s.tables → i < command_count r.tables
    in_r i a = subst (λ (x : Tables). i < command_count x) (sym t) a

    wider : (m : ℕ) → is_shut r m ≡ true → is_shut u m ≡ true
    wider m b = go (tell_equal m n)
      where
        go : (m ≡ n) ⊎ ((m ≡ n) → ⊥) → is_shut u m ≡ true
        go (inl e) = ap (is_shut u) e ∙ here
        go (inr a) = others m a ∙ b

    shut : IsShutOk s → (m i : ℕ) → is_shut u m ≡ true → i < command_count s.tables → node_of s.tables i ≡ m → (leaves_of s.tables i ≡ Dir → ⊥) → (m ≡ n) ⊎ ((m ≡ n) → ⊥) → (is_shut r n ≡ true) ⊎ (is_shut r n ≡ false) → is_open u i ≡ false
    shut ok m i b a e y (inl same) (inl was) = grows_closed r u i grows (in_r i a) (w.row ok n i was a (e ∙ same) y)
    shut ok m i b a e y (inl same) (inr was) = row was i (in_r i a) (ap (λ (x : Tables). node_of x i) t ∙ e ∙ same) (λ z. y (sym (ap (λ (v : Tables). leaves_of v i) t) ∙ z))
    shut ok m i b a e y (inr other) v = grows_closed r u i grows (in_r i a) (w.row ok m i (sym (others m other) ∙ b) a e y)

    low : (m p : ℕ) → m < node_count s.tables → parent_of s.tables m ≡ Some p → p < m
    low m p z e = h.sound.parent_in m p z e

    above : IsShutOk s → (m p : ℕ) → m < node_count s.tables → is_shut u m ≡ true → parent_of s.tables m ≡ Some p → (m ≡ n) ⊎ ((m ≡ n) → ⊥) → (is_shut r n ≡ true) ⊎ (is_shut r n ≡ false) → (is_shut u p ≡ true) ⊎ (next ≡ Some p)
    above ok m p z b e (inl same) (inr was) = inr (goes was ∙ ap (λ (x : Tables). parent_of x n) t ∙ ap (parent_of s.tables) (sym same) ∙ e)
    above ok m p z b e (inl same) (inl was) = go (w.parent ok m p z (ap (is_shut r) same ∙ was) e)
      where
        go : (is_shut r p ≡ true) ⊎ (at ≡ Some p) → (is_shut u p ≡ true) ⊎ (next ≡ Some p)
        go (inl x) = inl (wider p x)
        go (inr x) = let k : n ≡ p = cc in absurd (let v : p < m = low m p z e in omega arith)
    above ok m p z b e (inr other) v = go (w.parent ok m p z (sym (others m other) ∙ b) e)
      where
        go : (is_shut r p ≡ true) ⊎ (at ≡ Some p) → (is_shut u p ≡ true) ⊎ (next ≡ Some p)
        go (inl x) = inl (wider p x)
        go (inr x) = let k : p ≡ n = cc in inl (ap (is_shut u) k ∙ here)

    climb : IsShutOk s → (j m q : ℕ) → is_shut r m ≡ true → m ≤ n → up s.tables j (Some m) ≡ Some q → is_shut r q ≡ true
    climb ok zero m q b z e = let k : q ≡ m = cc in ap (is_shut r) k ∙ b
    climb ok (suc j) m q b z e = step (parent_of s.tables m) refl e (climb ok j)
      where
        step : (o' : Option ℕ) → parent_of s.tables m ≡ o' → up s.tables j o' ≡ Some q → ((m' q' : ℕ) → is_shut r m' ≡ true → m' ≤ n → up s.tables j (Some m') ≡ Some q' → is_shut r q' ≡ true) → is_shut r q ≡ true
        step None f g ih = absurd (up_none s.tables j q g)
        step (Some p) f g ih = let lower : p < m = h.sound.parent_in m p (omega arith) f in go lower (w.parent ok m p (omega arith) b f)
          where
            go : p < m → (is_shut r p ≡ true) ⊎ (at ≡ Some p) → is_shut r q ≡ true
            go lower (inl x) = ih p q x (omega arith) g
            go lower (inr x) = let k : n ≡ p = cc in absurd (omega arith)

    far : IsShutOk s → (q : ℕ) → (is_shut r q ≡ true) ⊎ IsOnWay s.tables at q → (is_shut u q ≡ true) ⊎ IsOnWay s.tables next q
    far ok q (inl b) = inl (wider q b)
    far ok q (inr (j, e)) = go j (sym (ap (up s.tables j) o) ∙ e)
      where
        go : (j : ℕ) → up s.tables j (Some n) ≡ Some q → (is_shut u q ≡ true) ⊎ IsOnWay s.tables next q
        go zero e = let k : q ≡ n = cc in inl (ap (is_shut u) k ∙ here)
        go (suc j) e = pick (tell_bool (is_shut r n))
          where
            pick : (is_shut r n ≡ true) ⊎ (is_shut r n ≡ false) → (is_shut u q ≡ true) ⊎ IsOnWay s.tables next q
            pick (inl was) = inl (wider q (climb ok (suc j) n q was (omega arith) e))
            pick (inr was) = inr (j, ap (up s.tables j) (goes was ∙ ap (λ (x : Tables). parent_of x n) t) ∙ e)

    came : (q : ℕ) → next ≡ Some q → (is_shut r n ≡ true) ⊎ (is_shut r n ≡ false) → IsOnWay s.tables first q
    came q e (inl was) = absurd (let k = stops was in let z : None ≡ Some q = sym (stops was) ∙ e in cc)
    came q e (inr was) = let k = w.on n o in (suc k.0, up_more s.tables k.0 first n q k.1 (sym (goes was ∙ ap (λ (x : Tables). parent_of x n) t) ∙ e))

    cause : (i : ℕ) → i < command_count s.tables → (mark_of u i ≡ mark_of r i) ⊎ ((node_of r.tables i ≡ n) × (leaves_of r.tables i ≡ Dir → ⊥)) → (mark_of u i ≡ mark_of s i) ⊎ (IsOnWay s.tables first (node_of s.tables i) × (leaves_of s.tables i ≡ Dir → ⊥))
    cause i a (inl e) = go (w.why i a)
      where
        go : (mark_of r i ≡ mark_of s i) ⊎ (IsOnWay s.tables first (node_of s.tables i) × (leaves_of s.tables i ≡ Dir → ⊥)) → (mark_of u i ≡ mark_of s i) ⊎ (IsOnWay s.tables first (node_of s.tables i) × (leaves_of s.tables i ≡ Dir → ⊥))
        go (inl f) = inl (e ∙ f)
        go (inr f) = inr f
    cause i a (inr (e, y)) = inr (subst (λ q. IsOnWay s.tables first q) (sym e ∙ ap (λ (x : Tables). node_of x i) t) (w.on n o), (λ z. y (ap (λ (v : Tables). leaves_of v i) t ∙ z)))

pub way_ends : (s r : State) (first at : Option ℕ) → r.tables ≡ s.tables → at ≡ None → IsShutWay s r first at → IsShutOk s →
    IsShutOk r × ((i : ℕ) → i < command_count s.tables → IsOnWay s.tables first (node_of s.tables i) → (leaves_of s.tables i ≡ Dir → ⊥) → is_open r i ≡ false)
way_ends s r first at t o w ok = (
  record {
    row = subst (λ (x : Tables). (n i : ℕ) → is_shut r n ≡ true → i < command_count x → node_of x i ≡ n → (leaves_of x i ≡ Dir → ⊥) → is_open r i ≡ false) (sym t) (w.row ok);
    parent = subst (λ (x : Tables). (n p : ℕ) → n < node_count x → is_shut r n ≡ true → parent_of x n ≡ Some p → is_shut r p ≡ true) (sym t) (λ n p l b e. only p (w.parent ok n p l b e));
  },
  (λ i a k y. at_way i a y (w.chain ok k.0 (node_of s.tables i) k.1)),
)
  where
    only : (p : ℕ) → (is_shut r p ≡ true) ⊎ (at ≡ Some p) → is_shut r p ≡ true
    only p (inl b) = b
    only p (inr e) = absurd (let z : None ≡ Some p = sym o ∙ e in cc)

    at_way : (i : ℕ) → i < command_count s.tables → (leaves_of s.tables i ≡ Dir → ⊥) → (is_shut r (node_of s.tables i) ≡ true) ⊎ IsOnWay s.tables at (node_of s.tables i) → is_open r i ≡ false
    at_way i a y (inl b) = w.row ok (node_of s.tables i) i b a refl y
    at_way i a y (inr (j, e)) = absurd (up_none s.tables j (node_of s.tables i) (sym (ap (up s.tables j) o) ∙ e))
