-- Columns that are pushed one by one.
use Rattle.std.proofs.Common.{◌≡◌, ℕ, zero, suc, ◌+◌, ◌<◌, refl, ap, sym, subst, ◌∙◌, arith, ◌⊎◌, inl, inr, List, [], ◌∷◌, ◌++◌, length, length-append, slice_index_or}
use Rattle.scan_board.specs.Columns.{IsColumn}

pub tell_equal : (a b : ℕ) → (a ≡ b) ⊎ ((a ≡ b) → ⊥)
tell_equal a b = grind arith

-- the elements of a list with one more
pub push_old : {A : Type 0} → (xs : List A) (x d : A) (i : ℕ) → i < length xs → slice_index_or (xs ++ x ∷ []) i d ≡ slice_index_or xs i d
push_old [] x d i l = absurd (omega arith)
push_old (y ∷ xs) x d zero l = refl
push_old (y ∷ xs) x d (suc i) l = push_old xs x d i (omega arith)

pub push_new : {A : Type 0} → (xs : List A) (x d : A) (i : ℕ) → i ≡ length xs → slice_index_or (xs ++ x ∷ []) i d ≡ x
push_new [] x d i e = rw e refl
push_new (y ∷ xs) x d zero e = absurd (omega arith)
push_new (y ∷ xs) x d (suc i) e = push_new xs x d i (omega arith)

pub push_len : {A : Type 0} → (xs : List A) (x : A) → length (xs ++ x ∷ []) ≡ length xs + 1
push_len xs x = length-append xs (x ∷ [])

pub column_start : {A : Type 0} → (d : A) (P : ℕ → A → Type 0) → IsColumn [] d P 0
column_start d P = record { len = refl; at = (λ j l. absurd (omega arith)) }

pub column_next : {A : Type 0} → (xs : List A) (x d : A) (P : ℕ → A → Type 0) (k : ℕ) → IsColumn xs d P k → P k x → IsColumn (xs ++ x ∷ []) d P (k + 1)
column_next xs x d P k w p = record {
  len = push_len xs x ∙ ap (λ n. n + 1) w.len;
  at = (λ j l. go j l (tell_equal j k));
}
  where
    go : (j : ℕ) → j < k + 1 → (j ≡ k) ⊎ ((j ≡ k) → ⊥) → P j (slice_index_or (xs ++ x ∷ []) j d)
    go j l (inl e) = subst (λ i. P i (slice_index_or (xs ++ x ∷ []) i d)) (sym e) (subst (λ y. P k y) (sym (push_new xs x d k (sym w.len))) p)
    go j l (inr a) = let less : j < length xs = let n : length xs ≡ k = w.len in omega arith in subst (λ y. P j y) (sym (push_old xs x d j less)) (w.at j (omega arith))
