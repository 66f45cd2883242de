-- Counts of the numbers below a bound that pass a test.
use Rattle.std.proofs.Common.{◌≡◌, ℕ, zero, suc, ◌+◌, ◌<◌, ◌≤◌, Bool, true, false, refl, ap, sym, subst, arith, ◌⊎◌, inl, inr}
use Rattle.std.specs.Prelude.{if◌then◌else◌}
use Rattle.scan_board.specs.Tables.{count}

abbrev pub bit : Bool → ℕ
bit b = if b then 1 else 0

pub count_same : (p q : ℕ → Bool) (n : ℕ) → ((i : ℕ) → i < n → p i ≡ q i) → count p n ≡ count q n
unfolding count
count_same p q zero e = refl
count_same p q (suc n) e =
    let here : p n ≡ q n = e n (omega arith) in
    let rest : count p n ≡ count q n = count_same p q n (λ i l. e i (omega arith)) in
    cc

pub count_sum : (p q r : ℕ → Bool) (n : ℕ) → ((i : ℕ) → i < n → bit (p i) ≡ bit (q i) + bit (r i)) → count p n ≡ count q n + count r n
unfolding count
count_sum p q r zero e = refl
count_sum p q r (suc n) e =
    let here : bit (p n) ≡ bit (q n) + bit (r n) = e n (omega arith) in
    let rest : count p n ≡ count q n + count r n = count_sum p q r n (λ i l. e i (omega arith)) in
    omega arith

bit_most : (b : Bool) → bit b ≤ 1
bit_most true = omega arith
bit_most false = omega arith

bit_within : (b c : Bool) → (b ≡ true → c ≡ true) → bit b ≤ bit c
bit_within true true e = omega arith
bit_within true false e = absurd (let k : false ≡ true = e refl in cc)
bit_within false c e = omega arith

pub count_most : (p : ℕ → Bool) (n : ℕ) → count p n ≤ n
unfolding count
count_most p zero = omega arith
count_most p (suc n) = omega (arith, count_most p n, bit_most (p n))

pub count_within : (p q : ℕ → Bool) (n : ℕ) → ((i : ℕ) → i < n → p i ≡ true → q i ≡ true) → count p n ≤ count q n
unfolding count
count_within p q zero e = omega arith
count_within p q (suc n) e =
    let here : bit (p n) ≤ bit (q n) = bit_within (p n) (q n) (e n (omega arith)) in
    let rest : count p n ≤ count q n = count_within p q n (λ i l. e i (omega arith)) in
    omega arith

pub tell_equal : (a b : ℕ) → (a ≡ b) ⊎ ((a ≡ b) → ⊥)
tell_equal a b = grind arith

tell_less : (a b : ℕ) → a ≤ b → (a ≡ b) ⊎ (a < b)
tell_less a b l = grind arith

bit_no : (b : Bool) → (b ≡ true → ⊥) → bit b ≡ 0
bit_no true e = absurd (e refl)
bit_no false e = refl

pub count_gap : (p : ℕ → Bool) (a b : ℕ) → a ≤ b → ((i : ℕ) → a ≤ i → i < b → p i ≡ true → ⊥) → count p b ≡ count p a
unfolding count
count_gap p a zero l e = let k : a ≡ zero = omega arith in rw k refl
count_gap p a (suc b) l e = split (tell_less a (suc b) l) (λ m. count_gap p a b m (λ i x y. e i x (omega arith)))
  where
    split : (a ≡ suc b) ⊎ (a < suc b) → (a ≤ b → count p b ≡ count p a) → count p (suc b) ≡ count p a
    split (inl same) rest = rw same refl
    split (inr m) rest =
        let here : bit (p b) ≡ 0 = bit_no (p b) (e b (omega arith) (omega arith)) in
        let k : count p b ≡ count p a = rest (omega arith) in
        omega arith

pub count_some : (p : ℕ → Bool) (k n : ℕ) → k < n → p k ≡ true → 1 ≤ count p n
unfolding count
count_some p k zero l e = absurd (omega arith)
count_some p k (suc n) l e = split (tell_equal k n) (λ m. count_some p k n m e)
  where
    split : (k ≡ n) ⊎ ((k ≡ n) → ⊥) → (k < n → 1 ≤ count p n) → 1 ≤ count p (suc n)
    split (inl same) rest = let here : bit (p n) ≡ 1 = ap (λ b. bit b) (subst (λ x. p x ≡ true) same e) in omega arith
    split (inr apart) rest = let k : 1 ≤ count p n = rest (omega arith) in omega arith

pub count_one : (p q : ℕ → Bool) (k n : ℕ) → k < n → p k ≡ true → q k ≡ false → ((i : ℕ) → i < n → (i ≡ k → ⊥) → p i ≡ q i) → count p n ≡ count q n + 1
unfolding count
count_one p q k zero l a b e = absurd (omega arith)
count_one p q k (suc n) l a b e = split (tell_equal k n) (λ m. count_one p q k n m a b (λ i l. e i (omega arith)))
  where
    split : (k ≡ n) ⊎ ((k ≡ n) → ⊥) → (k < n → count p n ≡ count q n + 1) → count p (suc n) ≡ count q (suc n) + 1
    split (inl same) go =
        let x : bit (p n) ≡ 1 = ap (λ b. bit b) (subst (λ x. p x ≡ true) same a) in
        let y : bit (q n) ≡ 0 = ap (λ b. bit b) (subst (λ x. q x ≡ false) same b) in
        let rest : count p n ≡ count q n = count_same p q n (λ i l. e i (omega arith) (λ s. omega arith)) in
        omega arith
    split (inr apart) go =
        let here : bit (p n) ≡ bit (q n) = ap (λ b. bit b) (e n (omega arith) (λ s. apart (sym s))) in
        let rest : count p n ≡ count q n + 1 = go (omega arith) in
        omega arith
