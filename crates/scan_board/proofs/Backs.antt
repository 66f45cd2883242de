-- Numbering the keys that have a head.
use Rattle.std.proofs.Common.{◌≡◌, ℕ, ◌+◌, ◌<◌, refl, ap, sym, subst, ◌∙◌, arith, ◌⊎◌, inl, inr, Option, Some, None, List, [], ◌∷◌, ◌++◌, length}
use Rattle.std.specs.Prelude.{slice_index}
use Rattle.scan_board.specs.Linked.{option_at}
use Rattle.scan_board.specs.Named.{IsNamed}
use Rattle.scan_board.proofs.Pushing.{tell_equal, push_old, push_new, push_len}

pub name_start : (heads : List (Option ℕ)) → IsNamed heads [] [] 0
name_start heads = record { len = refl; back_in = (λ n a. absurd (omega arith)); back_is = (λ n a. absurd (omega arith)); index_at = (λ q n a. absurd (omega arith)); has_head = (λ n a. absurd (omega arith)); named = (λ q i a. absurd (omega arith)); rising = (λ n m a b. absurd (omega arith)) }

pub name_none : (heads index : List (Option ℕ)) (back : List ℕ) (k : ℕ) → IsNamed heads index back k → option_at heads k ≡ None → IsNamed heads (index ++ None ∷ []) back (k + 1)
name_none heads index back k w none = record {
  len = push_len index None ∙ ap (λ n. n + 1) w.len;
  back_in = (λ n a. let x : slice_index back n < k = w.back_in n a in omega arith);
  back_is = (λ n a. old (slice_index back n) (w.back_in n a) ∙ w.back_is n a);
  index_at = (λ q n a e. at q n a e (tell_equal q k));
  has_head = w.has_head;
  named = (λ q i a e f. named q i a e f (tell_equal q k));
  rising = w.rising;
}
  where
    old : (q : ℕ) → q < k → option_at (index ++ None ∷ []) q ≡ option_at index q
    old q a = push_old index None None q (let n : length index ≡ k = w.len in omega arith)

    new : option_at (index ++ None ∷ []) k ≡ None
    new = push_new index None None k (sym w.len)

    at : (q n : ℕ) → q < k + 1 → option_at (index ++ None ∷ []) q ≡ Some n → (q ≡ k) ⊎ ((q ≡ k) → ⊥) → (n < length back) × (slice_index back n ≡ q)
    at q n a e (inl b) = absurd (let z : None ≡ Some n = sym (ap (option_at (index ++ None ∷ [])) b ∙ new) ∙ e in cc (z))
    at q n a e (inr b) = w.index_at q n (omega arith) (sym (old q (omega arith)) ∙ e)

    named : (q i : ℕ) → q < k + 1 → option_at heads q ≡ Some i → option_at (index ++ None ∷ []) q ≡ None → (q ≡ k) ⊎ ((q ≡ k) → ⊥) → ⊥
    named q i a e f (inl b) = let z : None ≡ Some i = sym none ∙ ap (option_at heads) (sym b) ∙ e in cc (z)
    named q i a e f (inr b) = w.named q i (omega arith) e (sym (old q (omega arith)) ∙ f)

pub name_some : (heads index : List (Option ℕ)) (back : List ℕ) (k : ℕ) → IsNamed heads index back k → (option_at heads k ≡ None → ⊥) → IsNamed heads (index ++ Some (length back) ∷ []) (back ++ k ∷ []) (k + 1)
name_some heads index back k w some = record {
  len = push_len index (Some (length back)) ∙ ap (λ n. n + 1) w.len;
  back_in = (λ n a. inside n a (tell_equal n (length back)));
  back_is = (λ n a. is n a (tell_equal n (length back)));
  index_at = (λ q n a e. at q n a e (tell_equal q k));
  has_head = (λ n a e. head n a e (tell_equal n (length back)));
  named = (λ q i a e f. named q i a e f (tell_equal q k));
  rising = (λ n m a b. rise n m a b (tell_equal m (length back)));
}
  where
    old : (q : ℕ) → q < k → option_at (index ++ Some (length back) ∷ []) q ≡ option_at index q
    old q a = push_old index (Some (length back)) None q (let n : length index ≡ k = w.len in omega arith)

    new : option_at (index ++ Some (length back) ∷ []) k ≡ Some (length back)
    new = push_new index (Some (length back)) None k (sym w.len)

    back_old : (n : ℕ) → n < length back → slice_index (back ++ k ∷ []) n ≡ slice_index back n
    back_old n a = push_old back k 0 n a

    back_new : slice_index (back ++ k ∷ []) (length back) ≡ k
    back_new = push_new back k 0 (length back) refl

    less : (n : ℕ) → n < length (back ++ k ∷ []) → (n ≡ length back → ⊥) → n < length back
    less n a b = let y : length (back ++ k ∷ []) ≡ length back + 1 = push_len back k in omega arith

    inside : (n : ℕ) → n < length (back ++ k ∷ []) → (n ≡ length back) ⊎ ((n ≡ length back) → ⊥) → slice_index (back ++ k ∷ []) n < k + 1
    inside n a (inl e) = let x : slice_index (back ++ k ∷ []) n ≡ k = ap (slice_index (back ++ k ∷ [])) e ∙ back_new in omega arith
    inside n a (inr b) = let x : slice_index (back ++ k ∷ []) n ≡ slice_index back n = back_old n (less n a b) in let z : slice_index back n < k = w.back_in n (less n a b) in omega arith

    is : (n : ℕ) → n < length (back ++ k ∷ []) → (n ≡ length back) ⊎ ((n ≡ length back) → ⊥) → option_at (index ++ Some (length back) ∷ []) (slice_index (back ++ k ∷ []) n) ≡ Some n
    is n a (inl e) = ap (λ q. option_at (index ++ Some (length back) ∷ []) (slice_index (back ++ k ∷ []) q)) e ∙ ap (option_at (index ++ Some (length back) ∷ [])) back_new ∙ new ∙ ap Some (sym e)
    is n a (inr b) = ap (option_at (index ++ Some (length back) ∷ [])) (back_old n (less n a b)) ∙ old (slice_index back n) (w.back_in n (less n a b)) ∙ w.back_is n (less n a b)

    some_is : (x y : ℕ) → Some x ≡ Some y → x ≡ y
    some_is x y e = cc

    at : (q n : ℕ) → q < k + 1 → option_at (index ++ Some (length back) ∷ []) q ≡ Some n → (q ≡ k) ⊎ ((q ≡ k) → ⊥) → (n < length (back ++ k ∷ [])) × (slice_index (back ++ k ∷ []) n ≡ q)
    at q n a e (inl b) =
        let y : length (back ++ k ∷ []) ≡ length back + 1 = push_len back k in
        let x : length back ≡ n = some_is (length back) n (sym (ap (option_at (index ++ Some (length back) ∷ [])) b ∙ new) ∙ e) in
        (omega arith, ap (slice_index (back ++ k ∷ [])) (sym x) ∙ back_new ∙ sym b)
    at q n a e (inr b) =
        let y : length (back ++ k ∷ []) ≡ length back + 1 = push_len back k in
        let x = w.index_at q n (omega arith) (sym (old q (omega arith)) ∙ e) in
        (omega (arith, x.0), back_old n x.0 ∙ x.1)

    head : (n : ℕ) → n < length (back ++ k ∷ []) → option_at heads (slice_index (back ++ k ∷ []) n) ≡ None → (n ≡ length back) ⊎ ((n ≡ length back) → ⊥) → ⊥
    head n a e (inl b) = some (sym (ap (option_at heads) (ap (slice_index (back ++ k ∷ [])) b ∙ back_new)) ∙ e)
    head n a e (inr b) = w.has_head n (less n a b) (sym (ap (option_at heads) (back_old n (less n a b))) ∙ e)

    named : (q i : ℕ) → q < k + 1 → option_at heads q ≡ Some i → option_at (index ++ Some (length back) ∷ []) q ≡ None → (q ≡ k) ⊎ ((q ≡ k) → ⊥) → ⊥
    named q i a e f (inl b) = let z : Some (length back) ≡ None = sym (ap (option_at (index ++ Some (length back) ∷ [])) b ∙ new) ∙ f in cc (z)
    named q i a e f (inr b) = w.named q i (omega arith) e (sym (old q (omega arith)) ∙ f)

    rise : (n m : ℕ) → n < m → m < length (back ++ k ∷ []) → (m ≡ length back) ⊎ ((m ≡ length back) → ⊥) → slice_index (back ++ k ∷ []) n < slice_index (back ++ k ∷ []) m
    rise n m a b (inl e) =
        let x : slice_index (back ++ k ∷ []) m ≡ k = ap (slice_index (back ++ k ∷ [])) e ∙ back_new in
        let l : n < length back = omega arith in
        let z : slice_index (back ++ k ∷ []) n ≡ slice_index back n = back_old n l in
        let v : slice_index back n < k = w.back_in n l in omega arith
    rise n m a b (inr c) =
        let l : m < length back = less m b c in
        let x : slice_index (back ++ k ∷ []) m ≡ slice_index back m = back_old m l in
        let z : slice_index (back ++ k ∷ []) n ≡ slice_index back n = back_old n (omega arith) in
        let v : slice_index back n < slice_index back m = w.rising n m a l in omega arith

pub name_none_to : (heads index after : List (Option ℕ)) (back since : List ℕ) (k : ℕ) → IsNamed heads index back k → option_at heads k ≡ None → after ≡ index ++ None ∷ [] → since ≡ back → IsNamed heads after since (k + 1)
name_none_to heads index after back since k w none e f = subst (λ (x : List (Option ℕ)). IsNamed heads x since (k + 1)) (sym e) (subst (λ (x : List ℕ). IsNamed heads (index ++ None ∷ []) x (k + 1)) (sym f) (name_none heads index back k w none))

pub name_some_to : (heads index after : List (Option ℕ)) (back since : List ℕ) (k n i : ℕ) → IsNamed heads index back k → option_at heads k ≡ Some i → n ≡ length back → after ≡ index ++ Some n ∷ [] → since ≡ back ++ k ∷ [] → IsNamed heads after since (k + 1)
name_some_to heads index after back since k n i w some same e f = subst (λ (x : List (Option ℕ)). IsNamed heads x since (k + 1)) (sym (e ∙ ap (λ m. index ++ Some m ∷ []) same)) (subst (λ (x : List ℕ). IsNamed heads (index ++ Some (length back) ∷ []) x (k + 1)) (sym f)
    (name_some heads index back k w (λ z. let y : None ≡ Some i = sym z ∙ some in cc (y))))
