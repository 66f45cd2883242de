-- Linking the indexes of each key.
use Rattle.std.proofs.Common.{◌≡◌, ℕ, ◌+◌, ◌<◌, ◌≤◌, refl, ap, sym, subst, ◌∙◌, arith, ◌⊎◌, inl, inr, Option, Some, None, List, length, slice_set, get_or-set_same, get_or-set_other, length-set}
use Rattle.std.specs.Prelude.{unwrap_or, IfSome, IfNone}
use Rattle.scan_board.specs.Linked.{IsOptionWithin, option_at, IsLinked}

tell_equal : (a b : ℕ) → (a ≡ b) ⊎ ((a ≡ b) → ⊥)
tell_equal a b = grind arith

pub link_start : (keys : List (Option ℕ)) (buckets : ℕ) (heads nexts : List (Option ℕ)) → length heads ≡ buckets → length nexts ≡ length keys → ((q : ℕ) → q < buckets → option_at heads q ≡ None) → IsLinked keys buckets heads nexts (length keys)
link_start keys buckets heads nexts h n none = record {
  heads_len = h;
  nexts_len = n;
  head_at = (λ q i l e. absurd (let z : None ≡ Some i = sym (none q l) ∙ e in cc (z)));
  head_least = (λ q i l f b e. let z : unwrap_or (option_at heads q) (length keys) ≡ length keys = ap (λ o. unwrap_or o (length keys)) (none q l) in omega arith);
  next_in = (λ i f l. absurd (omega arith));
  next_at = (λ i k f l e. absurd (omega arith));
  next_least = (λ i k q f l b e g j. absurd (omega arith));
}

module _ (keys : List (Option ℕ)) (buckets : ℕ) (heads nexts after since : List (Option ℕ)) (i : ℕ) (o : Option ℕ) (l : i < length keys) (w : IsLinked keys buckets heads nexts (i + 1)) where
  private_split : (j : ℕ) → i ≤ j → (j ≡ i) ⊎ (i + 1 ≤ j)
  private_split j a = grind arith

  next_same : since ≡ slice_set nexts i o → option_at since i ≡ o
  next_same e = ap (λ xs. option_at xs i) e ∙ get_or-set_same nexts i o None (let k : length nexts ≡ length keys = w.nexts_len in omega arith)

  next_other : since ≡ slice_set nexts i o → (j : ℕ) → i + 1 ≤ j → option_at since j ≡ option_at nexts j
  next_other e j a = ap (λ xs. option_at xs j) e ∙ get_or-set_other nexts i j o None (λ z. omega arith)

  long : since ≡ slice_set nexts i o → length since ≡ length keys
  long e = ap length e ∙ length-set nexts i o ∙ w.nexts_len

  -- an index without a key
  pub link_none : o ≡ None → option_at keys i ≡ None → after ≡ heads → since ≡ slice_set nexts i o → IsLinked keys buckets after since i
  link_none none key same e = record {
    heads_len = ap length same ∙ w.heads_len;
    nexts_len = long e;
    head_at = (λ q j a f. let x = w.head_at q j a (sym (ap (λ xs. option_at xs q) same) ∙ f) in (omega (arith, x.0), x.1, x.2));
    head_least = (λ q j a f b k. least q j a (subst (λ xs. j < unwrap_or (option_at xs q) (length keys)) same b) k (private_split j f));
    next_in = (λ j f b. inside j b (private_split j f));
    next_at = (λ j k f b g. at j k b g (private_split j f));
    next_least = (λ j k q f b c d g h. gap j k q b c d g h (private_split j f));
  }
    where
      least : (q j : ℕ) → q < buckets → j < unwrap_or (option_at heads q) (length keys) → option_at keys j ≡ Some q → (j ≡ i) ⊎ (i + 1 ≤ j) → ⊥
      least q j a b k (inl x) = let z : None ≡ Some q = sym key ∙ ap (option_at keys) (sym x) ∙ k in cc (z)
      least q j a b k (inr x) = w.head_least q j a x b k

      inside : (j : ℕ) → j < length keys → (j ≡ i) ⊎ (i + 1 ≤ j) → j < unwrap_or (option_at since j) (length keys)
      inside j b (inl x) = subst (λ z. j < unwrap_or z (length keys)) (sym (ap (option_at since) x ∙ next_same e ∙ none)) b
      inside j b (inr x) = subst (λ z. j < unwrap_or z (length keys)) (sym (next_other e j x)) (w.next_in j x b)

      at : (j k : ℕ) → j < length keys → option_at since j ≡ Some k → (j ≡ i) ⊎ (i + 1 ≤ j) → (k < length keys) × (option_at keys k ≡ option_at keys j)
      at j k b g (inl x) = absurd (let z : None ≡ Some k = sym (ap (option_at since) x ∙ next_same e ∙ none) ∙ g in cc (z))
      at j k b g (inr x) = w.next_at j k x b (sym (next_other e j x) ∙ g)

      gap : (j k q : ℕ) → j < length keys → j < k → k < unwrap_or (option_at since j) (length keys) → option_at keys j ≡ Some q → option_at keys k ≡ Some q → (j ≡ i) ⊎ (i + 1 ≤ j) → ⊥
      gap j k q b c d g h (inl x) = let z : None ≡ Some q = sym key ∙ ap (option_at keys) (sym x) ∙ g in cc (z)
      gap j k q b c d g h (inr x) = w.next_least j k q x b c (subst (λ z. k < unwrap_or z (length keys)) (next_other e j x) d) g h

  -- an index becomes the head of its key
  pub link_some : (p : ℕ) → p < buckets → o ≡ option_at heads p → option_at keys i ≡ Some p → after ≡ slice_set heads p (Some i) → since ≡ slice_set nexts i o → IsLinked keys buckets after since i
  link_some p lp old key put e = record {
    heads_len = ap length put ∙ length-set heads p (Some i) ∙ w.heads_len;
    nexts_len = long e;
    head_at = (λ q j a f. head q j a f (tell_equal q p));
    head_least = (λ q j a f b k. least q j a f b k (tell_equal q p) (private_split j f));
    next_in = (λ j f b. inside j b (private_split j f));
    next_at = (λ j k f b g. at j k b g (private_split j f));
    next_least = (λ j k q f b c d g h. gap j k q b c d g h (private_split j f));
  }
    where
      head_same : option_at after p ≡ Some i
      head_same = ap (λ xs. option_at xs p) put ∙ get_or-set_same heads p (Some i) None (let k : length heads ≡ buckets = w.heads_len in omega arith)

      head_other : (q : ℕ) → (q ≡ p → ⊥) → option_at after q ≡ option_at heads q
      head_other q a = ap (λ xs. option_at xs q) put ∙ get_or-set_other heads p q (Some i) None a

      some_is : (x y : ℕ) → Some x ≡ Some y → x ≡ y
      some_is x y e = cc

      head : (q j : ℕ) → q < buckets → option_at after q ≡ Some j → (q ≡ p) ⊎ ((q ≡ p) → ⊥) → (i ≤ j) × (j < length keys) × (option_at keys j ≡ Some q)
      head q j a f (inl x) = let is : i ≡ j = some_is i j (sym head_same ∙ ap (option_at after) (sym x) ∙ f) in (omega arith, omega arith, ap (option_at keys) (sym is) ∙ key ∙ ap Some (sym x))
      head q j a f (inr x) = let y = w.head_at q j a (sym (head_other q x) ∙ f) in (omega (arith, y.0), y.1, y.2)

      least : (q j : ℕ) → q < buckets → i ≤ j → j < unwrap_or (option_at after q) (length keys) → option_at keys j ≡ Some q → (q ≡ p) ⊎ ((q ≡ p) → ⊥) → (j ≡ i) ⊎ (i + 1 ≤ j) → ⊥
      least q j a f b k (inl x) y = let z : unwrap_or (option_at after q) (length keys) ≡ i = ap (λ o. unwrap_or o (length keys)) (ap (option_at after) x ∙ head_same) in omega arith
      least q j a f b k (inr x) (inl y) = x (some_is q p (sym k ∙ ap (option_at keys) y ∙ key))
      least q j a f b k (inr x) (inr y) = w.head_least q j a y (subst (λ o. j < unwrap_or o (length keys)) (head_other q x) b) k

      -- what the head was
      next_i : option_at since i ≡ option_at heads p
      next_i = next_same e ∙ old

      higher : (z : Option ℕ) → option_at heads p ≡ z → i < unwrap_or z (length keys)
      higher None f = l
      higher (Some j) f = let y = w.head_at p j lp f in omega (arith, y.0)

      inside : (j : ℕ) → j < length keys → (j ≡ i) ⊎ (i + 1 ≤ j) → j < unwrap_or (option_at since j) (length keys)
      inside j b (inl x) = subst (λ q. q < unwrap_or (option_at since q) (length keys)) (sym x) (subst (λ z. i < unwrap_or z (length keys)) (sym next_i) (higher (option_at heads p) refl))
      inside j b (inr x) = subst (λ z. j < unwrap_or z (length keys)) (sym (next_other e j x)) (w.next_in j x b)

      at : (j k : ℕ) → j < length keys → option_at since j ≡ Some k → (j ≡ i) ⊎ (i + 1 ≤ j) → (k < length keys) × (option_at keys k ≡ option_at keys j)
      at j k b g (inl x) = let y = w.head_at p k lp (sym next_i ∙ ap (option_at since) (sym x) ∙ g) in (y.1, y.2 ∙ sym key ∙ ap (option_at keys) (sym x))
      at j k b g (inr x) = w.next_at j k x b (sym (next_other e j x) ∙ g)

      gap : (j k q : ℕ) → j < length keys → j < k → k < unwrap_or (option_at since j) (length keys) → option_at keys j ≡ Some q → option_at keys k ≡ Some q → (j ≡ i) ⊎ (i + 1 ≤ j) → ⊥
      gap j k q b c d g h (inl x) =
          let same : q ≡ p = some_is q p (sym g ∙ ap (option_at keys) x ∙ key) in
          w.head_least p k lp (omega arith) (subst (λ z. k < unwrap_or z (length keys)) (ap (option_at since) x ∙ next_i) d) (h ∙ ap Some same)
      gap j k q b c d g h (inr x) = w.next_least j k q x b c (subst (λ z. k < unwrap_or z (length keys)) (next_other e j x) d) g h

-- one index more, whether it has a key or not
pub link_next : (keys : List (Option ℕ)) (buckets : ℕ) (heads nexts after since : List (Option ℕ)) (i : ℕ) (key o : Option ℕ) → i < length keys → IsLinked keys buckets heads nexts (i + 1) → option_at keys i ≡ key → IsOptionWithin key buckets →
    IfNone key ((o ≡ None) × (after ≡ heads)) → IfSome key (λ q. (o ≡ option_at heads q) × (after ≡ slice_set heads q (Some i))) → since ≡ slice_set nexts i o → IsLinked keys buckets after since i
link_next keys buckets heads nexts after since i None o l w e within none some put = link_none keys buckets heads nexts after since i o l w none.0 e none.1 put
link_next keys buckets heads nexts after since i (Some p) o l w e within none some put = link_some keys buckets heads nexts after since i o l w p within some.0 e some.1 put
