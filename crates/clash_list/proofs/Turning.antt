-- The steps of a cursor give one pair after another.
use Rattle.std.proofs.Common.{◌≡◌, ℕ, ◌+◌, ◌<◌, ◌≤◌, List, [], ◌∷◌, ◌++◌, length, get_or, drop, drop-cons, length-drop, add-one, refl, sym, ap, ◌∙◌, arith, ◌⊎◌, inl, inr}
use Rattle.std.specs.Prelude.{map}
use Rattle.std.proofs.lemmas.List.{drop_all}
use Rattle.std.proofs.lemmas.Bool.{cases_lt}
use Rattle.clash_list.specs.declared.clashes.Clash.{Clash}
use Rattle.clash_list.specs.ClashLists.{pairs, products}
use Rattle.clash_list.specs.Walks.{pairs_left, products_left}

opened : (xs : List ℕ) (i : ℕ) → i < length xs → drop i xs ≡ get_or xs i 0 ∷ drop (i + 1) xs
opened xs i low = rw (add-one, drop-cons xs i 0)

past : (xs : List ℕ) (i : ℕ) → length xs ≤ i → drop i xs ≡ []
past xs i high = drop_all i xs high

module _ (clash : ℕ → ℕ → Clash) where
  -- ---- products

  products_none : (lefts : List ℕ) → products clash lefts [] ≡ []
  products_none [] = refl
  products_none (l ∷ lefts) = products_none lefts

  pub products_first : (lefts all : List ℕ) → products_left clash lefts all all ≡ products clash lefts all
  products_first [] all = refl
  products_first (l ∷ lefts) all = refl

  pub products_over : (lefts rights : List ℕ) (i j : ℕ) → (length rights ≤ j → j ≡ 0) → (length lefts ≤ i) ⊎ (length rights ≤ j) → products_left clash (drop i lefts) (drop j rights) rights ≡ []
  products_over lefts rights i j turn (inl high) = ap (λ l. products_left clash l (drop j rights) rights) (past lefts i high)
  products_over lefts rights i j turn (inr high) =
      let none : length rights ≤ 0 = let e = turn high in omega arith in
      go (drop i lefts) (drop j rights) rights (past rights j high) (past rights 0 none)
    where
      go : (ls rs all : List ℕ) → rs ≡ [] → all ≡ [] → products_left clash ls rs all ≡ []
      go [] rs all e f = refl
      go (l ∷ ls) rs all e f = (λ i. map (clash l) (e i) ++ products clash ls (f i)) ∙ products_none ls

  module _ (lefts rights : List ℕ) (i j : ℕ) (low : i < length lefts) (within : j < length rights) where
    products_step : products_left clash (drop i lefts) (drop j rights) rights ≡ clash (get_or lefts i 0) (get_or rights j 0) ∷ (map (clash (get_or lefts i 0)) (drop (j + 1) rights) ++ products clash (drop (i + 1) lefts) rights)
    products_step = λ k. products_left clash (opened lefts i low k) (opened rights j within k) rights

    pub products_on : products_left clash (drop i lefts) (drop j rights) rights ≡ clash (get_or lefts i 0) (get_or rights j 0) ∷ products_left clash (drop i lefts) (drop (j + 1) rights) rights
    products_on = products_step ∙ ap (λ l. clash (get_or lefts i 0) (get_or rights j 0) ∷ l) (ap (λ l. products_left clash l (drop (j + 1) rights) rights) (sym (opened lefts i low)))

    pub products_down : length rights ≤ j + 1 → products_left clash (drop i lefts) (drop j rights) rights ≡ clash (get_or lefts i 0) (get_or rights j 0) ∷ products_left clash (drop (i + 1) lefts) (drop 0 rights) rights
    products_down high = products_step ∙ ap (λ l. clash (get_or lefts i 0) (get_or rights j 0) ∷ l)
        (ap (λ l. map (clash (get_or lefts i 0)) l ++ products clash (drop (i + 1) lefts) rights) (past rights (j + 1) high) ∙ sym (products_first (drop (i + 1) lefts) rights))

  -- ---- pairs

  pub pairs_first : (logs : List ℕ) (i : ℕ) → pairs_left clash (drop i logs) (drop (i + 1) logs) ≡ pairs clash (drop i logs)
  pairs_first logs i = go (drop i logs) (drop (i + 1) logs) (λ l. drop_next logs i l)
    where
      drop_next : (logs : List ℕ) (i l : ℕ) (more : List ℕ) → drop i logs ≡ l ∷ more → drop (i + 1) logs ≡ more
      drop_next logs i l more e = cases (cases_lt i (length logs))
        where
          tails : get_or logs i 0 ∷ drop (i + 1) logs ≡ l ∷ more → drop (i + 1) logs ≡ more
          tails e = cc

          none : drop i logs ≡ [] → drop (i + 1) logs ≡ more
          none f = cc (e, f)

          cases : (i < length logs) ⊎ (length logs ≤ i) → drop (i + 1) logs ≡ more
          cases (inl low) = tails (sym (opened logs i low) ∙ e)
          cases (inr high) = none (past logs i high)

      go : (ls rs : List ℕ) → ((l : ℕ) (more : List ℕ) → ls ≡ l ∷ more → rs ≡ more) → pairs_left clash ls rs ≡ pairs clash ls
      go [] rs h = refl
      go (l ∷ ls) rs h = ap (λ r. map (clash l) r ++ pairs clash ls) (h l ls refl)

  pub pairs_over : (logs : List ℕ) (i j : ℕ) → (length logs ≤ j → j ≡ i + 1) → (length logs ≤ i) ⊎ (length logs ≤ j) → pairs_left clash (drop i logs) (drop j logs) ≡ []
  pairs_over logs i j turn (inl high) = ap (λ l. pairs_left clash l (drop j logs)) (past logs i high)
  pairs_over logs i j turn (inr high) =
      ap (λ n. pairs_left clash (drop i logs) (drop n logs)) (turn high) ∙ pairs_first logs i ∙ go (drop i logs) (short (turn high))
    where
      short : j ≡ i + 1 → length (drop i logs) ≤ 1
      short e = omega (arith, length-drop i logs)

      go : (ls : List ℕ) → length ls ≤ 1 → pairs clash ls ≡ []
      go [] h = refl
      go (l ∷ []) h = refl
      go (l ∷ k ∷ ls) h = absurd (omega arith)

  module _ (logs : List ℕ) (i j : ℕ) (low : i < length logs) (within : j < length logs) where
    pairs_step : pairs_left clash (drop i logs) (drop j logs) ≡ clash (get_or logs i 0) (get_or logs j 0) ∷ (map (clash (get_or logs i 0)) (drop (j + 1) logs) ++ pairs clash (drop (i + 1) logs))
    pairs_step = λ k. pairs_left clash (opened logs i low k) (opened logs j within k)

    pub pairs_on : pairs_left clash (drop i logs) (drop j logs) ≡ clash (get_or logs i 0) (get_or logs j 0) ∷ pairs_left clash (drop i logs) (drop (j + 1) logs)
    pairs_on = pairs_step ∙ ap (λ l. clash (get_or logs i 0) (get_or logs j 0) ∷ l) (ap (λ l. pairs_left clash l (drop (j + 1) logs)) (sym (opened logs i low)))

    pub pairs_down : length logs ≤ j + 1 → pairs_left clash (drop i logs) (drop j logs) ≡ clash (get_or logs i 0) (get_or logs j 0) ∷ pairs_left clash (drop (i + 1) logs) (drop (i + 1 + 1) logs)
    pairs_down high = pairs_step ∙ ap (λ l. clash (get_or logs i 0) (get_or logs j 0) ∷ l)
        (ap (λ l. map (clash (get_or logs i 0)) l ++ pairs clash (drop (i + 1) logs)) (past logs (j + 1) high) ∙ sym (pairs_first logs (i + 1)))
