-- The log's number that a field spells.
use Rattle.std.proofs.Common.{◌≡◌, ◌≢◌, ℕ, zero, suc, ◌+◌, ◌/◌, ◌%◌, ◌^◌, ◌<◌, ◌≤◌, true, false, List, [], ◌∷◌, ◌++◌, length, decimal, refl, sym, ap, ◌∙◌, arith, ⊎_elim, Option, Some, None}
use Rattle.std.specs.Str.{bytes_eq}
use Rattle.std.proofs.lemmas.Bool.{cases_Bool, both_ways}
use Rattle.std.proofs.lemmas.Fmt.{decimal_by_steps, decimal_injective}
use Rattle.std.proofs.lemmas.Slice.Eq.{bytes_eq-Decides}
use Rattle.refluent.specs.declared.joint.TheConstants.{MAX_LOGS}
use Rattle.pref_list.specs.Prefs.{IsLogNumber, spelled, two_digits, log_number}

some_is : (m n : ℕ) → ◌≡◌ {A = Option ℕ} (Some m) (Some n) → m ≡ n
some_is m n e = cc

none_some : (n : ℕ) → ◌≡◌ {A = Option ℕ} None (Some n) → ⊥
none_some n e = cc

-- ---- what is spelled

record IsSpelled (most : ℕ) (field : List ℕ) (n : ℕ) : Type 0 where
  text : field ≡ decimal n
  low : 0 < n
  high : n ≤ most

spelled_is : (most : ℕ) (field : List ℕ) (n : ℕ) → spelled most field ≡ Some n → IsSpelled most field n
spelled_is zero field n e = absurd (none_some n e)
spelled_is (suc m) field n e =
    ⊎_elim
    (λ (t : bytes_eq field (decimal (suc m)) ≡ true).
    let same = some_is (suc m) n (rw t at e) in
    record { text = (bytes_eq-Decides field (decimal (suc m))).0 t ∙ ap decimal same; low = omega (arith, same); high = omega (arith, same) })
    (λ (f : bytes_eq field (decimal (suc m)) ≡ false).
    let is = spelled_is m field n (rw f at e) in
    record { text = is.text; low = is.low; high = let h = is.high in omega (arith, h) })
    (cases_Bool (bytes_eq field (decimal (suc m))))

spelled_back : (most n : ℕ) → 0 < n → n ≤ most → most < 2 ^ 64 → spelled most (decimal n) ≡ Some n
spelled_back zero n low high small = absurd (omega arith)
spelled_back (suc m) n low high small =
    ⊎_elim
    (λ (t : bytes_eq (decimal n) (decimal (suc m)) ≡ true).
    let same = decimal_injective n (suc m) (omega arith) small ((bytes_eq-Decides (decimal n) (decimal (suc m))).0 t) in
    rw t (ap Some (sym same)))
    (λ (f : bytes_eq (decimal n) (decimal (suc m)) ≡ false).
    let apart : n ≢ suc m = λ e. both_ways _ f ((bytes_eq-Decides (decimal n) (decimal (suc m))).1 (ap decimal e)) in
    rw f (spelled_back m n low (omega (arith, apart)) (omega arith)))
    (cases_Bool (bytes_eq (decimal n) (decimal (suc m))))

pub number_is : (field : List ℕ) (n : ℕ) → log_number field ≡ Some n → (field ≡ decimal n) × IsLogNumber n
unfolding log_number
number_is field n e = let is = spelled_is MAX_LOGS field n e in (is.text, record { low = is.low; high = is.high })

pub number_back : (n : ℕ) → IsLogNumber n → log_number (decimal n) ≡ Some n
unfolding log_number
number_back n h = spelled_back MAX_LOGS n h.low h.high (omega arith)

-- ---- by its digits

record HasDigits (n : ℕ) (ds : List ℕ) : Type 0 where
  value : n < 100 → two_digits ds ≡ n
  one : n < 10 → length ds ≡ 1

one_digit : (n : ℕ) → n < 10 → HasDigits n ((48 + n) ∷ [])
one_digit n h = record { value = λ _. omega arith; one = λ _. refl }

more_digits : (n : ℕ) (ds : List ℕ) → 10 ≤ n → HasDigits (n / 10) ds → HasDigits n (ds ++ (48 + n % 10) ∷ [])
more_digits n [] many h = record { value = λ small. let one = h.one (omega arith) in absurd (omega (arith, one)); one = λ small. absurd (omega arith) }
more_digits n (d ∷ []) many h = record { value = λ small. let v = h.value (omega arith) in omega (arith, v); one = λ small. absurd (omega arith) }
more_digits n (d ∷ e ∷ ds) many h = record { value = λ small. let one : length (d ∷ e ∷ ds) ≡ 1 = h.one (omega arith) in absurd (omega (arith, one)); one = λ small. absurd (omega arith) }

digits_back : (n : ℕ) → n < 100 → two_digits (decimal n) ≡ n
digits_back n small = (decimal_by_steps HasDigits one_digit more_digits n (omega arith)).value small

pub number_spelled : (field : List ℕ) (n : ℕ) → 0 < n → n ≤ MAX_LOGS → bytes_eq field (decimal n) ≡ true → Some n ≡ log_number field
number_spelled field n low high e =
    sym (ap log_number ((bytes_eq-Decides field (decimal n)).0 e) ∙ number_back n (record { low = low; high = high }))

-- where the number of the digits is none of a log's, or is spelled otherwise, the field spells none
pub number_none : (field : List ℕ) (n : ℕ) → n ≡ two_digits field → (0 < n → n ≤ MAX_LOGS → bytes_eq field (decimal n) ≡ false) → None ≡ log_number field
number_none field n value other = go (log_number field) refl
  where
    go : (o : Option ℕ) → log_number field ≡ o → None ≡ log_number field
    go None e = sym e
    go (Some m) e =
        let is = number_is field m e in
        let low = is.1.low in
        let high = is.1.high in
        let same : n ≡ m = value ∙ ap two_digits is.0 ∙ digits_back m (omega (arith, high)) in
        let f = other (omega (arith, same, low)) (omega (arith, same, high)) in
        absurd (both_ways _ f ((bytes_eq-Decides field (decimal n)).1 (is.0 ∙ ap decimal (sym same))))
