-- A number is read from its decimal spelling alone.
use Rattle.std.proofs.Common.{◌≡◌, ◌∙◌, ◌<◌, ◌≤◌, ◌^◌, ◌&&◌, ℕ, Bool, true, false, true≢false, refl, sym, ap, List, Option, Some, None, Result, Ok, Err, nat_le, decimal, arith}
use Rattle.std.specs.Str.{bytes_eq}
use Rattle.std.specs.Str.Parse.{ParsesUnsigned, digits_value}
use Rattle.std.proofs.lemmas.Fmt.{decimal_is_IsNumeral, parse-decimal}
use Rattle.std.proofs.lemmas.Slice.Eq.{bytes_eq-Decides}
use Rattle.std.proofs.lemmas.Bool.{le-leb, leb-true}
use Rattle.tool_words.specs.Words.{Text}
use Rattle.tool_words.specs.Numbers.{in_bounds, number_between}

-- two values of one result are equal, and a value is no error
pub same_ok : {E : Type 0} (r : Result ℕ E) (m n : ℕ) → r ≡ Ok m → r ≡ Ok n → m ≡ n
same_ok r m n a b = cc

pub ok_or_err : {E : Type 0} (r : Result ℕ E) (n : ℕ) (e : E) → r ≡ Ok n → r ≡ Err e → ⊥
ok_or_err r n e a b = cc

-- the value of a decimal spelling
spelled_value : (text : Text) (n : ℕ) → n < 2 ^ 32 → bytes_eq text (decimal n) ≡ true → digits_value 10 text ≡ n
spelled_value text n small e = ap (digits_value 10) ((bytes_eq-Decides text (decimal n)).0 e) ∙ (decimal_is_IsNumeral n (omega (arith, small))).1

-- a number in bounds, whose spelling the text is
pub number_is : (low high : ℕ) (text : Text) (n : ℕ) → n < 2 ^ 32 → bytes_eq text (decimal n) ≡ true → low ≤ n → n ≤ high
    → Some n ≡ number_between low high text
number_is low high text n small e l h = rw (spelled_value text n small e, e, le-leb low n l, le-leb n high h) refl

-- where parsing gives no such number there is none
pub number_none : {E : Type 0} (low high : ℕ) (text : Text) (r : Result ℕ E) → high < 2 ^ 32 → ParsesUnsigned 32 10 text r
    → ((n : ℕ) → r ≡ Ok n → bytes_eq text (decimal n) ≡ true → low ≤ n → n ≤ high → ⊥)
    → None ≡ number_between low high text
number_none low high text r small parses other = by (bytes_eq text (decimal n)) refl (nat_le low n) refl (nat_le n high) refl
  where
    n : ℕ
    n = digits_value 10 text

    by : (a : Bool) → bytes_eq text (decimal n) ≡ a → (b : Bool) → nat_le low n ≡ b → (c : Bool) → nat_le n high ≡ c → None ≡ number_between low high text
    by true ea true eb true ec =
        let below : n < 2 ^ 32 = omega (arith, leb-true n high ec, small) in
        absurd (other n (parse-decimal 32 n text r below (omega (arith, below)) ((bytes_eq-Decides text (decimal n)).0 ea) parses) ea (leb-true low n eb) (leb-true n high ec))
    by true ea true eb false ec = rw (ea, eb, ec) refl
    by true ea false eb c ec = rw (ea, eb) refl
    by false ea b eb c ec = rw ea refl
