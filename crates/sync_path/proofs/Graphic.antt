-- An escaped text has no control byte, no space and no byte from 0x7F on.
use Rattle.std.proofs.Common.{◌≡◌, ◌||◌, ℕ, ◌/◌, ◌%◌, ◌<◌, Bool, true, false, List, [], ◌∷◌, ◌++◌, take, drop, position, sym, refl, ap, ◌∙◌, ⊎_elim, arith, nat_eq, nat_le, Err}
use Rattle.std.specs.Fmt.{digit_glyph}
use Rattle.std.specs.List.{list_any, position_or_len}
use Rattle.std.proofs.lemmas.Bool.{cases_Bool}
use Rattle.std.proofs.lemmas.Bool.Decides.{nat_tests}
use Rattle.std.proofs.lemmas.List.{take-append-drop}
use Rattle.std.proofs.lemmas.List.Folds.{list_any-append}
use Rattle.percent_encoding.specs.Percent.{percent_encode_byte}
use Rattle.sync_path.specs.declared.faults.PathFault.TheVariants.{BadEscape}
use Rattle.sync_path.specs.Escapes.{needs_escape, is_nongraphic, escape_byte, escaped, unescaped_of}
use Rattle.sync_path.proofs.Texts.{escaped-nil, escaped-cons}
use Rattle.sync_path.proofs.TextLaws.{bad_escape_is}

-- a byte is escaped where it is nongraphic or the percent of an escape
needs_escape_is : (b : ℕ) → needs_escape b ≡ (is_nongraphic b || nat_eq b 37)
needs_escape_is b =
    ⊎_elim
    (λ (t : nat_le b 32 ≡ true). rw t refl)
    (λ (f : nat_le b 32 ≡ false).
    ⊎_elim
    (λ (s : nat_le 127 b ≡ true). ⊎_elim (λ (e : nat_eq b 37 ≡ true). rw (f, s, e) refl) (λ (e : nat_eq b 37 ≡ false). rw (f, s, e) refl) (cases_Bool (nat_eq b 37)))
    (λ (g : nat_le 127 b ≡ false). ⊎_elim (λ (e : nat_eq b 37 ≡ true). rw (f, g, e) refl) (λ (e : nat_eq b 37 ≡ false). rw (f, g, e) refl) (cases_Bool (nat_eq b 37)))
    (cases_Bool (nat_le 127 b)))
    (cases_Bool (nat_le b 32))

either_false : (a b : Bool) → (a || b) ≡ false → (a ≡ false) × (b ≡ false)
either_false false b h = (refl, h)
either_false true b h = absurd (cc)

graphic_glyph : (h : ℕ) → h < 16 → is_nongraphic (digit_glyph true h) ≡ false
graphic_glyph h small = grind (arith, nat_tests)

graphic_escape : (b : ℕ) → list_any is_nongraphic (percent_encode_byte b) ≡ false
unfolding percent_encode_byte
graphic_escape b = rw (graphic_glyph (b / 16 % 16) (omega arith), graphic_glyph (b % 16) (omega arith)) refl

graphic_byte : (b : ℕ) → list_any is_nongraphic (escape_byte b) ≡ false
graphic_byte b =
    ⊎_elim
    (λ (t : needs_escape b ≡ true). rw t (graphic_escape b))
    (λ (f : needs_escape b ≡ false). let h = either_false (is_nongraphic b) (nat_eq b 37) (sym (needs_escape_is b) ∙ f) in rw (f, h.0) refl)
    (cases_Bool (needs_escape b))

graphic_text : (bytes : List ℕ) → list_any is_nongraphic (escaped bytes) ≡ false
graphic_text [] = ap (list_any is_nongraphic) escaped-nil
graphic_text (b ∷ bytes) =
    ap (list_any is_nongraphic) (escaped-cons b bytes) ∙ list_any-append is_nongraphic (escape_byte b) (escaped bytes)
    ∙ rw (graphic_byte b, graphic_text bytes) refl

pub nongraphic_refused : (text : List ℕ) → list_any is_nongraphic text ≡ true → unescaped_of text ≡ Err BadEscape
nongraphic_refused text h = (bad_escape_is text).1 (λ (whole, small, same). let e = sym h ∙ ap (list_any is_nongraphic) same ∙ graphic_text whole in cc)

-- ---- where nothing is nongraphic

same_place : (xs : List ℕ) → list_any is_nongraphic xs ≡ false → position_or_len needs_escape xs ≡ position_or_len (λ b. nat_eq b 37) xs
same_place [] h = refl
same_place (x ∷ xs) h =
    let parts = either_false (is_nongraphic x) (list_any is_nongraphic xs) h in
    let test : needs_escape x ≡ nat_eq x 37 = needs_escape_is x ∙ rw parts.0 refl in
    rw (test, same_place xs parts.1) refl

pub only_percents : (xs : List ℕ) → list_any is_nongraphic xs ≡ false → position needs_escape xs ≡ position (λ b. nat_eq b 37) xs
only_percents xs h = rw (same_place xs h) refl

pub graphic_rest : (prefix rest : List ℕ) → list_any is_nongraphic (prefix ++ rest) ≡ false → list_any is_nongraphic rest ≡ false
graphic_rest prefix rest h = (either_false (list_any is_nongraphic prefix) (list_any is_nongraphic rest) (sym (list_any-append is_nongraphic prefix rest) ∙ h)).1

pub graphic_after_escape : (xs after : List ℕ) (at b : ℕ) → list_any is_nongraphic xs ≡ false → drop at xs ≡ percent_encode_byte b ++ after → list_any is_nongraphic after ≡ false
graphic_after_escape xs after at b h e =
    graphic_rest (percent_encode_byte b) after
    (ap (list_any is_nongraphic) (sym e) ∙ graphic_rest (take at xs) (drop at xs) (ap (list_any is_nongraphic) (take-append-drop at xs) ∙ h))
