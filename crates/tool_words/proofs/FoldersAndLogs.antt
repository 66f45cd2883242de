-- The words of a round.
use Rattle.std.proofs.Common.{◌≡◌, ◌∙◌, ◌&&◌, ◌+◌, ◌≤◌, refl, sym, ap, ℕ, zero, suc, true, not, List, [], ◌∷◌, Some, option_map, length, take, drop, string_bytes, arith, drop-drop}
use Rattle.std.proofs.lemmas.List.{drop_all, take-map, drop-take}
use Rattle.std.specs.List.{slice_get}
use Rattle.std.specs.Str.{bytes_eq}
use Rattle.std.specs.declared.alloc.Global.{Global}
use Rattle.std.specs.declared.string.String.{String}
use Rattle.tool_words.specs.Words.{Text, Operand, numbered, texts_of}
use Rattle.tool_words.specs.Rounds.{are_different, is_other}

-- ---- operands that differ

-- the operands from one on, whose text is known
some_at : (name : Text) (operands : List Operand) (at : ℕ) → option_map (λ operand. operand.text) (slice_get operands at) ≡ Some name
    → (o : Operand) × (o.text ≡ name) × (drop at operands ≡ o ∷ drop (at + 1) operands)
some_at name [] at e = absurd (cc)
some_at name (o ∷ operands) zero e = (o, cc, refl)
some_at name (o ∷ operands) (suc at) e =
    let found = some_at name operands at e in
    let next : suc at + 1 ≡ suc (at + 1) = omega arith in
    (found.0, found.1, found.2 ∙ ap (λ n. found.0 ∷ drop n (o ∷ operands)) (sym next))

pub other_here : (text name : Text) (operands : List Operand) (at : ℕ) → option_map (λ operand. operand.text) (slice_get operands at) ≡ Some name
    → is_other text (drop at operands) ≡ (not (bytes_eq name text) && is_other text (drop (at + 1) operands))
other_here text name operands at e =
    let found = some_at name operands at e in
    ap (is_other text) found.2 ∙ ap (λ t. not (bytes_eq t text) && is_other text (drop (at + 1) operands)) found.1

pub different_here : (name : Text) (operands : List Operand) (at : ℕ) → option_map (λ operand. operand.text) (slice_get operands at) ≡ Some name
    → are_different (drop at operands) ≡ (is_other name (drop (at + 1) operands) && are_different (drop (at + 1) operands))
different_here name operands at e =
    let found = some_at name operands at e in
    ap are_different found.2 ∙ ap (λ t. is_other t (drop (at + 1) operands) && are_different (drop (at + 1) operands)) found.1

-- past the last there is none that is the same
pub other_end : (text : Text) (operands : List Operand) (at : ℕ) → length operands ≤ at → is_other text (drop at operands) ≡ true
other_end text operands at h = ap (is_other text) (drop_all at operands h)

pub different_end : (operands : List Operand) (at : ℕ) → length operands ≤ at → are_different (drop at operands) ≡ true
different_end operands at h = ap are_different (drop_all at operands h)

-- ---- a list that ends before the last word

numbered_take : (n place : ℕ) (words : List Text) → numbered place (take n words) ≡ take n (numbered place words)
numbered_take zero place words = refl
numbered_take (suc n) place [] = refl
numbered_take (suc n) place (word ∷ words) = ap (λ rest. record { text = word; place = place } ∷ rest) (numbered_take n (suc place) words)

pub prefix_of : (first at : ℕ) (words : List (String Global))
    → drop first (numbered 0 (texts_of (take (first + at) words))) ≡ take at (drop first (numbered 0 (texts_of words)))
prefix_of first at words =
    ap (λ texts. drop first (numbered 0 texts)) (sym (take-map string_bytes (first + at) words))
    ∙ ap (drop first) (numbered_take (first + at) 0 (texts_of words))
    ∙ drop-take first at (numbered 0 (texts_of words))

pub back_of : (first at : ℕ) (words : List (String Global))
    → drop (first + at) (numbered 0 (texts_of words)) ≡ drop at (drop first (numbered 0 (texts_of words)))
back_of first at words = sym (drop-drop at first (numbered 0 (texts_of words)))
