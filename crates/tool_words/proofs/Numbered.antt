-- Operands by their places.
use Rattle.std.proofs.Common.{◌≡◌, ◌∙◌, ◌<◌, ◌≤◌, ◌+◌, ◌-◌, refl, sym, ap, List, ℕ, zero, suc, [], ◌∷◌, Some, length, drop, get_or, option_map, string_bytes, length-drop, arith}
use Rattle.std.specs.List.{slice_get}
use Rattle.std.proofs.lemmas.List.{length-map}
use Rattle.std.specs.declared.alloc.Global.{Global}
use Rattle.std.specs.declared.string.String.{String}
use Rattle.tool_words.specs.Operands.{operand_text, text_at, word_at}
use Rattle.tool_words.specs.Words.{Text, Operand, numbered, places_of, first_place, texts_of}

-- the operand of a text and a place
abbrev operand : Text → ℕ → Operand
operand text place = record { text = text; place = place }

-- there are as many operands as words
pub numbered_length : (place : ℕ) (words : List Text) → length (numbered place words) ≡ length words
numbered_length place [] = refl
numbered_length place (word ∷ words) = ap suc (numbered_length (suc place) words)

-- and from one on, as many as words from there on
pub rest_length : (first : ℕ) (words : List (String Global)) → length (drop first (numbered 0 (texts_of words))) ≡ length words - first
rest_length first words =
    length-drop first (numbered 0 (texts_of words))
    ∙ ap (λ n. n - first) (numbered_length 0 (texts_of words) ∙ length-map words string_bytes)

-- the operand at an index
operand_at : (place : ℕ) (words : List (String Global)) (at : ℕ) (d : String Global) → at < length words
    → slice_get (numbered place (texts_of words)) at ≡ Some (operand (string_bytes (get_or words at d)) (place + at))
operand_at place [] at d h = absurd (omega arith)
operand_at place (word ∷ words) zero d h = ap (λ n. Some (operand (string_bytes word) n)) (let e : place ≡ place + 0 = omega arith in e)
operand_at place (word ∷ words) (suc at) d h =
    operand_at (suc place) words at d (omega arith)
    ∙ ap (λ n. Some (operand (string_bytes (get_or words at d)) n)) (let e : suc place + at ≡ place + suc at = omega arith in e)

-- and at an index from one on, which is the word at the sum
at_from : (first place : ℕ) (words : List (String Global)) (at sum : ℕ) (d : String Global) → sum ≡ first + at → sum < length words
    → slice_get (drop first (numbered place (texts_of words))) at ≡ Some (operand (string_bytes (get_or words sum d)) (place + sum))
at_from zero place words at sum d is h =
    let e : at ≡ sum = omega (arith, is) in
    rw e (operand_at place words sum d h)
at_from (suc first) place words at zero d is h = absurd (omega (arith, is))
at_from (suc first) place [] at (suc sum) d is h = absurd (omega (arith, h))
at_from (suc first) place (word ∷ words) at (suc sum) d is h =
    at_from first (suc place) words at sum d (omega (arith, is)) (omega (arith, h))
    ∙ ap (λ n. Some (operand (string_bytes (get_or words sum d)) n)) (let e : suc place + sum ≡ place + suc sum = omega arith in e)

pub file_at : (first : ℕ) (words : List (String Global)) (at : ℕ) (d : String Global) → first + at < length words
    → slice_get (drop first (numbered 0 (texts_of words))) at ≡ Some (operand (string_bytes (get_or words (first + at) d)) (first + at))
file_at first words at d h =
    at_from first 0 words at (first + at) d refl h
    ∙ ap (λ n. Some (operand (string_bytes (get_or words (first + at) d)) n)) (let e : 0 + (first + at) ≡ first + at = omega arith in e)

-- the operands from one on are that one and those after it
split_from : (first place : ℕ) (words : List (String Global)) (d : String Global) → first < length words
    → drop first (numbered place (texts_of words)) ≡ operand (string_bytes (get_or words first d)) (place + first) ∷ drop (suc first) (numbered place (texts_of words))
split_from first place [] d h = absurd (omega (arith, h))
split_from zero place (word ∷ words) d h = ap (λ n. operand (string_bytes word) n ∷ numbered (suc place) (texts_of words)) (let e : place ≡ place + 0 = omega arith in e)
split_from (suc first) place (word ∷ words) d h =
    split_from first (suc place) words d (omega (arith, h))
    ∙ ap (λ n. operand (string_bytes (get_or words first d)) n ∷ drop (suc first) (numbered (suc place) (texts_of words))) (let e : suc place + first ≡ place + suc first = omega arith in e)

pub split_at : (first : ℕ) (words : List (String Global)) (d : String Global) → first < length words
    → drop first (numbered 0 (texts_of words)) ≡ operand (string_bytes (get_or words first d)) first ∷ drop (first + 1) (numbered 0 (texts_of words))
split_at first words d h =
    split_from first 0 words d h
    ∙ ap (λ n. operand (string_bytes (get_or words first d)) n ∷ drop (suc first) (numbered 0 (texts_of words))) (let e : 0 + first ≡ first = omega arith in e)
    ∙ ap (λ n. operand (string_bytes (get_or words first d)) first ∷ drop n (numbered 0 (texts_of words))) (let e : suc first ≡ first + 1 = omega arith in e)

-- and past the last word there are none
pub none_from : (words : List (String Global)) → drop (length words) (numbered 0 (texts_of words)) ≡ []
none_from words = by (drop (length words) (numbered 0 (texts_of words))) (let e : length (drop (length words) (numbered 0 (texts_of words))) ≡ 0 = rest_length (length words) words ∙ omega arith in e)
  where
    by : (operands : List Operand) → length operands ≡ 0 → operands ≡ []
    by [] e = refl
    by (x ∷ xs) e = absurd (omega (arith, e))

-- its place alone
pub file_place_at : (first : ℕ) (words : List (String Global)) (at : ℕ) → first + at < length words
    → option_map (λ (file : Operand). file.place) (slice_get (drop first (numbered 0 (texts_of words))) at) ≡ Some (first + at)
file_place_at first [] at h = absurd (omega (arith, h))
file_place_at first (word ∷ words) at h = ap (option_map (λ (file : Operand). file.place)) (file_at first (word ∷ words) at word h)

-- the place of the first from one on
place_from : (first place : ℕ) (words : List (String Global)) → first < length words
    → first_place (places_of (drop first (numbered place (texts_of words)))) ≡ place + first
place_from zero place [] h = absurd (omega arith)
place_from zero place (word ∷ words) h = omega arith
place_from (suc first) place [] h = absurd (omega arith)
place_from (suc first) place (word ∷ words) h =
    place_from first (suc place) words (omega arith) ∙ (let e : suc place + first ≡ place + suc first = omega arith in e)

pub file_place : (first : ℕ) (words : List (String Global)) → first < length words
    → first_place (places_of (drop first (numbered 0 (texts_of words)))) ≡ first
file_place first words h = place_from first 0 words h ∙ (let e : 0 + first ≡ first = omega arith in e)

-- an index below the length is that of a word
pub file_within : (first : ℕ) (words : List (String Global)) (at : ℕ) (operands : List Operand) → drop first (numbered 0 (texts_of words)) ≡ operands
    → at < length operands → first + at < length words
file_within first words at operands is h =
    let e : length operands ≡ length words - first = sym (ap length is) ∙ rest_length first words in
    omega (arith, e, h)

-- the operands from one on are the words from there on
pub numbered_from : (first place : ℕ) (words : List Text) → drop first (numbered place words) ≡ numbered (place + first) (drop first words)
numbered_from zero place words = ap (λ n. numbered n words) (let e : place ≡ place + 0 = omega arith in e)
numbered_from (suc first) place [] = refl
numbered_from (suc first) place (word ∷ words) =
    numbered_from first (suc place) words ∙ ap (λ n. numbered n (drop first words)) (let e : suc place + first ≡ place + suc first = omega arith in e)

-- ---- the word at a place

word_from : (words : List (String Global)) (place : ℕ) (d : String Global) → place < length words → string_bytes (get_or words place d) ≡ word_at (texts_of words) place
word_from [] place d h = absurd (omega arith)
word_from (word ∷ words) zero d h = refl
word_from (word ∷ words) (suc place) d h = word_from words place d (omega arith)

pub word_here : (words : List (String Global)) (place : ℕ) (d : String Global) → place < length words → operand_text (string_bytes (get_or words place d)) ≡ text_at (texts_of words) place
word_here words place d h = ap operand_text (word_from words place d h)

pub no_word : (words : List (String Global)) (place : ℕ) → length words ≤ place → [] ≡ text_at (texts_of words) place
no_word [] place h = refl
no_word (word ∷ words) zero h = absurd (omega arith)
no_word (word ∷ words) (suc place) h = no_word words place (omega arith)
