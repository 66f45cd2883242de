-- Words and the operands that they are with their places.
use Rattle.std.proofs.Common.{◌≡◌, ◌∙◌, false, refl, ap, List, ℕ, suc, [], ◌∷◌, None, drop, map, ◌&&◌}
use Rattle.std.specs.List.{list_all}
use Rattle.tool_words.specs.Words.{Text, numbered, after_name, is_plain, plain_of}

-- a word with its place is as plain as it is without
pub numbered_plain : (place : ℕ) (words : List Text) → list_all (λ operand. is_plain operand.text) (numbered place words) ≡ list_all is_plain words
numbered_plain place [] = refl
numbered_plain place (word ∷ words) = ap (λ rest. is_plain word && rest) (numbered_plain (suc place) words)

-- where a word is not plain there are no operands
pub not_plain : (words : List Text) → list_all is_plain (drop 1 words) ≡ false → plain_of (after_name words) ≡ None
not_plain words e = rw (numbered_plain 1 (drop 1 words) ∙ e) refl

-- the texts of words with their places are the words
pub numbered_texts : (place : ℕ) (words : List Text) → map (λ operand. operand.text) (numbered place words) ≡ words
numbered_texts place [] = refl
numbered_texts place (word ∷ words) = ap (λ rest. word ∷ rest) (numbered_texts (suc place) words)
