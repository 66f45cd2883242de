-- The words of a command line, with their places, and lists of operands.
use Rattle.std.specs.Prelude.{List, ℕ, suc, false, Option, Some, None, ◌∷◌, [], Bool, not, ◌==◌, drop, map, if◌then◌else◌, option_and_then, string_bytes}
use Rattle.std.specs.declared.alloc.Global.{Global}
use Rattle.std.specs.declared.string.String.{String}
use Rattle.std.specs.List.{list_all}

-- a word, as its bytes
abbrev pub Text : Type 0
Text = List ℕ

-- the texts of words
abbrev pub texts_of : List (String Global) → List Text
texts_of words = map string_bytes words

-- an operand: its text, and the place of the word that it stands in
pub record Operand : Type 0 where
  pub text : Text
  pub place : ℕ

-- the operand of a text in the word at a place
abbrev pub operand_at : ℕ → Text → Operand
operand_at place text = record { text = text; place = place }

-- the words with their places, which count on from this one
abbrev pub numbered : ℕ → List Text → List Operand
numbered place [] = []
numbered place (word ∷ words) = record { text = word; place = place } ∷ numbered (suc place) words

-- the places of operands
abbrev pub places_of : List Operand → List ℕ
places_of operands = map (λ operand. operand.place) operands

-- the first of places, and 0 where there is none
abbrev pub first_place : List ℕ → ℕ
first_place [] = 0
first_place (place ∷ places) = place

-- the words that follow the command's name
abbrev pub after_name : List Text → List Operand
after_name words = numbered 1 (drop 1 words)

-- the operands of words
abbrev pub operands_of : List (String Global) → List Operand
operands_of words = after_name (texts_of words)

-- the word is not empty and does not begin with a dash
abbrev pub is_plain : Text → Bool
is_plain [] = false
is_plain (first ∷ rest) = not (first == 45)

-- the operands, where each is plain
abbrev pub plain_of : List Operand → Option (List Operand)
plain_of operands = if list_all (λ operand. is_plain operand.text) operands then Some operands else None

-- the only one of a list
abbrev pub only_of : {A : Type 0} → List A → Option A
only_of (a ∷ []) = Some a
only_of _ = None

-- the two of a list of two
abbrev pub pair_of : {A : Type 0} → List A → Option (A × A)
pair_of (a ∷ b ∷ []) = Some (a, b)
pair_of _ = None

-- the three of a list of three
abbrev pub triple_of : {A : Type 0} → List A → Option (A × A × A)
triple_of (a ∷ b ∷ c ∷ []) = Some (a, b, c)
triple_of _ = None

-- the operand of a command that has one, and it plain
abbrev pub one_operand : List Operand → Option Operand
one_operand operands = option_and_then only_of (plain_of operands)

-- the operands of a command that has two, and both plain
abbrev pub two_operands : List Operand → Option (Operand × Operand)
two_operands operands = option_and_then pair_of (plain_of operands)

-- the operands of a command that has three, and each plain
abbrev pub three_operands : List Operand → Option (Operand × Operand × Operand)
three_operands operands = option_and_then triple_of (plain_of operands)

-- both values, where both are there
abbrev pub both_of : {A : Type 0} → Option A → Option A → Option (A × A)
both_of (Some a) (Some b) = Some (a, b)
both_of _ _ = None

-- the three values, where each is there
abbrev pub all_three_of : {A : Type 0} → Option A → Option A → Option A → Option (A × A × A)
all_three_of (Some a) (Some b) (Some c) = Some (a, b, c)
all_three_of _ _ _ = None
