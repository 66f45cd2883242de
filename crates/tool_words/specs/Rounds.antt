-- The words of a round: K folders, and then the K logs that were recorded in them.
use Rattle.std.specs.Prelude.{List, ℕ, Bool, true, not, ◌&&◌, ◌==◌, ◌+◌, length, Option, Some, None, ◌∷◌, [], take, drop, if◌then◌else◌, option_map, option_and_then}
use Rattle.std.specs.List.{list_all}
use Rattle.std.specs.Str.{bytes_eq}
use Rattle.tool_words.specs.Words.{Text, Operand}
use Rattle.tool_words.specs.Numbers.{number_between}
use Rattle.tool_words.specs.Logs.{Parts, parts_of}

-- none of the operands has this text
abbrev pub is_other : Text → List Operand → Bool
is_other text operands = list_all (λ operand. not (bytes_eq operand.text text)) operands

-- no two of the operands have the same text
abbrev pub are_different : List Operand → Bool
are_different [] = true
are_different (operand ∷ operands) = is_other operand.text operands && are_different operands

-- so many folders, no two of them the same, and as many logs
abbrev pub folders_and_logs : ℕ → List Operand → Option (List Operand × List Operand)
folders_and_logs k operands =
    if (length operands == k + k) && are_different (take k operands) then Some (take k operands, drop k operands) else None

-- K FOLDER... LOG...
abbrev pub round_of : List Operand → Option (List Operand × List Operand)
round_of [] = None
round_of (number ∷ operands) = option_and_then (λ k. folders_and_logs k operands) (number_between 1 64 number.text)

-- [--prefs FILE] K FOLDER... LOG...
abbrev pub prefs_round : List Operand → Option (Option Operand × List Operand × List Operand)
prefs_round operands = option_and_then (λ (parts : Parts). option_map (λ pair. (parts.0, pair.0, pair.1)) (round_of parts.1)) (parts_of operands)
