-- The logs of a command, and the option `--prefs FILE` that may stand before its operands.
use Rattle.std.specs.Prelude.{List, ℕ, nat_le, ◌&&◌, Bool, Option, Some, None, codes, ◌∷◌, [], take, drop, length, map, if◌then◌else◌, option_map, option_and_then}
use Rattle.std.specs.Str.{bytes_eq}
use Rattle.tool_words.specs.Words.{Text, Operand, is_plain, plain_of}

-- ---- logs

-- a command takes one log to 64
abbrev pub is_log_count : ℕ → Bool
is_log_count count = nat_le 1 count && nat_le count 64

-- the logs, where they are that many
abbrev pub logs_of : List Operand → Option (List Operand)
logs_of operands = if is_log_count (length operands) then Some operands else None

-- LOG...
abbrev pub only_logs : List Operand → Option (List Operand)
only_logs operands = option_and_then logs_of (plain_of operands)

-- the first of operands, and the logs that follow it
abbrev pub first_and_logs : List Operand → Option (Operand × List Operand)
first_and_logs [] = None
first_and_logs (first ∷ rest) = option_map (λ logs. (first, logs)) (logs_of rest)

-- FIRST LOG...
abbrev pub first_logs : List Operand → Option (Operand × List Operand)
first_logs operands = option_and_then first_and_logs (plain_of operands)

-- ---- the option

-- the file of the option, where it stands there, and the operands
abbrev pub Parts : Type 0
Parts = Option Operand × List Operand

-- the operands, where each is plain, and the file
abbrev pub with_operands : Option Operand → List Operand → Option Parts
with_operands file operands = option_map (λ plain. (file, plain)) (plain_of operands)

-- the same where the file is plain too
abbrev pub with_file : Operand → List Operand → Option Parts
with_file file operands = if is_plain file.text then with_operands (Some file) operands else None

-- what follows `--prefs`: its file, and the operands
abbrev pub after_prefs : List Operand → Option Parts
after_prefs [] = None
after_prefs (file ∷ operands) = with_file file operands

-- what stands before the file in one word with it
abbrev pub prefs_prefix : Text
prefs_prefix = codes "--prefs="

-- the word of an operand begins so
abbrev pub has_prefs_prefix : Text → Bool
has_prefs_prefix word = bytes_eq (take 8 word) prefs_prefix

-- `--prefs FILE` or `--prefs=FILE` or neither, and then the operands
abbrev pub parts_of : List Operand → Option Parts
parts_of [] = Some (None, [])
parts_of (word ∷ rest) =
    if bytes_eq word.text (codes "--prefs") then after_prefs rest
    else (if has_prefs_prefix word.text then with_file (record { text = drop 8 word.text; place = word.place }) rest
    else with_operands None (word ∷ rest))

-- [--prefs FILE] LOG...
abbrev pub prefs_logs : List Operand → Option Parts
prefs_logs operands = option_and_then (λ parts. option_map (λ logs. (parts.0, logs)) (logs_of parts.1)) (parts_of operands)

-- [--prefs FILE] FIRST LOG...
abbrev pub prefs_first_logs : List Operand → Option (Option Operand × Operand × List Operand)
prefs_first_logs operands = option_and_then (λ parts. option_map (λ pair. (parts.0, pair.0, pair.1)) (first_and_logs parts.1)) (parts_of operands)

-- the texts of the parts, as clap gives them
abbrev pub part_texts : Parts → Option Text × List Text
part_texts parts = (option_map (λ file. file.text) parts.0, map (λ operand. operand.text) parts.1)

-- the file's text and the texts of the operands, where there are any
abbrev pub file_and_texts : Option Text → Option (List Text) → Option (Option Text × List Text)
file_and_texts file texts = option_map (λ found. (file, found)) texts

-- the same, with the first of them by itself
abbrev pub file_first_and_texts : Option Text → Option Text → Option (List Text) → Option (Option Text × List Text)
file_first_and_texts file (Some first) (Some texts) = Some (file, first ∷ texts)
file_first_and_texts file _ _ = None
