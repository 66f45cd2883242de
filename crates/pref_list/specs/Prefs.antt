-- The text of a preference list, and the first fault of a text that is none.
use Rattle.std.specs.Prelude.{◌+◌, ◌-◌, ◌*◌, ◌<◌, ◌≤◌, ℕ, zero, suc, Bool, true, false, nat_le, List, [], ◌∷◌, ◌++◌, length, count_by, codes, decimal, if◌then◌else◌, Option, None, Some, Result, Ok, Err}
use Rattle.std.specs.List.{AllByRecursion}
use Rattle.std.specs.Str.{bytes_eq}
use Rattle.sync_path.specs.declared.faults.PathFault.{PathFault}
use Rattle.sync_path.specs.Paths.{Node, IsPath, path_text}
use Rattle.sync_path.specs.Reading.{path_of}
use Rattle.log_text.specs.declared.faults.TextFault.{TextFault}
use Rattle.log_text.specs.declared.faults.TextKind.{TextKind}
use Rattle.log_text.specs.declared.faults.TextKind.TheVariants as kind
use Rattle.log_text.specs.declared.frame.TheConstants.{MAX_ITEMS}
use Rattle.log_text.specs.Frame.{framed_text, framed_of}
use Rattle.pref_list.specs.declared.rules.Rule.{Rule}
use Rattle.pref_list.specs.declared.rules.Rule.TheVariants.{At, Under, All}
use Rattle.refluent.specs.declared.joint.TheConstants.{MAX_LOGS}
use Rattle.pref_list.specs.declared.rules.TheConstants.{MAX_WIDE}

-- ---- the text

-- the first line
abbrev pub prefs_first : List ℕ
prefs_first = codes "treeprefs 1"

-- `at LOG PATH`, `under LOG PATH` or `all LOG`
abbrev pub rule_text : Rule → List ℕ
rule_text (At log p) = codes "at " ++ (decimal log ++ 32 ∷ path_text p)
rule_text (Under log p) = codes "under " ++ (decimal log ++ 32 ∷ path_text p)
rule_text (All log) = codes "all " ++ decimal log

-- the text of a list of rules
unfoldable pub prefs_text : List Rule → List ℕ
prefs_text rules = framed_text prefs_first rule_text rules

-- ---- lists that have a text

-- a rule is wide where it may name many nodes
abbrev pub is_wide : Rule → Bool
is_wide (At log p) = false
is_wide (Under log p) = true
is_wide (All log) = true

-- how many rules are wide
abbrev pub wide_rules : List Rule → ℕ
wide_rules rules = count_by is_wide rules

-- the number of a log: 1 to 64
pub record IsLogNumber (log : ℕ) : Type 0 where
  pub low : 0 < log
  pub high : log ≤ MAX_LOGS

-- a rule of a log's number and, where it has one, a path
abbrev pub IsRule : Rule → Type 0
IsRule (At log p) = IsLogNumber log × IsPath p
IsRule (Under log p) = IsLogNumber log × IsPath p
IsRule (All log) = IsLogNumber log

-- a list that has a text: at most 2^20 rules, at most 256 of them wide
pub record IsPrefs (rules : List Rule) : Type 0 where
  pub few : length rules ≤ MAX_ITEMS
  pub narrow : wide_rules rules ≤ MAX_WIDE
  pub each : AllByRecursion IsRule rules

-- ---- the first fault

-- the number from 1 to `most` that the field spells in decimal
abbrev pub spelled : ℕ → List ℕ → Option ℕ
spelled zero field = None
spelled (suc n) field = if bytes_eq field (decimal (suc n)) then Some (suc n) else spelled n field

-- the value of one digit or two
abbrev pub two_digits : List ℕ → ℕ
two_digits [] = 0
two_digits (ones ∷ []) = ones - 48
two_digits (tens ∷ ones ∷ []) = 10 * (tens - 48) + (ones - 48)
two_digits (tens ∷ ones ∷ more ∷ rest) = 0

-- the log's number that the field spells
unfoldable pub log_number : List ℕ → Option ℕ
log_number field = spelled MAX_LOGS field

-- a rule with a path
abbrev pub rule_at : (ℕ → Node → Rule) → Option ℕ → Result Node PathFault → Result Rule TextKind
rule_at rule None p = Err kind.Number
rule_at rule (Some log) (Err f) = Err kind.Path
rule_at rule (Some log) (Ok p) = Ok (rule log p)

-- a rule of all commands of a log
abbrev pub rule_of_all : Option ℕ → Result Rule TextKind
rule_of_all None = Err kind.Number
rule_of_all (Some log) = Ok (All log)

-- what a line is read as where there is space for a rule, and for a wide one
abbrev pub with_space : List Rule → Result Rule TextKind → Result Rule TextKind
with_space before read = if nat_le MAX_ITEMS (length before) then Err kind.TooMany else read

abbrev pub with_wide_space : List Rule → Result Rule TextKind → Result Rule TextKind
with_wide_space before read = with_space before (if nat_le MAX_WIDE (wide_rules before) then Err kind.TooWide else read)

-- what a line with a word is read as, where that is a word of the form
abbrev pub of_log : List Rule → List ℕ → Option ℕ → Result Rule TextKind
of_log before word log = if bytes_eq word (codes "all") then with_wide_space before (rule_of_all log) else Err kind.Fields

abbrev pub of_place : List Rule → List ℕ → Option ℕ → Result Node PathFault → Result Rule TextKind
of_place before word log path =
    if bytes_eq word (codes "at") then with_space before (rule_at At log path)
    else (if bytes_eq word (codes "under") then with_wide_space before (rule_at Under log path)
    else Err kind.Fields)

-- the rule of a line's fields after the rules before it, or the first kind that applies
unfoldable pub rule_of : List Rule → List (List ℕ) → Result Rule TextKind
rule_of before [] = Err kind.Fields
rule_of before (word ∷ []) = Err kind.Fields
rule_of before (word ∷ log ∷ []) = of_log before word (log_number log)
rule_of before (word ∷ log ∷ path ∷ []) = of_place before word (log_number log) (path_of path)
rule_of before (word ∷ log ∷ path ∷ more ∷ rest) = Err kind.Fields

-- whether a line is the first one
abbrev pub prefs_head : List ℕ → Option (Unit {0})
prefs_head line = if bytes_eq line prefs_first then Some tt else None

abbrev pub judge_rule : Unit {0} → List Rule → List (List ℕ) → Result Rule TextKind
judge_rule head before fields = rule_of before fields

abbrev pub without_head : Result (Unit {0} × List Rule) TextFault → Result (List Rule) TextFault
without_head (Ok read) = Ok read.1
without_head (Err fault) = Err fault

-- the rules of a text's lines, or the first fault
unfoldable pub prefs_of : List (List ℕ) → Result (List Rule) TextFault
prefs_of lines = without_head (framed_of prefs_head judge_rule lines)
