-- The rules of a job: a preference list that is read, and what the logs have of what it names.
use Rattle.std.specs.Prelude.{◌≡◌, ℕ, List, [], ◌∷◌, Option, None, Some, Result, Ok, Err}
use Rattle.sync_path.specs.Paths.{parts}
use Rattle.refluent.specs.Joints.{net_sets}
use Rattle.refluent.specs.declared.joint.Pick.{Pick}
use Rattle.pref_list.specs.Orders.{IsRankingOf, first_fault}
use Rattle.pref_list.specs.Prefs.{prefs_of}
use Rattle.pref_list.specs.declared.faults.RankFault.{RankFault}
use Rattle.pref_list.specs.declared.faults.RankFault.TheVariants as rank
use Rattle.pref_list.specs.declared.rules.Rule.{Rule}
use Rattle.tool_words.specs.Words.{Operand}
use Rattle.treesync.specs.Checks.{Check, Judged, Limits, Then}
use Rattle.treesync.specs.Files.{IsFile, text_answer}
use Rattle.treesync.specs.Joining.{commands_of}
use Rattle.treesync.specs.Logs.{ReadLog}
use Rattle.treesync.specs.declared.preferences.TheConstants.{PREFS_LIMIT}
use Rattle.treesync.specs.declared.refusal.Refusal.{Refusal}
use Rattle.treesync.specs.declared.refusal.Refusal.TheVariants.{OutOfMemory, Found}
use Rattle.treesync.specs.declared.refusal.Finding.TheVariants.{NoSuchLog, NoCommand}

-- ---- the file

-- the rules of a preference list's file
abbrev pub IsPreferenceFile : ℕ → List ℕ → Check (List Rule)
IsPreferenceFile word name =
    Then (IsFile PREFS_LIMIT word name) (λ bytes. Judged (λ answer. answer ≡ text_answer word (prefs_of (parts 10 bytes))))

-- the rules of the file that a job names, and none where it names none
abbrev pub ArePreferences : Option Operand → Check (List Rule)
ArePreferences None = Judged (λ answer. answer ≡ Ok [])
ArePreferences (Some file) = IsPreferenceFile file.place file.text

abbrev pub preference_limits : Option Operand → Limits
preference_limits None = []
preference_limits (Some file) = (file.text, PREFS_LIMIT) ∷ []

-- the place of the file's word
abbrev pub preference_word : Option Operand → ℕ
preference_word None = 0
preference_word (Some file) = file.place

-- ---- what the rules name

-- what a fault of the rules means that a word names
abbrev pub rule_refusal : ℕ → RankFault → Refusal
rule_refusal word (rank.NoSuchLog number) = Found (NoSuchLog word number)
rule_refusal word (rank.NoCommand number) = Found (NoCommand word number)
rule_refusal word rank.Memory = OutOfMemory

-- the logs have what the rules name; or the first rule of which they do not is named
abbrev pub RulesHold : ℕ → List Rule → List ReadLog → Result (List ReadLog) Refusal → Type 0
RulesHold word rules reads (Ok same) = (same ≡ reads) × (first_fault (net_sets (commands_of reads)) rules ≡ None)
RulesHold word rules reads (Err r) = (fault : RankFault) × (first_fault (net_sets (commands_of reads)) rules ≡ Some fault) × (r ≡ rule_refusal word fault)

-- a ranking stands for that of the logs under the rules
abbrev pub IsRanked : List Rule → List Pick → List ReadLog → Type 0
IsRanked rules ranking reads = IsRankingOf (net_sets (commands_of reads)) rules ranking
