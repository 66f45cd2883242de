-- What `merge`, `transition`, `explain` and `sync` begin with: a list of preferences and logs are read, the logs are joined,
-- and they have what the rules name. What is then made of the rules and the logs is for the command to say.
use Rattle.std.specs.Prelude.{◌≡◌, ℕ, List, Option, Result, Ok}
use Rattle.merge_core.specs.FirstMergers.{IsFirstMergerOf}
use Rattle.pref_list.specs.declared.rules.Rule.{Rule}
use Rattle.tool_words.specs.Words.{Operand}
use Rattle.treesync.specs.Checks.{Check, Judged, Next, Then}
use Rattle.treesync.specs.Joining.{AreJoined, IsJoined, IsLogs}
use Rattle.treesync.specs.Logs.{ReadLog}
use Rattle.treesync.specs.Preferences.{ArePreferences, RulesHold, preference_word}
use Rattle.treesync.specs.declared.logs.TheConstants.{FULL_ALLOWANCE}
use Rattle.treesync.specs.declared.merging.MergedLogs.{MergedLogs}
use Rattle.treesync.specs.declared.refusal.Refusal.{Refusal}

-- what is made of logs that some tree takes together, where they have what the rules name that a word names
abbrev pub UnderRules : {A : Type 0} → (List Rule → List ReadLog → Result A Refusal → Type 0) → ℕ → List Rule → List ReadLog → Result A Refusal → Type 0
UnderRules made word rules reads = Next (RulesHold word rules reads) (made rules)

-- what is made of the logs in the files
abbrev pub OfLogs : {A : Type 0} → (List Rule → List ReadLog → Result A Refusal → Type 0) → ℕ → List Rule → List Operand → Check A
OfLogs made word rules files =
    Then (IsLogs FULL_ALLOWANCE files) (λ reads. Judged (Next (IsJoined files reads) (UnderRules made word rules)))

-- what is made of them under the rules of the file that a job names, or under none
abbrev pub OfMerging : {A : Type 0} → (List Rule → List ReadLog → Result A Refusal → Type 0) → Option Operand → List Operand → Check A
OfMerging made prefs files = Then (ArePreferences prefs) (λ rules. OfLogs made (preference_word prefs) rules files)

-- ---- the merger

-- the rules, and the logs that some tree takes together
abbrev pub Asked : Type 0
Asked = List Rule × List ReadLog

abbrev pub AreAsked : List Rule → List ReadLog → Result Asked Refusal → Type 0
AreAsked rules reads answer = answer ≡ Ok (rules, reads)

-- the logs are joined, and their first merger under the rules is found
pub record IsMergedOf (found : MergedLogs) (asked : Asked) : Type 0 where
  pub joined : AreJoined found.logs asked.1
  pub first : IsFirstMergerOf found.logs.joint asked.0 found.merger
