-- The answer of `transition [--prefs FILE] N LOG...`: the transition of log N by the logs' first merger, as a log's text.
use Rattle.std.specs.Prelude.{◌≡◌, ◌-◌, ℕ, List, Option, Result, Ok, Err}
use Rattle.sync_command.specs.Changes.{Change}
use Rattle.sync_command.specs.Maps.{Store, at}
use Rattle.canon_set.specs.Logs.{net}
use Rattle.canon_set.specs.Sets.{canonical}
use Rattle.log_text.specs.Logs.{log_text}
use Rattle.refluent.specs.CommonTrees.{IsCommonTree}
use Rattle.refluent.specs.FirstDisagreements.{log_at}
use Rattle.pref_list.specs.declared.rules.Rule.{Rule}
use Rattle.transition.specs.Transitions.{transition}
use Rattle.tool_words.specs.Words.{Operand}
use Rattle.treesync.specs.Checks.{Check}
use Rattle.treesync.specs.Joining.{commands_of, joint_version}
use Rattle.treesync.specs.Logs.{ReadLog}
use Rattle.treesync.specs.Merge.{IsFirstMergerFor}
use Rattle.treesync.specs.Merging.{OfMerging, UnderRules}
use Rattle.treesync.specs.declared.refusal.Refusal.{Refusal}

-- the set is the transition of the log of this number by the merger, for every tree that takes all the logs
abbrev pub IsTransitionFor : List (List Change) → ℕ → List Change → List Change → Type 0
IsTransitionFor logs number merger set =
    (m : Store) → IsCommonTree m logs → set ≡ canonical (transition (at m) (net (log_at logs (number - 1))) merger)

-- the text of the log's transition by the logs' first merger
abbrev pub IsTransitionText : ℕ → List Rule → List ReadLog → Result (List ℕ) Refusal → Type 0
IsTransitionText number rules reads (Ok text) =
    (merger : List Change) × (set : List Change) × IsFirstMergerFor (commands_of reads) rules merger ×
    IsTransitionFor (commands_of reads) number merger set × (text ≡ log_text (joint_version reads) set)
IsTransitionText number rules reads (Err r) = ⊥

-- what is made of logs that some tree takes together, under the rules that a word names
abbrev pub IsTransitioned : ℕ → ℕ → List Rule → List ReadLog → Result (List ℕ) Refusal → Type 0
IsTransitioned number word rules reads = UnderRules (IsTransitionText number) word rules reads

abbrev pub IsTransition : ℕ → Option Operand → List Operand → Check (List ℕ)
IsTransition number prefs files = OfMerging (IsTransitionText number) prefs files
