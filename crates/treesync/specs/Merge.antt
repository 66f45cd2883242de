-- The answer of `merge [--prefs FILE] LOG...`: the first merger of the logs, as a log's text.
use Rattle.std.specs.Prelude.{◌≡◌, ℕ, List, Option, Result, Ok, Err}
use Rattle.sync_command.specs.Changes.{Change}
use Rattle.sync_command.specs.Maps.{Store, at}
use Rattle.canon_set.specs.Sets.{canonical}
use Rattle.log_text.specs.Logs.{log_text}
use Rattle.refluent.specs.CommonTrees.{IsCommonTree}
use Rattle.refluent.specs.Drawn.{drawn_commands}
use Rattle.pref_list.specs.Ranking.{ranking}
use Rattle.pref_list.specs.declared.rules.Rule.{Rule}
use Rattle.merge_core.specs.FirstMergers.{IsFirstMerger}
use Rattle.tool_words.specs.Words.{Operand}
use Rattle.treesync.specs.Checks.{Check}
use Rattle.treesync.specs.Joining.{commands_of, joint_version}
use Rattle.treesync.specs.Logs.{ReadLog}
use Rattle.treesync.specs.Merging.{OfMerging}
use Rattle.treesync.specs.declared.refusal.Refusal.{Refusal}

-- the set is the first merger of the logs under the rules, for every tree that takes all of them
abbrev pub IsFirstMergerFor : List (List Change) → List Rule → List Change → Type 0
IsFirstMergerFor logs rules merger =
    (m : Store) → IsCommonTree m logs → IsFirstMerger (at m) (drawn_commands logs) (ranking logs rules) merger

-- the text of the logs' first merger in the admissible order
abbrev pub IsMergerText : List Rule → List ReadLog → Result (List ℕ) Refusal → Type 0
IsMergerText rules reads (Ok text) =
    (merger : List Change) × IsFirstMergerFor (commands_of reads) rules merger × (text ≡ log_text (joint_version reads) (canonical merger))
IsMergerText rules reads (Err r) = ⊥

abbrev pub IsMerge : Option Operand → List Operand → Check (List ℕ)
IsMerge prefs files = OfMerging IsMergerText prefs files
