-- The answer of `explain [--prefs FILE] LOG...`: a line for each drawn command that the logs' first merger leaves out,
-- with its first chain.
use Rattle.std.specs.Prelude.{◌≡◌, ◌++◌, ℕ, List, ◌∷◌, map, codes, decimal, Option, Result, Ok, Err}
use Rattle.std.specs.List.{concat}
use Rattle.sync_command.specs.Changes.{Change}
use Rattle.sync_command.specs.declared.commands.Row.{Row}
use Rattle.canon_set.specs.Sets.{canonical}
use Rattle.explain_core.specs.Reasons.{reasons}
use Rattle.explain_core.specs.declared.reasons.Reason.{Reason}
use Rattle.log_text.specs.Frame.{ended}
use Rattle.refluent.specs.Joints.{Joined, path_at}
use Rattle.pref_list.specs.declared.rules.Rule.{Rule}
use Rattle.tool_words.specs.Words.{Operand}
use Rattle.treesync.specs.Checks.{Check}
use Rattle.treesync.specs.Conflicts.{node_text}
use Rattle.treesync.specs.Joining.{IsJointOf, commands_of}
use Rattle.treesync.specs.Logs.{ReadLog}
use Rattle.treesync.specs.Merge.{IsFirstMergerFor}
use Rattle.treesync.specs.Merging.{OfMerging}
use Rattle.treesync.specs.Outputs.{Output, ReasonLines}
use Rattle.treesync.specs.declared.refusal.Refusal.{Refusal}

-- ---- lines

-- the paths of a chain, each after a blank
abbrev pub via_text : List Row → List ℕ → List ℕ
via_text nodes via = concat (map (λ place. 32 ∷ node_text (path_at nodes place)) via)

-- `LOG PATH taken`, and the chain
abbrev pub reason_text : List Row → Reason → List ℕ
reason_text nodes reason =
    decimal reason.log ++ (32 ∷ (node_text (path_at nodes reason.node) ++ (codes " taken" ++ via_text nodes reason.via)))

abbrev pub reason_lines_of : List Row → List Reason → List (List ℕ)
reason_lines_of nodes reasons = map (λ reason. ended (reason_text nodes reason)) reasons

-- the lines of all reasons of a merger
abbrev pub reason_lines : Joined → List Change → List (List ℕ)
reason_lines joint merger = reason_lines_of joint.nodes (reasons joint merger)

-- ---- the answer

-- what a joint and a merger show
abbrev pub ShowsReasons : Joined × List Change → Output → Type 0
ShowsReasons (joint, merger) output = output ≡ ReasonLines (reason_lines joint merger)

-- what is printed of the logs' first merger
abbrev pub AreReasons : List Rule → List ReadLog → Result Output Refusal → Type 0
AreReasons rules reads (Ok output) =
    (joint : Joined) × (merger : List Change) × IsJointOf joint reads × IsFirstMergerFor (commands_of reads) rules merger ×
    ShowsReasons (joint, canonical merger) output
AreReasons rules reads (Err r) = ⊥

abbrev pub IsExplain : Option Operand → List Operand → Check Output
IsExplain prefs files = OfMerging AreReasons prefs files
