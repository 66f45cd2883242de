-- The answer of `sync [--prefs FILE] K FOLDER... LOG...`: the tree in each FOLDER is led to the result of the logs' first
-- merger, by the transition of the LOG in its place, and the number of all changes is printed.
use Rattle.std.specs.Prelude.{◌≡◌, ◌⊎◌, ◌++◌, ◌-◌, ◌≤◌, ◌<◌, ℕ, true, false, List, codes, decimal, length, slice_index_or, ⊤, Option, Result, Ok, Err}
use Rattle.sync_command.specs.Changes.{Change}
use Rattle.sync_command.specs.Maps.{Store, at}
use Rattle.sync_port.specs.Ports.{FilesState}
use Rattle.sync_port.specs.States.{IfKnown}
use Rattle.tree_port.specs.States.{TreeState}
use Rattle.canon_set.specs.Sets.{canonical}
use Rattle.refluent.specs.CommonTrees.{HasCommonTree, IsCommonTree}
use Rattle.refluent.specs.Drawn.{drawn_of}
use Rattle.refluent.specs.Joints.{IsJoint, StandsForAll}
use Rattle.refluent.specs.Sets.{IsSubset}
use Rattle.pref_list.specs.declared.rules.Rule.{Rule}
use Rattle.transition.specs.Transitions.{FitsCommonTrees}
use Rattle.sync_round.specs.Rounding.{Rounds}
use Rattle.sync_round.specs.Rounds.{transitions}
use Rattle.sync_round.specs.KnownRounds.{AreHeld, IsRoundAnswer, RoundsKnown}
use Rattle.sync_round.specs.declared.faults.RoundFault.{RoundFault}
use Rattle.sync_round.specs.declared.faults.RoundFault.TheVariants as fault
use Rattle.tool_words.specs.Words.{Operand, places_of}
use Rattle.treesync.specs.Apply.{apply_refusal}
use Rattle.treesync.specs.Checks.{Check, FilesCounted, IsAllowed, IsOfJob, ReadsFiles, Then, Unless}
use Rattle.treesync.specs.Joining.{commands_of, log_limits}
use Rattle.treesync.specs.Logs.{ReadLog}
use Rattle.treesync.specs.Merge.{IsFirstMergerFor}
use Rattle.treesync.specs.Merging.{OfMerging}
use Rattle.treesync.specs.Outputs.{Output, WholeText}
use Rattle.treesync.specs.Preferences.{preference_limits}
use Rattle.treesync.specs.declared.refusal.Refusal.{Refusal}
use Rattle.treesync.specs.declared.refusal.Refusal.TheVariants.{CallFailed, OutOfMemory}
use Rattle.treesync.specs.declared.refusal.Failure.TheVariants.{TreeFailed}
use Rattle.treesync.specs.declared.merging.MergedLogs.{MergedLogs}

-- ---- the logs and their merger

-- the commands of each log, and a merger of them
pub record Merged : Type 0 where
  pub logs : List (List Change)
  pub merger : List Change

-- a merger of logs, in the admissible order
abbrev pub merged_of : List (List Change) → List Change → Merged
merged_of logs merger = record { logs = logs; merger = canonical merger }

-- the logs that were read, and their first merger under the rules
abbrev pub IsMergedBy : List Rule → List ReadLog → Result Merged Refusal → Type 0
IsMergedBy rules reads (Ok merged) =
    (merger : List Change) × IsFirstMergerFor (commands_of reads) rules merger × (merged ≡ merged_of (commands_of reads) merger)
IsMergedBy rules reads (Err r) = ⊥

abbrev pub AreMergedLogs : Option Operand → List Operand → Check Merged
AreMergedLogs prefs files = OfMerging IsMergedBy prefs files

-- a joint and a set stand for logs and a merger of them
pub record StandsForMerged (found : MergedLogs) (merged : Merged) : Type 0 where
  pub joint : StandsForAll found.logs.joint merged.logs
  pub merger : merged.merger ≡ canonical found.merger

-- what a round of so many trees asks of a joint and a set
pub record CanLead (number : ℕ) (found : MergedLogs) : Type 0 where
  pub joint : IsJoint found.logs.joint
  pub many : length found.logs.joint.sets ≡ number
  pub drawn : IsSubset found.merger (drawn_of found.logs.joint.sets)
  pub fits : FitsCommonTrees found.logs.joint found.merger

-- ---- the answer

-- `synced N`
abbrev pub synced_text : ℕ → List ℕ
synced_text number = codes "synced " ++ (decimal number ++ codes "\n")

-- the place of the word that names the tree of this number, counted from 1
abbrev pub folder_word : List Operand → ℕ → ℕ
folder_word folders number = slice_index_or (places_of folders) (number - 1) 0

-- a tree that is named is one of so many
abbrev pub IsOfTrees : ℕ → RoundFault → Type 0
IsOfTrees count (fault.Tree number why) = (0 < number) × (number ≤ count)
IsOfTrees count fault.Memory = ⊤

-- what a round that was not done means, by the word of the tree that is named
abbrev pub round_refusal : List Operand → RoundFault → Refusal
round_refusal folders (fault.Tree number why) = apply_refusal (folder_word folders number) why
round_refusal folders fault.Memory = OutOfMemory

-- the number of all changes, or why a round was not done
abbrev pub round_answer : List Operand → Result ℕ RoundFault → Result Output Refusal
round_answer folders (Ok number) = Ok (WholeText (synced_text number))
round_answer folders (Err why) = Err (round_refusal folders why)

-- ---- which answers are right

-- The answer of a round on trees that hold these maps, by the transitions of the logs whatever their common tree. Where a
-- call fails, the word of its tree is named.
abbrev pub IsSynced : List Operand → List Store → Merged → Check Output
IsSynced folders maps merged held false answer =
    (m : Store) → IsCommonTree m merged.logs → (result : Result ℕ RoundFault) × IsRoundAnswer (transitions (at m) merged.logs merged.merger) maps result ×
    (answer ≡ round_answer folders result)
IsSynced folders maps merged held true answer = (number : ℕ) × (answer ≡ Err (CallFailed (TreeFailed (folder_word folders number))))

abbrev pub IsSync : Option Operand → List Operand → List Operand → List Store → Check Output
IsSync prefs folders files maps = Then (AreMergedLogs prefs files) (λ merged. IsSynced folders maps merged)

-- ---- what becomes of the trees

-- A round to the merger, by the transitions of the logs whatever their common tree: what it leaves of the trees, and
-- what of trees that are known.
pub record Leads (merged : Merged) (result : Result ℕ RoundFault) (before now : List TreeState) : Type 0 where
  pub common : HasCommonTree merged.logs
  pub leaves : (m : Store) → IsCommonTree m merged.logs → Rounds (transitions (at m) merged.logs merged.merger) result before now
  pub of_known : (m : Store) → IsCommonTree m merged.logs → (maps : List Store) → AreHeld before maps →
      RoundsKnown (transitions (at m) merged.logs merged.merger) maps result now

-- the answer is that of a round, or memory ran out for its text
pub record LeadsTrees (folders : List Operand) (merged : Merged) (answer : Result Output Refusal) (before now : List TreeState) : Type 0 where
  pub result : Result ℕ RoundFault
  pub leads : Leads merged result before now
  pub answers : (answer ≡ round_answer folders result) ⊎ (answer ≡ Err OutOfMemory)

-- logs that were refused leave the trees as they were; to any other ones the trees were led
abbrev pub CarriesRound : List Operand → Result Merged Refusal → Result Output Refusal → List TreeState → List TreeState → Type 0
CarriesRound folders (Ok merged) answer before now = LeadsTrees folders merged answer before now
CarriesRound folders (Err r) answer before now = (now ≡ before) × (answer ≡ Err r)

-- What finding the answer of a round owes: the logs were merged, or refused as the files say, and then the trees were led.
pub record FindsRound (prefs : Option Operand) (folders files : List Operand) (before now : FilesState) (trees next : List TreeState) (answer : Result Output Refusal) : Type 0 where
  pub later : before.faults ≤ now.faults
  pub reads : IfKnown before now (ReadsFiles (preference_limits prefs ++ log_limits files))
  pub merged : Result Merged Refusal
  pub of_job : IsOfJob merged
  pub quiet : Unless merged (now.faults ≡ before.faults)
  pub allowed : IsAllowed (AreMergedLogs prefs files) before.contents (FilesCounted before now) merged
  pub carries : CarriesRound folders merged answer trees next
