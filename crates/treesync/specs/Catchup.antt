-- The answer of `catchup SET...`: one set that does what the sets do one after another.
use Rattle.std.specs.Prelude.{Vec, ◌≡◌, ◌-◌, ℕ, List, Option, Some, Result, Ok, Err, option_map}
use Rattle.std.specs.List.{slice_get}
use Rattle.sync_path.specs.Paths.{Node}
use Rattle.sync_command.specs.Changes.{Change}
use Rattle.canon_set.specs.Logs.{IsTaken}
use Rattle.canon_set.specs.Sets.{canonical}
use Rattle.log_text.specs.Logs.{log_text}
use Rattle.refluent.specs.Joints.{net_sets}
use Rattle.rounds.specs.Compositions.{StopsAt, chain_list, composition}
use Rattle.tool_words.specs.Words.{Operand}
use Rattle.treesync.specs.Checks.{Check, Judged, Next, Then}
use Rattle.treesync.specs.Joining.{EachTaken, IsLogs, commands_of, joint_version}
use Rattle.treesync.specs.Logs.{ReadLog}
use Rattle.treesync.specs.declared.logs.TheConstants.{FULL_ALLOWANCE}
use Rattle.treesync.specs.declared.refusal.Refusal.{Refusal}
use Rattle.treesync.specs.declared.refusal.Refusal.TheVariants.{Found}
use Rattle.treesync.specs.declared.refusal.Finding.TheVariants.{NoFollow}

-- the word of the file of this number, from 1
abbrev pub word_of : List Operand → ℕ → Option ℕ
word_of files number = option_map (λ file. file.place) (slice_get files (number - 1))

-- the file of the set at which they stop following one another, and the node
pub record IsStop (files : List Operand) (sets : List (List Change)) (r : Refusal) : Type 0 where
  pub number : ℕ
  pub word : ℕ
  pub node : Node
  pub named : word_of files number ≡ Some word
  pub refusal : r ≡ Found (NoFollow word node)
  pub stops : StopsAt sets number node

-- what the sets in the files do one after another, where some tree takes them so; or where they stop
abbrev pub IsComposed : List Operand → List (List Change) → Result (List Change) Refusal → Type 0
IsComposed files sets (Ok set) = IsTaken (chain_list sets) × (set ≡ canonical (composition sets))
IsComposed files sets (Err r) = IsStop files sets r

-- the net set of each log
abbrev pub nets_of : List ReadLog → List (List Change)
nets_of reads = net_sets (commands_of reads)

-- what is made of logs that are each taken by some tree
abbrev pub IsCaughtUp : List Operand → List ReadLog → Result (List ℕ) Refusal → Type 0
IsCaughtUp files reads =
    Next (EachTaken files reads) (λ taken.
    Next (IsComposed files (nets_of taken)) (λ set answer. answer ≡ Ok (log_text (joint_version taken) set)))

abbrev pub IsCatchup : List Operand → Check (List ℕ)
IsCatchup files = Then (IsLogs FULL_ALLOWANCE files) (λ reads. Judged (IsCaughtUp files reads))

-- ---- what stands for net sets

abbrev pub AreNetsOf : {A : Type 0} → Vec (List Change) A → List ReadLog → Type 0
AreNetsOf sets reads = sets.items ≡ nets_of reads
