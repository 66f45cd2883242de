-- The logs of a job: each within what is left after those before it, each taken by some tree, and some tree takes all.
use Rattle.std.specs.Prelude.{◌≡◌, ◌⊎◌, ◌-◌, ℕ, List, [], ◌∷◌, Vec, map, length, Result, Ok, Err}
use Rattle.std.specs.List.{AllByRecursion}
use Rattle.sync_path.specs.Paths.{Node}
use Rattle.sync_command.specs.Changes.{Change}
use Rattle.sync_command.specs.declared.values.Version.{Version}
use Rattle.sync_command.specs.declared.values.Version.TheVariants.{One}
use Rattle.canon_set.specs.Logs.{IsBrokenAt, IsTaken}
use Rattle.canon_set.specs.Sums.{Sum}
use Rattle.log_text.specs.Logs.{IsOfVersion}
use Rattle.refluent.specs.CommonTrees.{HasCommonTree}
use Rattle.refluent.specs.FirstDisagreements.{IsRefused}
use Rattle.refluent.specs.Joints.{EachStandsFor, Joined, StandsForAll}
use Rattle.tool_words.specs.Words.{Operand}
use Rattle.treesync.specs.Checks.{Check, Judged, Limits, Next, Then}
use Rattle.treesync.specs.Logs.{IsLog, IsLogFile, IsTotal, ReadLog, later_version}
use Rattle.treesync.specs.declared.input.TheConstants.{FILE_LIMIT}
use Rattle.treesync.specs.declared.joining.JoinedLogs.{JoinedLogs}
use Rattle.treesync.specs.declared.logs.Allowance.{Allowance}
use Rattle.treesync.specs.declared.logs.LogFile.{LogFile}
use Rattle.treesync.specs.declared.logs.Total.{Total}
use Rattle.treesync.specs.declared.refusal.Refusal.{Refusal}
use Rattle.treesync.specs.declared.refusal.Refusal.TheVariants.{Found}
use Rattle.treesync.specs.declared.refusal.Finding.TheVariants.{NoTree, NoCommonTree}

-- ---- the files

-- what is left after a log
abbrev pub left_after : Allowance → ReadLog → Allowance
left_after left read = record { bytes = left.bytes - read.size; commands = left.commands - length read.commands }

-- the logs in the files, in their order, each within what those before it left
abbrev pub IsLogs : Allowance → List Operand → Check (List ReadLog)
IsLogs left [] = Judged (λ answer. answer ≡ Ok [])
IsLogs left (file ∷ files) =
    Then (IsLog left file.place file.text) (λ read.
    Then (IsLogs (left_after left read) files) (λ reads. Judged (λ answer. answer ≡ Ok (read ∷ reads))))

-- the limits of the files, each as if it were the only one
abbrev pub log_limits : List Operand → Limits
log_limits files = map (λ file. (file.text, FILE_LIMIT)) files

-- ---- what was read of them

-- the commands of each log
abbrev pub commands_of : List ReadLog → List (List Change)
commands_of reads = map (λ read. read.commands) reads

-- version 2 wherever one of the logs is
abbrev pub joint_version : List ReadLog → Version
joint_version [] = One
joint_version (read ∷ reads) = later_version read.version (joint_version reads)

-- the first log, in the order of the words, that no tree takes, and the number of the command up to which none does
abbrev pub IsFirstUntaken : List Operand → List ReadLog → Refusal → Type 0
IsFirstUntaken (file ∷ files) (read ∷ reads) r =
    ((number : ℕ) × (r ≡ Found (NoTree file.place number)) × IsBrokenAt read.commands number) ⊎ (IsTaken read.commands × IsFirstUntaken files reads r)
IsFirstUntaken files reads r = ⊥

-- each log is taken by some tree
abbrev pub AreTaken : List ReadLog → Type 0
AreTaken reads = AllByRecursion (λ read. IsTaken read.commands) reads

-- each log is taken by some tree; or one is not, and the first of these is named
abbrev pub EachTaken : List Operand → List ReadLog → Result (List ReadLog) Refusal → Type 0
EachTaken files reads (Ok taken) = (taken ≡ reads) × AreTaken reads
EachTaken files reads (Err r) = IsFirstUntaken files reads r

-- some tree takes all the logs; or none does, and their first disagreement is named
abbrev pub AllTaken : List ReadLog → Result (List ReadLog) Refusal → Type 0
AllTaken reads (Ok taken) = (taken ≡ reads) × HasCommonTree (commands_of reads)
AllTaken reads (Err r) =
    (first : ℕ) × (second : ℕ) × (path : Node) × (r ≡ Found (NoCommonTree first second path)) × IsRefused (commands_of reads) first second path

-- the logs that were read of the files, where some tree takes all
abbrev pub IsJoined : List Operand → List ReadLog → Result (List ReadLog) Refusal → Type 0
IsJoined files reads = Next (EachTaken files reads) AllTaken

-- ---- what stands for them

-- each of the first stands for the one in its place
abbrev pub EachStands : {X A : Type 0} → (X → A → Type 0) → List X → List A → Type 0
EachStands stands [] [] = Unit {0}
EachStands stands [] (a ∷ rest) = ⊥
EachStands stands (x ∷ xs) [] = ⊥
EachStands stands (x ∷ xs) (a ∷ rest) = stands x a × EachStands stands xs rest

abbrev pub AreLogFiles : {A : Type 0} → Vec (LogFile Total) A → List ReadLog → Type 0
AreLogFiles logs reads = EachStands (IsLogFile IsTotal) logs.items reads

-- the logs can be printed in their versions
abbrev pub ArePrintable : List ReadLog → Type 0
ArePrintable reads = AllByRecursion (λ read. AllByRecursion (IsOfVersion read.version) read.commands) reads

-- sums stand for the logs
abbrev pub AreSumsOf : {A : Type 0} → Vec Sum A → List ReadLog → Type 0
AreSumsOf sums reads = EachStandsFor sums.items (commands_of reads)

-- a joint stands for the logs
abbrev pub IsJointOf : Joined → List ReadLog → Type 0
IsJointOf joint reads = StandsForAll joint (commands_of reads)

-- logs that were joined stand for those that were read
pub record AreJoined (joined : JoinedLogs) (reads : List ReadLog) : Type 0 where
  pub version : joined.version ≡ joint_version reads
  pub joint : IsJointOf joined.joint reads
  pub printable : ArePrintable reads
