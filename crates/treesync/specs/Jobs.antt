-- The answer of each job, and of words, and what a run leaves.
use Rattle.std.specs.Prelude.{Vec, ◌≡◌, ◌⊎◌, ◌≤◌, ◌++◌, ℕ, ⊤, false, List, [], ◌∷◌, Option, None, Some, Result, Ok, Err, length}
use Rattle.std.specs.Global.{Global}
use Rattle.sync_port.specs.States.{FaultCounted, IfKnown}
use Rattle.sync_port.specs.Ports.{FileContents, FilesState, SinkState}
use Rattle.sync_command.specs.Changes.{Change}
use Rattle.sync_command.specs.Maps.{Store}
use Rattle.tree_port.specs.States.{Counts, IsCounted, NoneFell, TreeState}
use Rattle.tool_words.specs.Words.{Operand}
use Rattle.tool_words.specs.declared.job.Job.{Job}
use Rattle.tool_words.specs.declared.job.Job.TheVariants.{Help, Replay, Canon, Conflicts, Merge, Transition, Steer, Record, Seal, Apply, Drill, Sync, Explain, Undo, Catchup, Rebase}
use Rattle.tool_words.specs.Jobs.{job_of}
use Rattle.tool_words.specs.Help.{help_text}
use Rattle.tool_words.specs.Trees.{folder_places}
use Rattle.treesync.specs.Checks.{Causes, Check, HasItems, IsAllowed, IsAllowedOf, IsOfJob, Judged, Limits, ReadsFiles, Unless}
use Rattle.treesync.specs.Apply.{Applies, IsApply, IsNumbered, IsSetOf}
use Rattle.treesync.specs.Canon.{IsCanon}
use Rattle.treesync.specs.Catchup.{IsCatchup}
use Rattle.treesync.specs.Conflicts.{IsConflicts}
use Rattle.treesync.specs.Drill.{IsDrill}
use Rattle.treesync.specs.Explain.{IsExplain}
use Rattle.treesync.specs.Joining.{log_limits}
use Rattle.treesync.specs.Merge.{IsMerge}
use Rattle.treesync.specs.Preferences.{preference_limits}
use Rattle.treesync.specs.Steer.{IsSteer}
use Rattle.treesync.specs.Transition.{IsTransition}
use Rattle.treesync.specs.Undo.{IsUndo}
use Rattle.treesync.specs.Ends.{Prints, Says, line_of}
use Rattle.treesync.specs.Outputs.{AsText, Output, WholeText}
use Rattle.treesync.specs.Rebase.{IsRebase, work_limits}
use Rattle.treesync.specs.Replay.{IsReplay}
use Rattle.treesync.specs.Record.{IsRecord}
use Rattle.treesync.specs.Seal.{IsSeal, LooksAtOnly}
use Rattle.treesync.specs.declared.input.TheConstants.{FILE_LIMIT}
use Rattle.treesync.specs.declared.refusal.Refusal.{Refusal}
use Rattle.treesync.specs.declared.refusal.Refusal.TheVariants.{InvalidArguments, OutOfMemory}
use Rattle.treesync.specs.declared.refusal.Failure.TheVariants.{ReadFailed, TreeFailed, TreeDenied}

-- ---- one line for each command

-- `tree` is what the job's tree holds, where it has one and that is known. The answer of a round depends on a list of trees
-- and is no check of one: its run is explained apart (`RanRound`).
abbrev pub IsJobAnswer : Job → Option Store → Check Output
IsJobAnswer Help tree = AsText (Judged (λ answer. answer ≡ Ok help_text))
IsJobAnswer (Replay snap log) tree = AsText (IsReplay snap.place snap.text log.place log.text)
IsJobAnswer (Canon log) tree = AsText (IsCanon log.place log.text)
IsJobAnswer (Conflicts logs) tree = IsConflicts logs
IsJobAnswer (Merge prefs logs) tree = AsText (IsMerge prefs logs)
IsJobAnswer (Transition number prefs logs) tree = AsText (IsTransition number prefs logs)
IsJobAnswer (Steer set logs) tree = AsText (IsSteer set logs)
IsJobAnswer (Record folder script) tree = AsText (IsRecord script tree)
IsJobAnswer (Seal folder log) tree = AsText (IsSeal folder log tree)
IsJobAnswer (Apply folder set) tree = AsText (IsApply folder set tree)
IsJobAnswer (Drill seed logs steps) tree = AsText (IsDrill seed logs steps)
IsJobAnswer (Sync prefs folders logs) tree = Judged (λ answer. ⊥)
IsJobAnswer (Explain prefs logs) tree = IsExplain prefs logs
IsJobAnswer (Undo set) tree = AsText (IsUndo set.place set.text)
IsJobAnswer (Catchup sets) tree = AsText (IsCatchup sets)
IsJobAnswer (Rebase side prefs work sets) tree = AsText (IsRebase side prefs work sets)

-- the files that it reads, each once, with their limits
abbrev pub limits_of : Job → Limits
limits_of Help = []
limits_of (Replay snap log) = (snap.text, FILE_LIMIT) ∷ (log.text, FILE_LIMIT) ∷ []
limits_of (Canon log) = (log.text, FILE_LIMIT) ∷ []
limits_of (Conflicts logs) = log_limits logs
limits_of (Merge prefs logs) = preference_limits prefs ++ log_limits logs
limits_of (Transition number prefs logs) = preference_limits prefs ++ log_limits logs
limits_of (Steer set logs) = (set.text, FILE_LIMIT) ∷ log_limits logs
limits_of (Record folder script) = (script.text, FILE_LIMIT) ∷ []
limits_of (Seal folder log) = (log.text, FILE_LIMIT) ∷ []
limits_of (Apply folder set) = (set.text, FILE_LIMIT) ∷ []
limits_of (Drill seed logs steps) = []
limits_of (Sync prefs folders logs) = preference_limits prefs ++ log_limits logs
limits_of (Explain prefs logs) = preference_limits prefs ++ log_limits logs
limits_of (Undo set) = (set.text, FILE_LIMIT) ∷ []
limits_of (Catchup sets) = log_limits sets
limits_of (Rebase side prefs work sets) = preference_limits prefs ++ work_limits work sets

-- ---- words

abbrev pub IsAnswerOf : Option Job → Option Store → Check Output
IsAnswerOf None tree = Judged (λ answer. answer ≡ Err InvalidArguments)
IsAnswerOf (Some job) tree = IsJobAnswer job tree

abbrev pub IsAnswer : List (List ℕ) → Option Store → Check Output
IsAnswer words tree = IsAnswerOf (job_of words) tree

abbrev pub limits_of_words : Option Job → Limits
limits_of_words None = []
limits_of_words (Some job) = limits_of job

-- there is a tree for each folder that the words name
abbrev pub HasItsTrees : {A : Type 0} → List (List ℕ) → List A → Type 0
HasItsTrees words trees = length trees ≡ length (folder_places words)

-- ---- finding the answer

-- what is known of the files and the trees that a job is handed
pub record Inputs : Type 0 where
  pub files : FilesState
  pub trees : List TreeState

abbrev pub inputs : FilesState → List TreeState → Inputs
inputs files trees = record { files = files; trees = trees }

-- what the first tree holds, where there is one and that is known
abbrev pub held_tree : List TreeState → Option Store
held_tree [] = None
held_tree (tree ∷ trees) = tree.contents

-- the count of the first tree was counted
abbrev pub IsCountedByFirst : (Counts → ℕ) → List TreeState → List TreeState → Type 0
IsCountedByFirst count (tree ∷ trees) (now ∷ later) = IsCounted (count tree.counts) (count now.counts)
IsCountedByFirst count trees later = ⊥

-- a call was refused only where that was counted, by the files or by the tree; and denied only by a tree that is not known
abbrev pub InputsCounted : Inputs → Inputs → Causes
InputsCounted before now (ReadFailed word) = FaultCounted before.files now.files
InputsCounted before now (TreeFailed word) = IsCountedByFirst (λ c. c.faults) before.trees now.trees
InputsCounted before now (TreeDenied word) = IsCountedByFirst (λ c. c.denials) before.trees now.trees × (held_tree before.trees ≡ None)

-- where it is known what the files hold, SET has this net set
abbrev pub IsSetHeld : Option FileContents → Operand → List Change → Type 0
IsSetHeld None file set = ⊤
IsSetHeld (Some m) file set = IsSetOf file m.held false (Ok set)

-- the only tree, to which the net set of SET was applied; `shows` says which text an answer has
abbrev pub AppliesFile : {X : Type 0} → (X → List ℕ → Type 0) → Operand → Option FileContents → Result X Refusal → List TreeState → List TreeState → Type 0
AppliesFile shows file files result (tree ∷ []) (now ∷ []) =
    ((set : List Change) × IsSetHeld files file set × Applies set result tree now) × IsNumbered shows result tree now
AppliesFile shows file files result trees later = ⊥

abbrev pub IsRefused : {X : Type 0} → Result X Refusal → Type 0
IsRefused (Ok x) = ⊥
IsRefused (Err r) = ⊤

-- What becomes of the trees of a job that finds its answer before it prints: they are as before, and that is no answer of
-- `apply`; or its set was applied; or they were looked at.
abbrev pub LeavesTrees : {X : Type 0} → (X → List ℕ → Type 0) → Job → Option FileContents → Result X Refusal → List TreeState → List TreeState → Type 0
LeavesTrees shows (Apply folder file) files result trees later = ((later ≡ trees) × IsRefused result) ⊎ AppliesFile shows file files result trees later
LeavesTrees shows (Seal folder file) files result trees later = (later ≡ trees) ⊎ LooksAtOnly result trees later
LeavesTrees shows job files result trees later = later ≡ trees

-- What a function owes that makes a check for a job: no count falls, what the files hold stays, and the answer is
-- allowed. `stands` says what its value stands for, and `shows` which text it has.
pub record FindsFrom {X A : Type 0} (stands : X → A → Type 0) (shows : X → List ℕ → Type 0) (P : Check A) (job : Job) (before now : Inputs) (result : Result X Refusal) : Type 0 where
  pub later : before.files.faults ≤ now.files.faults
  pub quiet : Unless result (now.files.faults ≡ before.files.faults)
  pub reads : IfKnown before.files now.files (ReadsFiles (limits_of job))
  pub allowed : IsAllowedOf stands P before.files.contents (InputsCounted before now) result
  pub of_job : IsOfJob result
  pub trees : LeavesTrees shows job before.files.contents result before.trees now.trees

-- what a function owes that finds a text
abbrev pub FindsText : Check (List ℕ) → Job → Inputs → Inputs → Result (Vec ℕ Global) Refusal → Type 0
FindsText P job before now result = FindsFrom HasItems HasItems P job before now result

-- the text of what stands for an output
abbrev pub shows_text : {X : Type 0} → (X → Output → Type 0) → X → List ℕ → Type 0
shows_text stands x text = stands x (WholeText text)

-- and of an output itself
abbrev pub shows_output : Output → List ℕ → Type 0
shows_output output text = output ≡ WholeText text

-- what finding the answer of a job owes
abbrev pub FindsJob : {X : Type 0} → (X → Output → Type 0) → Job → Inputs → Inputs → Result X Refusal → Type 0
FindsJob stands job before now result = FindsFrom stands (shows_text stands) (IsJobAnswer job (held_tree before.trees)) job before now result

-- What finding the answer of words owes. Where they are no job no file is opened.
abbrev pub Finds : {X : Type 0} → (X → Output → Type 0) → Option Job → Inputs → Inputs → Result X Refusal → Type 0
Finds stands None before now result = ((result ≡ Err InvalidArguments) ⊎ (result ≡ Err OutOfMemory)) × (now ≡ before)
Finds stands (Some job) before now result = FindsJob stands job before now result

-- ---- a run

-- what is known of all that a run is handed
pub record Outside : Type 0 where
  pub files : FilesState
  pub trees : List TreeState
  pub out : SinkState
  pub err : SinkState

abbrev pub outside : FilesState → List TreeState → SinkState → SinkState → Outside
outside files trees out err = record { files = files; trees = trees; out = out; err = err }

abbrev pub inputs_of : Outside → Inputs
inputs_of all = inputs all.files all.trees

-- the trees of words, where they are a job
abbrev pub LeavesTreesOf : Option Job → Option FileContents → Result Output Refusal → List TreeState → List TreeState → Type 0
LeavesTreesOf None files answer trees later = later ≡ trees
LeavesTreesOf (Some job) files answer trees later = LeavesTrees shows_output job files answer trees later

-- One answer explains a run: it is allowed by the words, the trees are what it leaves, `out` gained what it prints or
-- nothing, and `err` its line.
pub record Ran (words : List (List ℕ)) (before now : Outside) (status : ℕ) : Type 0 where
  pub answer : Result Output Refusal
  pub allowed : IsAllowed (IsAnswer words (held_tree before.trees)) before.files.contents (InputsCounted (inputs_of before) (inputs_of now)) answer
  pub trees : LeavesTreesOf (job_of words) before.files.contents answer before.trees now.trees
  pub prints : Prints answer status before.out now.out
  pub says : Says (line_of words answer status) before.err now.err

-- there are as many trees, and none of the counts of one fell
abbrev pub NoTreeFell : List TreeState → List TreeState → Type 0
NoTreeFell [] [] = ⊤
NoTreeFell (tree ∷ trees) (now ∷ later) = NoneFell tree.counts now.counts × NoTreeFell trees later
NoTreeFell trees later = ⊥

-- No count falls, the files of the job are opened once each at most and read as their limits say, and what is held stays.
pub record Keeps (words : List (List ℕ)) (before now : Outside) : Type 0 where
  pub files : before.files.faults ≤ now.files.faults
  pub trees : NoTreeFell before.trees now.trees
  pub out : before.out.faults ≤ now.out.faults
  pub err : before.err.faults ≤ now.err.faults
  pub reads : IfKnown before.files now.files (ReadsFiles (limits_of_words (job_of words)))

-- no call on the files and on `out` failed; of the trees `Ran` says so
abbrev pub NoneFailed : Outside → Outside → Type 0
NoneFailed before now = (now.files.faults ≡ before.files.faults) × (now.out.faults ≡ before.out.faults)
