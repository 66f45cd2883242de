-- What a run does: it finds its answer and prints it; or it is a round, which does so over a list of trees; or a
-- recording, which writes as it goes.
use Rattle.std.specs.Prelude.{◌≡◌, ◌⊎◌, ◌≤◌, ℕ, List, [], ◌∷◌, Option, None, Some, Result, Ok, Err, ⊤}
use Rattle.sync_port.specs.States.{IfKnown}
use Rattle.record_core.specs.declared.faults.RecordFault.{RecordFault}
use Rattle.tool_words.specs.Jobs.{job_of}
use Rattle.tool_words.specs.Words.{Operand, Text}
use Rattle.tool_words.specs.declared.job.Job.{Job}
use Rattle.tool_words.specs.declared.job.Job.TheVariants.{Record, Sync}
use Rattle.tool_words.specs.declared.job.WordFault.{WordFault}
use Rattle.tool_words.specs.declared.job.WordFault.TheVariants as word
use Rattle.treesync.specs.Apply.{OfOnlyTree}
use Rattle.treesync.specs.Checks.{FilesCounted, IsAllowed, IsOfJob, ReadsFiles, Unless}
use Rattle.treesync.specs.Ends.{Prints, Says, end_line, line_of}
use Rattle.treesync.specs.Jobs.{Keeps, NoneFailed, Outside, Ran}
use Rattle.treesync.specs.Messages.{message_of, status_of}
use Rattle.treesync.specs.Outputs.{Output}
use Rattle.treesync.specs.Record.{IsScript, RecordsOnTree, Script, record_refusal}
use Rattle.treesync.specs.Sync.{FindsRound}
use Rattle.treesync.specs.declared.input.TheConstants.{FILE_LIMIT}
use Rattle.treesync.specs.declared.refusal.Refusal.{Refusal}
use Rattle.treesync.specs.declared.refusal.Refusal.TheVariants.{InvalidArguments, OutOfMemory}

-- the status of a recording that ended early, by why it was refused, and its line on `err`
abbrev pub early_status : Option Refusal → ℕ
early_status None = 4
early_status (Some r) = status_of r

abbrev pub early_line : List Text → Option Refusal → List ℕ
early_line words None = end_line 4
early_line words (Some r) = message_of words r

-- those of a recording
abbrev pub recording_status : ℕ → ℕ → Result ℕ RecordFault → ℕ
recording_status folder word (Ok number) = 0
recording_status folder word (Err fault) = early_status (record_refusal folder word fault)

abbrev pub recording_line : List Text → ℕ → ℕ → Result ℕ RecordFault → List ℕ
recording_line words folder word (Ok number) = []
recording_line words folder word (Err fault) = early_line words (record_refusal folder word fault)

-- a script that was refused leaves `out` and the tree as they were; any other one was recorded
abbrev pub CarriesOut : Operand → Operand → List Text → Outside → Outside → ℕ → Result Script Refusal → Type 0
CarriesOut folder file words before now status (Err r) =
    (now.trees ≡ before.trees) × (now.out ≡ before.out) × (status ≡ status_of r) × Says (message_of words r) before.err now.err
CarriesOut folder file words before now status (Ok script) =
    (result : Result ℕ RecordFault) × OfOnlyTree before.trees now.trees (RecordsOnTree script result before.out now.out) ×
    (status ≡ recording_status folder.place file.place result) ×
    Says (recording_line words folder.place file.place result) before.err now.err

-- A recording: its script was read, or refused as the file says, and then carried out.
pub record RanRecording (folder file : Operand) (words : List Text) (before now : Outside) (status : ℕ) : Type 0 where
  pub later : before.files.faults ≤ now.files.faults
  pub reads : IfKnown before.files now.files (ReadsFiles ((file.text, FILE_LIMIT) ∷ []))
  pub script : Result Script Refusal
  pub of_job : IsOfJob script
  pub quiet : Unless script (now.files.faults ≡ before.files.faults)
  pub allowed : IsAllowed (IsScript file) before.files.contents (FilesCounted before.files now.files) script
  pub carries_out : CarriesOut folder file words before now status script

-- A round: its answer was found over files and trees, and printed.
pub record RanRound (prefs : Option Operand) (folders files : List Operand) (words : List Text) (before now : Outside) (status : ℕ) : Type 0 where
  pub answer : Result Output Refusal
  pub finds : FindsRound prefs folders files before.files now.files before.trees now.trees answer
  pub prints : Prints answer status before.out now.out
  pub says : Says (line_of words answer status) before.err now.err

-- a job whose answer is found before it prints, over one tree at most
abbrev pub IsAnswered : Job → Type 0
IsAnswered (Record folder file) = ⊥
IsAnswered (Sync prefs folders files) = ⊥
IsAnswered job = ⊤

abbrev pub RunsJob : Option Job → List Text → Outside → Outside → ℕ → Type 0
RunsJob (Some (Record folder file)) words before now status = RanRecording folder file words before now status
RunsJob (Some (Sync prefs folders files)) words before now status = RanRound prefs folders files words before now status
RunsJob job words before now status = Ran words before now status

-- what the words do
pub record Runs (words : List Text) (before now : Outside) (status : ℕ) : Type 0 where
  pub does : RunsJob (job_of words) words before now status

-- why there is no job
abbrev pub words_refusal : WordFault → Refusal
words_refusal word.Refused = InvalidArguments
words_refusal word.Memory = OutOfMemory

-- What the status says of any words: 2 that the arguments are invalid, which have 2 or 16, and 0 or 1 that no call failed.
pub record EndsRight (job : Option Job) (before now : Outside) (status : ℕ) : Type 0 where
  pub refused : status ≡ 2 → job ≡ None
  pub invalid : job ≡ None → (status ≡ 2) ⊎ (status ≡ 16)
  pub done : status ≤ 1 → NoneFailed before now

-- What is said of the run of any words: what explains it, what stays as it was, and which status it may have.
pub record IsExplained (words : List Text) (before now : Outside) (status : ℕ) : Type 0 where
  pub runs : Runs words before now status
  pub keeps : Keeps words before now
  pub ends : EndsRight (job_of words) before now status
