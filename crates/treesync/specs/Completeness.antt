-- When a job prints: where the files hold what it asks for, only memory or a call that fails can keep it from that.
use Rattle.std.specs.Prelude.{◌≡◌, ◌⊎◌, ◌≤◌, List, [], ◌∷◌, length, ⊤, Option, None, Some, ℕ}
use Rattle.std.specs.List.{AllByRecursion}
use Rattle.sync_command.specs.Maps.{at}
use Rattle.sync_command.specs.Trees.{Takes}
use Rattle.sync_command.specs.declared.commands.Row.{Row}
use Rattle.sync_command.specs.declared.values.Version.{Version}
use Rattle.sync_port.specs.States.{FaultCounted}
use Rattle.sync_port.specs.Ports.{FileContents, Names}
use Rattle.apply_model.specs.Entries.{store_of}
use Rattle.canon_set.specs.Logs.{IsTaken, net}
use Rattle.canon_set.specs.Sets.{canonical}
use Rattle.log_text.specs.Snapshots.{IsSnapshot, snapshot_text}
use Rattle.refluent.specs.CommonTrees.{HasCommonTree}
use Rattle.refluent.specs.Joints.{net_sets}
use Rattle.pref_list.specs.Orders.{first_fault}
use Rattle.pref_list.specs.declared.rules.Rule.{Rule}
use Rattle.rounds.specs.Compositions.{chain_list}
use Rattle.rounds.specs.Rebasing.{rebase_logs}
use Rattle.tool_words.specs.Jobs.{job_of}
use Rattle.tool_words.specs.Words.{Operand, Text}
use Rattle.tool_words.specs.declared.job.Job.{Job}
use Rattle.tool_words.specs.declared.job.Job.TheVariants.{Help, Replay, Canon, Conflicts, Merge, Transition, Steer, Record, Seal, Apply, Drill, Sync, Explain, Undo, Catchup, Rebase}
use Rattle.treesync.specs.Headline.{HoldLogs, HoldsRules, IsMergerOf, Recorded, all_commands}
use Rattle.treesync.specs.Jobs.{Outside}
use Rattle.treesync.specs.declared.input.TheConstants.{FILE_LIMIT}

-- the file holds a log that some tree takes
pub record HoldsTaken (held : Names) (file : Operand) : Type 0 where
  pub log : Recorded
  pub hold : HoldLogs held (file ∷ []) (log ∷ [])
  pub taken : IsTaken log.commands

-- the files hold a snapshot and a log that the snapshot's tree takes
pub record HoldReplay (held : Names) (snap file : Operand) : Type 0 where
  pub version : Version
  pub rows : List Row
  pub log : Recorded
  pub text : held snap.text ≡ Some (snapshot_text version rows)
  pub is : IsSnapshot version rows
  pub bytes : length (snapshot_text version rows) ≤ FILE_LIMIT
  pub hold : HoldLogs held (file ∷ []) (log ∷ [])
  pub takes : Takes (at (store_of rows)) log.commands

-- the files hold logs that some tree takes together, and rules that name what is there
pub record HoldJoin (held : Names) (prefs : Option Operand) (files : List Operand) : Type 0 where
  pub logs : List Recorded
  pub rules : List Rule
  pub hold : HoldLogs held files logs
  pub prefer : HoldsRules held prefs rules
  pub common : HasCommonTree (all_commands logs)
  pub named : first_fault (net_sets (all_commands logs)) rules ≡ None

-- the files hold SET and logs that some tree takes together, and the net set of SET is a merger of these
pub record HoldMerger (held : Names) (file : Operand) (files : List Operand) : Type 0 where
  pub set : Recorded
  pub logs : List Recorded
  pub holds : HoldLogs held (file ∷ []) (set ∷ [])
  pub hold : HoldLogs held files logs
  pub taken : IsTaken set.commands
  pub common : HasCommonTree (all_commands logs)
  pub is : IsMergerOf (all_commands logs) (canonical (net set.commands))

-- the files hold sets, each of which some tree takes, and some tree takes them one after another
pub record HoldChain (held : Names) (files : List Operand) : Type 0 where
  pub sets : List Recorded
  pub hold : HoldLogs held files sets
  pub each : AllByRecursion (λ (set : Recorded). IsTaken set.commands) sets
  pub follow : IsTaken (chain_list (net_sets (all_commands sets)))

-- the files hold work and sets that some tree takes one after another; work and sets have a common tree, and have what
-- the rules name
pub record HoldRebase (held : Names) (prefs : Option Operand) (work : Operand) (files : List Operand) : Type 0 where
  pub log : Recorded
  pub sets : List Recorded
  pub rules : List Rule
  pub hold : HoldLogs held (work ∷ files) (log ∷ sets)
  pub prefer : HoldsRules held prefs rules
  pub each : AllByRecursion (λ (set : Recorded). IsTaken set.commands) sets
  pub follow : IsTaken (chain_list (net_sets (all_commands sets)))
  pub common : HasCommonTree (rebase_logs log.commands (net_sets (all_commands sets)))
  pub named : first_fault (net_sets (rebase_logs log.commands (net_sets (all_commands sets)))) rules ≡ None

-- what a job asks of the files; all texts are in their grammar and within the limits (what `record`, `seal`,
-- `apply` and `sync` ask of their trees too stands in the headlines)
abbrev pub IsMet : Job → Names → Type 0
IsMet Help held = ⊤
IsMet (Replay snap log) held = HoldReplay held snap log
IsMet (Canon log) held = HoldsTaken held log
IsMet (Conflicts files) held = HoldJoin held None files
IsMet (Merge prefs files) held = HoldJoin held prefs files
IsMet (Transition number prefs files) held = HoldJoin held prefs files
IsMet (Steer file files) held = HoldMerger held file files
IsMet (Record folder script) held = ⊥
IsMet (Seal folder log) held = ⊥
IsMet (Apply folder set) held = ⊥
IsMet (Drill seed logs steps) held = ⊤
IsMet (Sync prefs folders logs) held = ⊥
IsMet (Explain prefs files) held = HoldJoin held prefs files
IsMet (Undo file) held = HoldsTaken held file
IsMet (Catchup files) held = HoldChain held files
IsMet (Rebase side prefs work files) held = HoldRebase held prefs work files

-- the status of a text that was printed
abbrev pub IsPrintedStatus : Job → ℕ → Type 0
IsPrintedStatus (Conflicts files) status = status ≤ 1
IsPrintedStatus job status = status ≡ 0

-- Where it is met, the status is that of a text or of memory that ran out, unless a fault was counted.
abbrev pub CompletesJob : List Text → Outside → Outside → ℕ → Type 0
CompletesJob words before now status =
    (job : Job) (m : FileContents) → job_of words ≡ Some job → before.files.contents ≡ Some m → IsMet job m.held →
    (FaultCounted before.files now.files → ⊥) → (FaultCounted before.out now.out → ⊥) → IsPrintedStatus job status ⊎ (status ≡ 16)
