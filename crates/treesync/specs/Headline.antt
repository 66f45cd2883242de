-- The headline, in the words of the model: what `merge` prints, and when it prints; where each printed transition leads;
-- that `apply`, stopped between any two calls of the tree and run again, ends there; and what `record` and `seal` leave.
use Rattle.std.specs.Prelude.{◌≡◌, ◌⊎◌, ◌≤◌, ◌-◌, ◌++◌, ℕ, List, [], ◌∷◌, map, length, ⊤, Option, None, Some, Ok}
use Rattle.std.specs.List.{sum_by}
use Rattle.sync_command.specs.Changes.{Change}
use Rattle.sync_command.specs.Maps.{IsTreeMap, Store, at, stored}
use Rattle.sync_path.specs.Paths.{parts}
use Rattle.sync_command.specs.Trees.{Fits, after}
use Rattle.sync_command.specs.declared.values.Version.{Version}
use Rattle.sync_command.specs.declared.values.Version.TheVariants.{One}
use Rattle.sync_port.specs.States.{FaultCounted, IfKnown}
use Rattle.sync_port.specs.Ports.{FileContents, Names, SinkContents, SinkState}
use Rattle.canon_set.specs.Sets.{canonical}
use Rattle.log_text.specs.Logs.{IsLog, log_text}
use Rattle.refluent.specs.Clashes.{HasNoClash}
use Rattle.refluent.specs.CommonTrees.{HasCommonTree, IsCommonTree}
use Rattle.refluent.specs.Drawn.{drawn_commands}
use Rattle.refluent.specs.FirstDisagreements.{log_at}
use Rattle.refluent.specs.Mergers.{IsMerger}
use Rattle.refluent.specs.Sets.{HaveSameCommands}
use Rattle.pref_list.specs.Prefs.{IsPrefs, prefs_text}
use Rattle.pref_list.specs.declared.rules.Rule.{Rule}
use Rattle.merge_core.specs.Steering.{steering_rules}
use Rattle.tool_words.specs.Jobs.{job_of}
use Rattle.tool_words.specs.Words.{Operand, Text}
use Rattle.tool_words.specs.declared.job.Job.TheVariants.{Apply, Conflicts, Merge, Record, Seal, Steer, Transition}
use Rattle.tree_port.specs.States.{TreeState}
use Rattle.resume_apply.specs.Finishing.{IsPaid, counted_on}
use Rattle.resume_apply.specs.Ready.{IsOnItsWay, IsReady, work}
use Rattle.record_core.specs.Outcomes.{AtEnd, End, Large, Outcome as RecordOutcome, Refused, outcome_of}
use Rattle.record_core.specs.Recording.{IsClosed, IsPartDone, LeavesOpen}
use Rattle.record_core.specs.Scripts.{script_of}
use Rattle.record_core.specs.Seals.{IsLogOf, IsSealed, LeavesLog, OpenLog}
use Rattle.record_core.specs.Validity.{HoldsValues}
use Rattle.canon_set.specs.Logs.{IsTaken, net}
use Rattle.treesync.specs.Apply.{applied_text}
use Rattle.treesync.specs.Jobs.{IsCountedByFirst, Outside, held_tree}
use Rattle.treesync.specs.Logs.{later_version}
use Rattle.treesync.specs.Merge.{IsFirstMergerFor}
use Rattle.treesync.specs.Record.{Script}
use Rattle.treesync.specs.declared.input.TheConstants.{FILE_LIMIT}
use Rattle.treesync.specs.declared.logs.TheConstants.{MAX_COMMANDS}
use Rattle.treesync.specs.declared.preferences.TheConstants.{PREFS_LIMIT}

-- ---- what the files hold

-- a log as it stands in a file
pub record Recorded : Type 0 where
  pub version : Version
  pub commands : List Change

abbrev pub text_of : Recorded → List ℕ
text_of log = log_text log.version log.commands

-- each file holds the text of the log in its place
abbrev pub HoldTexts : Names → List Operand → List Recorded → Type 0
HoldTexts held [] [] = ⊤
HoldTexts held (file ∷ files) (log ∷ logs) = (held file.text ≡ Some (text_of log)) × IsLog log.version log.commands × HoldTexts held files logs
HoldTexts held files logs = ⊥

-- and all of them together are within the limits
pub record HoldLogs (held : Names) (files : List Operand) (logs : List Recorded) : Type 0 where
  pub texts : HoldTexts held files logs
  pub bytes : sum_by (λ log. length (text_of log)) logs ≤ FILE_LIMIT
  pub commands : sum_by (λ log. length log.commands) logs ≤ MAX_COMMANDS

-- the file that a job names holds the text of the rules, within the limit; where it names none there are none
abbrev pub HoldsRules : Names → Option Operand → List Rule → Type 0
HoldsRules held None rules = rules ≡ []
HoldsRules held (Some file) rules = (held file.text ≡ Some (prefs_text rules)) × IsPrefs rules × (length (prefs_text rules) ≤ PREFS_LIMIT)

-- the commands of each log
abbrev pub all_commands : List Recorded → List (List Change)
all_commands logs = map (λ log. log.commands) logs

-- version 2 wherever one of the logs is
abbrev pub latest_version : List Recorded → Version
latest_version [] = One
latest_version (log ∷ logs) = later_version log.version (latest_version logs)

-- ---- what is printed

-- a set of the logs' net commands that fits every tree that takes all the logs, and to which no further one can be added
abbrev pub IsMergerOf : List (List Change) → List Change → Type 0
IsMergerOf logs set = (m : Store) → IsCommonTree m logs → IsMerger (at m) (drawn_commands logs) set

-- `out` gained the text and was flushed
abbrev pub Gains : List ℕ → SinkState → SinkState → Type 0
Gains text before now = IfKnown before now (λ m k. (k.written ≡ m.written ++ text) × (k.flushed ≡ length k.written))

-- the text of a set is within the limits of a log that is read
pub record IsWithinLimits (version : Version) (set : List Change) : Type 0 where
  pub bytes : length (log_text version set) ≤ FILE_LIMIT
  pub commands : length set ≤ MAX_COMMANDS

-- the files hold logs that some tree takes together, and `out` gained a merger of them, the first under the rules that
-- are held
pub record GainsMerger (held : Names) (prefs : Option Operand) (files : List Operand) (before now : SinkState) : Type 0 where
  pub logs : List Recorded
  pub rules : List Rule
  pub hold : HoldLogs held files logs
  pub prefer : HoldsRules held prefs rules
  pub common : HasCommonTree (all_commands logs)
  pub merger : List Change
  pub is : IsMergerOf (all_commands logs) merger
  pub first : IsFirstMergerFor (all_commands logs) rules merger
  pub within : IsWithinLimits (latest_version logs) (canonical merger)
  pub gains : Gains (log_text (latest_version logs) (canonical merger)) before now

-- With status 0 a `merge` printed a merger.
abbrev pub PrintsMerger : List Text → Outside → Outside → ℕ → Type 0
PrintsMerger words before now status =
    (prefs : Option Operand) (files : List Operand) (m : FileContents) →
    job_of words ≡ Some (Merge prefs files) → before.files.contents ≡ Some m → status ≡ 0 → GainsMerger m.held prefs files before.out now.out

-- a set fits the tree of the replica of this number, wherever the logs began together, and leads to the merger's tree
abbrev pub LeadsToMerger : List (List Change) → ℕ → List Change → List Change → Type 0
LeadsToMerger logs number set merger =
    (m : Store) → IsCommonTree m logs →
    let replica = at (stored m (log_at logs (number - 1))) in Fits replica set × (after set replica ≡ after merger (at m))

-- the files hold logs that some tree takes together, and `out` gained a set that leads the tree of one replica to that
-- of the first merger under the rules that are held
pub record GainsTransition (held : Names) (number : ℕ) (prefs : Option Operand) (files : List Operand) (before now : SinkState) : Type 0 where
  pub logs : List Recorded
  pub rules : List Rule
  pub hold : HoldLogs held files logs
  pub prefer : HoldsRules held prefs rules
  pub common : HasCommonTree (all_commands logs)
  pub set : List Change
  pub leads : (merger : List Change) → IsFirstMergerFor (all_commands logs) rules merger → LeadsToMerger (all_commands logs) number set merger
  pub within : IsWithinLimits (latest_version logs) set
  pub gains : Gains (log_text (latest_version logs) set) before now

-- With status 0 a `transition` printed what leads its replica's tree to the tree of the merger that `merge` prints under
-- the same rules: so all replicas come to one tree.
abbrev pub PrintsTransition : List Text → Outside → Outside → ℕ → Type 0
PrintsTransition words before now status =
    (number : ℕ) (prefs : Option Operand) (files : List Operand) (m : FileContents) →
    job_of words ≡ Some (Transition number prefs files) → before.files.contents ≡ Some m → status ≡ 0 →
    GainsTransition m.held number prefs files before.out now.out

-- ---- clashes

-- the files hold logs that some tree takes together, of which P holds
pub record HoldTogether (held : Names) (files : List Operand) (P : List (List Change) → Type 0) : Type 0 where
  pub logs : List Recorded
  pub hold : HoldLogs held files logs
  pub common : HasCommonTree (all_commands logs)
  pub so : P (all_commands logs)

-- all the net commands of the logs together are their only merger
abbrev pub IsOnlyMerger : List (List Change) → Type 0
IsOnlyMerger logs =
    IsMergerOf logs (drawn_commands logs) × ((m : Store) (merger : List Change) → IsCommonTree m logs →
    IsMerger (at m) (drawn_commands logs) merger → HaveSameCommands merger (drawn_commands logs))

-- With status 0 a `conflicts` found that no two net commands clash, and then all of them are the only merger; with
-- status 1 it found that some do.
abbrev pub PrintsClashes : List Text → Outside → Outside → ℕ → Type 0
PrintsClashes words before now status =
    (files : List Operand) (m : FileContents) → job_of words ≡ Some (Conflicts files) → before.files.contents ≡ Some m →
    (status ≡ 0 → HoldTogether m.held files (λ logs. HasNoClash (drawn_commands logs) × IsOnlyMerger logs)) ×
    (status ≡ 1 → HoldTogether m.held files (λ logs. HasNoClash (drawn_commands logs) → ⊥))

-- ---- when it is printed

-- the status is one of a text or of memory that ran out, unless a fault was counted
abbrev pub Completes : Outside → Outside → ℕ → Type 0
Completes before now status =
    (FaultCounted before.files now.files → ⊥) → (FaultCounted before.out now.out → ⊥) → (status ≡ 0) ⊎ (status ≡ 16)

-- Each merger is printed for some preference list: the rules that steer to it, where some tree takes all the logs.
abbrev pub PrintsSteered : List Text → Outside → Outside → ℕ → Type 0
PrintsSteered words before now status =
    (prefs : Option Operand) (files : List Operand) (m : FileContents) (logs : List Recorded) (merger : List Change) →
    job_of words ≡ Some (Merge prefs files) → before.files.contents ≡ Some m →
    HoldLogs m.held files logs → HasCommonTree (all_commands logs) → IsMergerOf (all_commands logs) merger →
    HoldsRules m.held prefs (steering_rules (all_commands logs) merger) →
    (status ≡ 0 → Gains (log_text (latest_version logs) (canonical merger)) before.out now.out) × Completes before now status

-- ---- `steer`

-- the files hold SET, whose net set is a merger of logs that some tree takes together, and `out` gained the rules that
-- steer to that merger
pub record GainsRules (held : Names) (file : Operand) (files : List Operand) (before now : SinkState) : Type 0 where
  pub set : Recorded
  pub logs : List Recorded
  pub holds : HoldLogs held (file ∷ []) (set ∷ [])
  pub hold : HoldLogs held files logs
  pub common : HasCommonTree (all_commands logs)
  pub is : IsMergerOf (all_commands logs) (canonical (net set.commands))
  pub gains : Gains (prefs_text (steering_rules (all_commands logs) (canonical (net set.commands)))) before now

-- With status 0 a `steer` printed the rules that steer to the merger that SET holds.
abbrev pub PrintsRules : List Text → Outside → Outside → ℕ → Type 0
PrintsRules words before now status =
    (file : Operand) (files : List Operand) (m : FileContents) →
    job_of words ≡ Some (Steer file files) → before.files.contents ≡ Some m → status ≡ 0 →
    GainsRules m.held file files before.out now.out

-- ---- `apply`

-- the file holds a log within the limits that some tree takes, and this is its net set
pub record HoldsSet (held : Names) (file : Operand) (set : List Change) : Type 0 where
  pub log : Recorded
  pub hold : HoldLogs held (file ∷ []) (log ∷ [])
  pub taken : IsTaken log.commands
  pub net : set ≡ canonical (net log.commands)

-- the tree that is known as a run begins is ready for the set, and was led to the target; `out` gained its work
pub record GainsApplied (set : List Change) (m : Store) (before now : Outside) : Type 0 where
  pub ready : IsReady (at m) set
  pub tree : Store
  pub held : held_tree now.trees ≡ Some tree
  pub target : at tree ≡ after set (at m)
  pub gains : Gains (applied_text (work set (at m))) before.out now.out

-- With status 0 an `apply` led the tree to where the set of SET leads it, and printed the work that this took.
abbrev pub PrintsApplied : List Text → Outside → Outside → ℕ → Type 0
PrintsApplied words before now status =
    (folder file : Operand) (m : FileContents) (set : List Change) (tree : Store) →
    job_of words ≡ Some (Apply folder file) → before.files.contents ≡ Some m → HoldsSet m.held file set →
    held_tree before.trees ≡ Some tree → status ≡ 0 → GainsApplied set tree before now

-- so many changes of the only tree were counted
abbrev pub IsChangedBy : List TreeState → ℕ → List TreeState → Type 0
IsChangedBy (tree ∷ []) changes (now ∷ []) = now.counts.changes ≡ counted_on tree.counts.changes changes
IsChangedBy trees changes later = ⊥

-- With status 0 the number that an `apply` printed is that of the changes that were counted, whatever is known of the
-- tree and of the files.
abbrev pub PrintsChanges : List Text → Outside → Outside → ℕ → Type 0
PrintsChanges words before now status =
    (folder file : Operand) → job_of words ≡ Some (Apply folder file) → status ≡ 0 →
    (changes : ℕ) × IsChangedBy before.trees changes now.trees × Gains (applied_text changes) before.out now.out

-- the status is one of a text or of memory that ran out, unless a fault was counted, that of a tree among them
abbrev pub CompletesOnTree : Outside → Outside → ℕ → Type 0
CompletesOnTree before now status = (IsCountedByFirst (λ c. c.faults) before.trees now.trees → ⊥) → Completes before now status

-- the counts of the first tree, and those of a list that has none
abbrev pub Paid : List Change → List TreeState → Store → List TreeState → Store → Type 0
Paid set (tree ∷ trees) m (now ∷ later) n = IsPaid tree.counts (work set (at m)) now.counts (work set (at n))
Paid set trees m later n = ⊥

-- What a run leaves of a tree m that is on its way from `start`: it is still on its way, and the target after a text. The
-- changes that were counted are paid by the work that was left.
pub record GoesOn (set : List Change) (start m : Store) (before now : Outside) (status : ℕ) : Type 0 where
  pub tree : Store
  pub held : held_tree now.trees ≡ Some tree
  pub way : IsOnItsWay set (at start) (at tree)
  pub paid : Paid set before.trees m now.trees tree
  pub target : (status ≡ 0) ⊎ (status ≡ 4) → at tree ≡ after set (at start)
  pub completes : CompletesOnTree before now status

-- Interrupted application: wherever runs with the same words that were stopped, each between any two calls of the tree,
-- left a tree on its way from `start`, where nothing else changed it, this run leaves it on its way, and it ends at the
-- target of `start` unless a fault was counted or memory runs out. A tree that is ready is on its way from itself.
abbrev pub ResumesApply : List Text → Outside → Outside → ℕ → Type 0
ResumesApply words before now status =
    (folder file : Operand) (m : FileContents) (set : List Change) (start tree : Store) →
    job_of words ≡ Some (Apply folder file) → before.files.contents ≡ Some m → HoldsSet m.held file set →
    held_tree before.trees ≡ Some tree → IsOnItsWay set (at start) (at tree) → GoesOn set start tree before now status

-- A tree that is not ready for the set stays.
abbrev pub KeepsUnready : List Text → Outside → Outside → Type 0
KeepsUnready words before now =
    (folder file : Operand) (m : FileContents) (set : List Change) (tree : Store) →
    job_of words ≡ Some (Apply folder file) → before.files.contents ≡ Some m → HoldsSet m.held file set →
    held_tree before.trees ≡ Some tree → (IsReady (at tree) set → ⊥) → held_tree now.trees ≡ Some tree

-- ---- `seal`

-- the file holds the text of an open log within the limit that some tree takes
pub record HoldsOpen (held : Names) (file : Operand) (text : List ℕ) (log : OpenLog) : Type 0 where
  pub there : held file.text ≡ Some text
  pub bytes : length text ≤ FILE_LIMIT
  pub read : IsLogOf text log
  pub taken : IsTaken log.commands

-- With status 0 the sealed list was printed as a log; where there is one the status is 0, or memory ran out, unless a fault
-- was counted; and the tree stays.
pub record SealsHeld (log : OpenLog) (m : Store) (before now : Outside) (status : ℕ) : Type 0 where
  pub prints : status ≡ 0 → (sealed : List Change) × IsSealed log (at m) sealed × Gains (log_text log.version sealed) before.out now.out
  pub completes : (sealed : List Change) → IsSealed log (at m) sealed → CompletesOnTree before now status
  pub kept : held_tree now.trees ≡ Some m

-- What `seal` does with a log that a stopped recording left.
abbrev pub PrintsSealed : List Text → Outside → Outside → ℕ → Type 0
PrintsSealed words before now status =
    (folder file : Operand) (m : FileContents) (text : List ℕ) (log : OpenLog) (tree : Store) →
    job_of words ≡ Some (Seal folder file) → before.files.contents ≡ Some m → HoldsOpen m.held file text log →
    held_tree before.trees ≡ Some tree → SealsHeld log tree before now status

-- ---- `record`

-- the file holds the text of a script within the limit
pub record HoldsScript (held : Names) (file : Operand) (script : Script) : Type 0 where
  pub text : List ℕ
  pub there : held file.text ≡ Some text
  pub bytes : length text ≤ FILE_LIMIT
  pub read : script_of (parts 10 text) ≡ Ok script

-- the status of a script's end
abbrev pub end_status : End → ℕ
end_status AtEnd = 0
end_status (Refused number why) = 15
end_status Large = 12

-- unless a fault was counted it comes to the script's end, or memory ran out
abbrev pub ComesToEnd : RecordOutcome → Outside → Outside → ℕ → Type 0
ComesToEnd run before now status =
    (IsCountedByFirst (λ c. c.faults) before.trees now.trees → ⊥) → (FaultCounted before.files now.files → ⊥) →
    (FaultCounted before.out now.out → ⊥) → (status ≡ end_status run.end) ⊎ (status ≡ 16)

-- What a recording of a script that is held leaves of a tree that is known, whatever is known of `out`. With the statuses
-- 0, 12 and 15 the tree is the result of the commands before the script's end; with every other one it is that of a first
-- part of them.
pub record CarriesOutHeld (script : Script) (m : Store) (before now : Outside) (status : ℕ) : Type 0 where
  pub tree : Store
  pub held : held_tree now.trees ≡ Some tree
  pub ended : (status ≡ 0) ⊎ ((status ≡ 12) ⊎ (status ≡ 15)) →
      let run = outcome_of script.0 m script.1 in (status ≡ end_status run.end) × (tree ≡ stored m run.commands)
  pub part : IsPartDone (outcome_of script.0 m script.1).commands m tree
  pub completes : ComesToEnd (outcome_of script.0 m script.1) before now status

-- The operations of a script are carried out up to its end, and no further one, whatever becomes of the log.
abbrev pub CarriesOutRecord : List Text → Outside → Outside → ℕ → Type 0
CarriesOutRecord words before now status =
    (folder file : Operand) (m : FileContents) (script : Script) (tree : Store) →
    job_of words ≡ Some (Record folder file) → before.files.contents ≡ Some m → HoldsScript m.held file script →
    held_tree before.trees ≡ Some tree → CarriesOutHeld script tree before now status

-- What a recording leaves of `out` and of the tree. With the statuses 0, 12 and 15 the log of the operations before the
-- script's end was closed, and the tree is its result. With every other one its first bytes were written: the tree is the
-- result of the commands whose lines are whole, or of all of these but the last. Where the tree held paths and values
-- alone, what was written is an open log that `seal` closes: its sealed list is the one whose result the tree is.
pub record LeavesRecording (version : Version) (run : RecordOutcome) (status : ℕ) (x y : SinkContents) (m n : Store) : Type 0 where
  pub closed : (status ≡ 0) ⊎ ((status ≡ 12) ⊎ (status ≡ 15)) → (status ≡ end_status run.end) × IsClosed version run.commands x y m n
  pub left : IsClosed version run.commands x y m n ⊎ LeavesOpen version run.commands x y m n
  pub log : IsTreeMap m → HoldsValues (at m) → LeavesLog run.commands x y m n

-- It leaves that of a script that is held, over a tree and an `out` that are known; and it comes to the script's end, or
-- memory ran out, unless a fault was counted.
pub record RecordsHeld (script : Script) (m : Store) (x : SinkContents) (before now : Outside) (status : ℕ) : Type 0 where
  pub tree : Store
  pub held : held_tree now.trees ≡ Some tree
  pub written : SinkContents
  pub known : now.out.contents ≡ Some written
  pub leaves : LeavesRecording script.0 (outcome_of script.0 m script.1) status x written m tree
  pub completes : ComesToEnd (outcome_of script.0 m script.1) before now status

-- Each change of a tree is on the log before it is made, whatever stops a `record`.
abbrev pub PrintsRecorded : List Text → Outside → Outside → ℕ → Type 0
PrintsRecorded words before now status =
    (folder file : Operand) (m : FileContents) (script : Script) (tree : Store) (x : SinkContents) →
    job_of words ≡ Some (Record folder file) → before.files.contents ≡ Some m → HoldsScript m.held file script →
    held_tree before.trees ≡ Some tree → before.out.contents ≡ Some x → RecordsHeld script tree x before now status
