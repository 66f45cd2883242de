-- The headline of sets beside a merge: what `undo`, `catchup` and `rebase` print, where it leads, and what `explain` says
-- of the merger.
use Rattle.std.specs.Prelude.{◌≡◌, ℕ, List, [], ◌∷◌, Option, Some}
use Rattle.sync_command.specs.Changes.{Change}
use Rattle.sync_command.specs.Maps.{IsTreeMap, Store, at, stored}
use Rattle.sync_command.specs.Trees.{Fits, Takes, after}
use Rattle.sync_port.specs.Ports.{FileContents, Names, SinkState}
use Rattle.canon_set.specs.Logs.{IsTaken, net}
use Rattle.canon_set.specs.Sets.{canonical}
use Rattle.log_text.specs.Logs.{log_text}
use Rattle.refluent.specs.CommonTrees.{HasCommonTree}
use Rattle.refluent.specs.Joints.{Joined, StandsForAll, net_sets}
use Rattle.refluent.specs.Sets.{IsSubset}
use Rattle.pref_list.specs.declared.rules.Rule.{Rule}
use Rattle.pref_list.specs.declared.rules.Rule.TheVariants.{All}
use Rattle.resume_apply.specs.Ready.{IsReady}
use Rattle.rounds.specs.Compositions.{chain_list, composition}
use Rattle.rounds.specs.Rebasing.{rebase_logs}
use Rattle.tool_words.specs.Jobs.{job_of}
use Rattle.tool_words.specs.Words.{Operand, Text}
use Rattle.tool_words.specs.declared.job.Job.TheVariants.{Catchup, Explain, Rebase, Undo}
use Rattle.tool_words.specs.declared.job.Side.{Side}
use Rattle.tool_words.specs.declared.job.Side.TheVariants.{Tree, Next}
use Rattle.treesync.specs.Explain.{reason_lines}
use Rattle.treesync.specs.Headline.{Gains, HoldLogs, HoldsRules, Recorded, all_commands, latest_version}
use Rattle.treesync.specs.Jobs.{Outside}
use Rattle.treesync.specs.Logs.{later_version}
use Rattle.treesync.specs.Merge.{IsFirstMergerFor}
use Rattle.treesync.specs.Outputs.{ReasonLines, text_in}

-- ---- `undo`

-- a set leads back from the result of a log, on each tree that takes the log
abbrev pub LeadsBack : List Change → List Change → Type 0
LeadsBack log set = (m : Store) → IsTreeMap m → Takes (at m) log →
    Fits (at (stored m log)) set × (after set (at (stored m log)) ≡ at m)

-- a tree on which an application of the net set was stopped anywhere is ready for the set, with the tree as it began for
-- target
abbrev pub LeadsBackFromStops : List Change → List Change → Type 0
LeadsBackFromStops done set = (m n : Store) → IsTreeMap m → Fits (at m) done → IsReady (at n) done →
    after done (at n) ≡ after done (at m) → IsReady (at n) set × (after set (at n) ≡ at m)

-- the file holds a log that some tree takes, and `out` gained what leads back from its net set
pub record GainsUndo (held : Names) (file : Operand) (before now : SinkState) : Type 0 where
  pub log : Recorded
  pub hold : HoldLogs held (file ∷ []) (log ∷ [])
  pub taken : IsTaken log.commands
  pub set : List Change
  pub back : LeadsBack log.commands set
  pub stopped : LeadsBackFromStops (canonical (net log.commands)) set
  pub gains : Gains (log_text log.version set) before now

-- With status 0 an `undo` printed what leads back, also from an application that was stopped.
abbrev pub PrintsUndo : List Text → Outside → Outside → ℕ → Type 0
PrintsUndo words before now status =
    (file : Operand) (m : FileContents) → job_of words ≡ Some (Undo file) → before.files.contents ≡ Some m → status ≡ 0 →
    GainsUndo m.held file before.out now.out

-- ---- `catchup`

-- the set fits each tree that takes the sets one after another, and leads where they lead
abbrev pub DoesAll : List (List Change) → List Change → Type 0
DoesAll sets set = (m : Store) → IsTreeMap m → Takes (at m) (chain_list sets) →
    Fits (at m) set × (after set (at m) ≡ at (stored m (chain_list sets)))

-- the files hold logs whose net sets some tree takes one after another, and `out` gained one set that does what they do
pub record GainsCatchup (held : Names) (files : List Operand) (before now : SinkState) : Type 0 where
  pub logs : List Recorded
  pub hold : HoldLogs held files logs
  pub follow : IsTaken (chain_list (net_sets (all_commands logs)))
  pub set : List Change
  pub does : DoesAll (net_sets (all_commands logs)) set
  pub gains : Gains (log_text (latest_version logs) set) before now

-- With status 0 a `catchup` printed one set that does what the sets do one after another.
abbrev pub PrintsCatchup : List Text → Outside → Outside → ℕ → Type 0
PrintsCatchup words before now status =
    (files : List Operand) (m : FileContents) → job_of words ≡ Some (Catchup files) → before.files.contents ≡ Some m →
    status ≡ 0 → GainsCatchup m.held files before.out now.out

-- ---- `rebase`

-- The set of a side leads to the first merger of the work and of what the sets do, on each tree that takes both: for the
-- live tree from the work's result, for the next round from that of the sets.
abbrev pub LeadsFromSide : Side → List Change → List (List Change) → List Rule → List Change → Type 0
LeadsFromSide Tree work sets rules set = (merger : List Change) → IsFirstMergerFor (rebase_logs work sets) rules merger →
    (m : Store) → IsTreeMap m → Takes (at m) work → Takes (at m) (chain_list sets) →
    Fits (at (stored m work)) set × (after set (at (stored m work)) ≡ after merger (at m))
LeadsFromSide Next work sets rules set = (merger : List Change) → IsFirstMergerFor (rebase_logs work sets) rules merger →
    (m : Store) → IsTreeMap m → Takes (at m) work → Takes (at m) (chain_list sets) →
    Fits (at (stored m (chain_list sets))) set × (after set (at (stored m (chain_list sets))) ≡ after merger (at m))

-- Without rules nothing that was recorded is undone, and under `all 2` nothing of the sets: what is printed for the live
-- tree is of what the sets do, and what is printed for the next round is of the work.
abbrev pub UndoesNothing : Side → List Change → List (List Change) → List Rule → List Change → Type 0
UndoesNothing Tree work sets rules set = rules ≡ [] → IsSubset set (composition sets)
UndoesNothing Next work sets rules set = rules ≡ All 2 ∷ [] → IsSubset set (net work)

-- the files hold work and sets that some tree takes both of, and `out` gained the set of the side
pub record GainsRebase (held : Names) (side : Side) (prefs : Option Operand) (work : Operand) (files : List Operand) (before now : SinkState) : Type 0 where
  pub log : Recorded
  pub sets : List Recorded
  pub rules : List Rule
  pub hold : HoldLogs held (work ∷ files) (log ∷ sets)
  pub prefer : HoldsRules held prefs rules
  pub follow : IsTaken (chain_list (net_sets (all_commands sets)))
  pub common : HasCommonTree (rebase_logs log.commands (net_sets (all_commands sets)))
  pub set : List Change
  pub leads : LeadsFromSide side log.commands (net_sets (all_commands sets)) rules set
  pub keeps : (m : Store) → IsTreeMap m → Takes (at m) log.commands → Takes (at m) (chain_list (net_sets (all_commands sets))) →
      UndoesNothing side log.commands (net_sets (all_commands sets)) rules set
  pub gains : Gains (log_text (later_version log.version (latest_version sets)) set) before now

-- With status 0 a `rebase` printed what leads to the merger from its side.
abbrev pub PrintsRebase : List Text → Outside → Outside → ℕ → Type 0
PrintsRebase words before now status =
    (side : Side) (prefs : Option Operand) (work : Operand) (files : List Operand) (m : FileContents) →
    job_of words ≡ Some (Rebase side prefs work files) → before.files.contents ≡ Some m → status ≡ 0 →
    GainsRebase m.held side prefs work files before.out now.out

-- ---- `explain`

-- the files hold logs that some tree takes together, and `out` gained the lines of the reasons for all that the first
-- merger leaves out
pub record GainsReasons (held : Names) (prefs : Option Operand) (files : List Operand) (before now : SinkState) : Type 0 where
  pub logs : List Recorded
  pub rules : List Rule
  pub hold : HoldLogs held files logs
  pub prefer : HoldsRules held prefs rules
  pub common : HasCommonTree (all_commands logs)
  pub joint : Joined
  pub stands : StandsForAll joint (all_commands logs)
  pub merger : List Change
  pub first : IsFirstMergerFor (all_commands logs) rules merger
  pub gains : Gains (text_in (ReasonLines (reason_lines joint (canonical merger)))) before now

-- With status 0 an `explain` printed why each command is left out of the merger that `merge` prints under the same rules.
abbrev pub PrintsReasons : List Text → Outside → Outside → ℕ → Type 0
PrintsReasons words before now status =
    (prefs : Option Operand) (files : List Operand) (m : FileContents) → job_of words ≡ Some (Explain prefs files) →
    before.files.contents ≡ Some m → status ≡ 0 → GainsReasons m.held prefs files before.out now.out
