-- The headline of rounds, in the words of the model: where a `sync` leads trees of which it is known what they hold,
-- whatever stops it, and when it ends.
use Rattle.std.specs.Prelude.{◌≡◌, ◌⊎◌, ℕ, List, ◌∷◌, map, Option, Some, Result}
use Rattle.sync_command.specs.Changes.{Change}
use Rattle.sync_command.specs.Maps.{Store, at}
use Rattle.sync_command.specs.Trees.{Holding, after}
use Rattle.sync_port.specs.Ports.{FileContents}
use Rattle.sync_port.specs.States.{FaultCounted}
use Rattle.tree_port.specs.States.{IsCounted, TreeState}
use Rattle.refluent.specs.CommonTrees.{IsCommonTree}
use Rattle.sync_round.specs.Rounding.{EachTree, IsPaidFor}
use Rattle.sync_round.specs.Rounds.{AreOnTheirWay, AreReady, results, round_work, targets, transitions}
use Rattle.sync_round.specs.KnownRounds.{AreHeld, holdings}
use Rattle.tool_words.specs.Jobs.{job_of}
use Rattle.tool_words.specs.Words.{Operand, Text}
use Rattle.tool_words.specs.declared.job.Job.TheVariants.{Sync}
use Rattle.treesync.specs.Checks.{Causes, IsAllowed, IsOne}
use Rattle.treesync.specs.Completeness.{HoldJoin}
use Rattle.treesync.specs.Ends.{Prints, Says, line_of}
use Rattle.treesync.specs.Headline.{Completes, Gains, all_commands}
use Rattle.treesync.specs.Jobs.{Outside}
use Rattle.treesync.specs.Merge.{IsFirstMergerFor}
use Rattle.treesync.specs.Outputs.{Output}
use Rattle.treesync.specs.Sync.{IsSync, synced_text}
use Rattle.treesync.specs.declared.refusal.Refusal.{Refusal}
use Rattle.treesync.specs.declared.refusal.Failure.TheVariants.{ReadFailed, TreeFailed, TreeDenied}

-- The words ask for a round, and the files hold what it asks for: logs that some tree takes together, and rules that name
-- what is there. Under these the merger is the first one, `tree` takes all the logs, and it is known what each of the
-- trees holds.
pub record IsRound (words : List Text) (before : Outside) (logs : List (List Change)) (merger : List Change) (tree : Store) (maps : List Store) : Type 0 where
  pub prefs : Option Operand
  pub folders : List Operand
  pub files : List Operand
  pub job : job_of words ≡ Some (Sync prefs folders files)
  pub contents : FileContents
  pub known : before.files.contents ≡ Some contents
  pub hold : HoldJoin contents.held prefs files
  pub same : logs ≡ all_commands hold.logs
  pub first : IsFirstMergerFor logs hold.rules merger
  pub common : IsCommonTree tree logs
  pub held : AreHeld before.trees maps

-- a fault of one of the trees was counted
abbrev pub IsCountedByOne : List TreeState → List TreeState → Type 0
IsCountedByOne (tree ∷ trees) (now ∷ later) = IsCounted tree.counts.faults now.counts.faults ⊎ IsCountedByOne trees later
IsCountedByOne trees later = ⊥

-- a call of a file failed only where a fault of the files was counted, and one of a tree where a tree counted one; no tree
-- that is known denies a call
abbrev pub RoundCounted : Outside → Outside → Causes
RoundCounted before now (ReadFailed word) = FaultCounted before.files now.files
RoundCounted before now (TreeFailed word) = IsCountedByOne before.trees now.trees
RoundCounted before now (TreeDenied word) = ⊥

-- one answer explains the run of a round on trees that held these maps
pub record AnswersRight (prefs : Option Operand) (folders files : List Operand) (maps : List Store) (words : List Text) (before now : Outside) (status : ℕ) : Type 0 where
  pub answer : Result Output Refusal
  pub allowed : IsAllowed (IsSync prefs folders files maps) before.files.contents (RoundCounted before now) answer
  pub prints : Prints answer status before.out now.out
  pub says : Says (line_of words answer status) before.err now.err

-- What the files and the trees hold determines the answer of a round, of which there are never two.
abbrev pub AnswersRound : List Text → Outside → Outside → ℕ → Type 0
AnswersRound words before now status =
    (prefs : Option Operand) (folders files : List Operand) (maps : List Store) → job_of words ≡ Some (Sync prefs folders files) → AreHeld before.trees maps →
    AnswersRight prefs folders files maps words before now status × IsOne (IsSync prefs folders files maps)

-- the status is one of a text or of memory that ran out, unless a fault was counted, that of a tree among them
abbrev pub CompletesOnTrees : Outside → Outside → ℕ → Type 0
CompletesOnTrees before now status = (IsCountedByOne before.trees now.trees → ⊥) → Completes before now status

-- What a run leaves of trees that are on their way from `starts` by these sets: each is still on its way, and all are at
-- their targets after a text, which has the work that was left. The changes that were counted are paid by the work.
pub record GoOn (sets : List (List Change)) (starts : List Holding) (maps : List Store) (before now : Outside) (status : ℕ) : Type 0 where
  pub stores : List Store
  pub held : AreHeld now.trees stores
  pub way : AreOnTheirWay sets starts (holdings stores)
  pub paid : EachTree IsPaidFor sets before.trees now.trees
  pub target : (status ≡ 0) ⊎ (status ≡ 4) → holdings stores ≡ targets sets starts
  pub gains : status ≡ 0 → Gains (synced_text (round_work sets (holdings maps))) before.out now.out
  pub completes : CompletesOnTrees before now status

-- An interrupted round: wherever runs with the same words that were stopped, each between any two calls of the trees,
-- left trees on their way from `starts`, where nothing else changed them, this run leaves them on their way, and all of
-- them end at the targets of `starts` unless a fault was counted or memory runs out. Trees that are ready are on their way
-- from themselves.
abbrev pub ResumesRound : List Text → Outside → Outside → ℕ → Type 0
ResumesRound words before now status =
    (logs : List (List Change)) (merger : List Change) (tree : Store) (maps : List Store) (starts : List Holding) →
    IsRound words before logs merger tree maps → AreOnTheirWay (transitions (at tree) logs merger) starts (holdings maps) →
    GoOn (transitions (at tree) logs merger) starts maps before now status

-- what a run leaves of trees that began as the results of logs on one tree: with a text all come to one result
pub record MeetAt (goal : Holding) (logs : List (List Change)) (before now : Outside) (status : ℕ) : Type 0 where
  pub stores : List Store
  pub held : AreHeld now.trees stores
  pub met : (status ≡ 0) ⊎ (status ≡ 4) → holdings stores ≡ map {B = Holding} (λ log. goal) logs
  pub completes : CompletesOnTrees before now status

-- Replicas that began together come together: where the trees are the results of the logs on one tree, or on their way
-- from these, all of them end as the merger's result on it.
abbrev pub JoinsReplicas : List Text → Outside → Outside → ℕ → Type 0
JoinsReplicas words before now status =
    (logs : List (List Change)) (merger : List Change) (tree : Store) (maps : List Store) → IsRound words before logs merger tree maps →
    (holdings maps ≡ results (at tree) logs) ⊎ AreOnTheirWay (transitions (at tree) logs merger) (results (at tree) logs) (holdings maps) →
    MeetAt (after merger (at tree)) logs before now status

-- Where not all trees are ready for the round, none of them is changed.
abbrev pub KeepsUnreadyRound : List Text → Outside → Outside → Type 0
KeepsUnreadyRound words before now =
    (logs : List (List Change)) (merger : List Change) (tree : Store) (maps : List Store) → IsRound words before logs merger tree maps →
    (AreReady (transitions (at tree) logs merger) (holdings maps) → ⊥) → AreHeld now.trees maps
