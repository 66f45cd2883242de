-- What the top call promises of a run: the headline, promise by promise.
use Rattle.std.specs.Prelude.{ℕ, List}
use Rattle.tool_words.specs.Jobs.{job_of}
use Rattle.tool_words.specs.Words.{Text}
use Rattle.treesync.specs.Completeness.{CompletesJob}
use Rattle.treesync.specs.Headline.{CarriesOutRecord, KeepsUnready, PrintsApplied, PrintsChanges, PrintsClashes, PrintsMerger, PrintsRecorded, PrintsRules, PrintsSealed, PrintsSteered, PrintsTransition, ResumesApply}
use Rattle.treesync.specs.Jobs.{Keeps, Outside}
use Rattle.treesync.specs.RoundHeadline.{AnswersRound, JoinsReplicas, KeepsUnreadyRound, ResumesRound}
use Rattle.treesync.specs.Runs.{EndsRight, Runs}
use Rattle.treesync.specs.SetHeadline.{PrintsCatchup, PrintsReasons, PrintsRebase, PrintsUndo}

-- `before` and `now` are what is known of the files, the trees, `out` and `err` around the run of these words.
pub record Promises (words : List Text) (before now : Outside) (status : ℕ) : Type 0 where
  -- what came about is explained by one answer, or by what recording or a round states of it
  pub ran : Runs words before now status
  -- no count falls, each file of the job is opened once at most and read as its limit says, and what is held stays
  pub keeps : Keeps words before now
  -- status 2 comes only with invalid arguments, which have status 2 or 16; with status 0 or 1 no call failed
  pub ends : EndsRight (job_of words) before now status
  -- where the files hold what the job asks for, it prints, unless memory ran out or a fault was counted
  pub completes : CompletesJob words before now status
  -- what `merge` prints is a merger, and each merger is what it prints under the rules that steer to it
  pub merges : PrintsMerger words before now status
  pub steers : PrintsSteered words before now status
  -- `steer` prints the rules of a merger, and `conflicts` ends with whether there is more than one
  pub rules : PrintsRules words before now status
  pub clashes : PrintsClashes words before now status
  -- what `transition` prints leads from a replica's tree to that of the merger
  pub leads : PrintsTransition words before now status
  -- each command that the merger leaves out is explained
  pub explains : PrintsReasons words before now status
  -- what leads back, what does all of several sets, and what leads to a common tree from either side
  pub undoes : PrintsUndo words before now status
  pub catches_up : PrintsCatchup words before now status
  pub rebases : PrintsRebase words before now status
  -- `apply` ends at its target, prints the changes that were counted, and goes on where it was stopped
  pub applies : PrintsApplied words before now status
  pub changes : PrintsChanges words before now status
  pub resumes : ResumesApply words before now status
  -- a tree that is not ready stays as it is
  pub unready : KeepsUnready words before now
  -- what `record` leaves of the log and of the tree, and what it leaves of the tree whatever is known of `out`
  pub records : PrintsRecorded words before now status
  pub carries_out : CarriesOutRecord words before now status
  -- what `seal` prints of a log that was left open
  pub seals : PrintsSealed words before now status
  -- one answer of a round is right; a round goes on where it was stopped, and ends with all replicas alike
  pub rounds : AnswersRound words before now status
  pub syncs : ResumesRound words before now status
  pub joins : JoinsReplicas words before now status
  -- no tree of a round is changed where one is not ready
  pub unready_round : KeepsUnreadyRound words before now
