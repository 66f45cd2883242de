-- What the words do, from what they find or record, and the clauses of a run from that.
use Rattle.std.proofs.Common.{◌≡◌, ◌≤◌, ℕ, suc, List, [], ◌∷◌, length, Option, None, Some, Err, refl, sym, ap, subst, ◌∙◌}
use Rattle.sync_port.specs.Ports.{Names}
use Rattle.tool_words.specs.Jobs.{job_of}
use Rattle.tool_words.specs.Trees.{asked_folders, folder_places, job_folders}
use Rattle.tool_words.specs.Words.{Operand, Text, places_of}
use Rattle.tool_words.specs.declared.job.Job.{Job}
use Rattle.tool_words.specs.declared.job.Job.TheVariants.{Help, Replay, Canon, Conflicts, Merge, Transition, Steer, Record, Seal, Apply, Drill, Sync, Explain, Undo, Catchup, Rebase}
use Rattle.tool_words.specs.declared.job.WordFault.{WordFault}
use Rattle.tool_words.specs.declared.job.WordFault.TheVariants as word
use Rattle.treesync.specs.Completeness.{CompletesJob, IsMet}
use Rattle.treesync.specs.Ends.{Prints, Says, line_of}
use Rattle.treesync.specs.Headline.{KeepsUnready, PrintsApplied, PrintsChanges, PrintsClashes, PrintsMerger, PrintsRules, PrintsSealed, PrintsSteered, PrintsTransition, ResumesApply}
use Rattle.treesync.specs.Jobs.{Inputs, Keeps, Outside, Ran, inputs_of}
use Rattle.treesync.specs.Messages.{message_of}
use Rattle.treesync.specs.Runs.{EndsRight, IsAnswered, Runs, RunsJob, words_refusal}
use Rattle.treesync.specs.SetHeadline.{PrintsCatchup, PrintsReasons, PrintsRebase, PrintsUndo}
use Rattle.treesync.specs.declared.refusal.Refusal.{Refusal}
use Rattle.treesync.specs.declared.refusal.Refusal.TheVariants.{OutOfMemory}
use Rattle.treesync.proofs.ApplyHeadline.{keeps_unready, prints_applied, prints_changes, resumes_apply}
use Rattle.treesync.proofs.Completing.{completes_job}
use Rattle.treesync.proofs.ConflictHeadline.{says_clashes}
use Rattle.treesync.proofs.HeadlineLemmas.{prints_merger, prints_steered}
use Rattle.treesync.proofs.Recordings.{unread}
use Rattle.treesync.proofs.Syncing.{unread_round}
use Rattle.treesync.proofs.SealHeadline.{prints_sealed}
use Rattle.treesync.proofs.SetHeadlines.{prints_catchup, prints_reasons, prints_rebase, prints_undo}
use Rattle.treesync.proofs.SteerHeadline.{prints_rules}
use Rattle.treesync.proofs.TransitionHeadline.{prints_transition}
use Rattle.treesync.proofs.Words.{FindsOutput, Outcome, found_allowed, found_later, found_reads, found_trees, invalid, invalid_means, no_memory, none_failed, refused_means, seen_output, trees_later}

-- ---- jobs that find their answers

-- what such a job does is what its answer explains
module _ (words : List Text) (before now : Outside) (status : ℕ) where
  answered_job : (job : Job) → IsAnswered job → RunsJob (Some job) words before now status → Ran words before now status
  answered_job (Record folder file) answered ran = absurd answered
  answered_job (Sync prefs folders logs) answered ran = absurd answered
  answered_job Help answered ran = ran
  answered_job (Replay snap log) answered ran = ran
  answered_job (Canon log) answered ran = ran
  answered_job (Conflicts logs) answered ran = ran
  answered_job (Merge prefs logs) answered ran = ran
  answered_job (Transition number prefs logs) answered ran = ran
  answered_job (Steer set logs) answered ran = ran
  answered_job (Seal folder file) answered ran = ran
  answered_job (Apply folder file) answered ran = ran
  answered_job (Drill seed logs steps) answered ran = ran
  answered_job (Explain prefs logs) answered ran = ran
  answered_job (Undo set) answered ran = ran
  answered_job (Catchup sets) answered ran = ran
  answered_job (Rebase side prefs work sets) answered ran = ran

  runs_job : (job : Job) → IsAnswered job → Ran words before now status → RunsJob (Some job) words before now status
  runs_job (Record folder file) answered ran = absurd answered
  runs_job (Sync prefs folders logs) answered ran = absurd answered
  runs_job Help answered ran = ran
  runs_job (Replay snap log) answered ran = ran
  runs_job (Canon log) answered ran = ran
  runs_job (Conflicts logs) answered ran = ran
  runs_job (Merge prefs logs) answered ran = ran
  runs_job (Transition number prefs logs) answered ran = ran
  runs_job (Steer set logs) answered ran = ran
  runs_job (Seal folder file) answered ran = ran
  runs_job (Apply folder file) answered ran = ran
  runs_job (Drill seed logs steps) answered ran = ran
  runs_job (Explain prefs logs) answered ran = ran
  runs_job (Undo set) answered ran = ran
  runs_job (Catchup sets) answered ran = ran
  runs_job (Rebase side prefs work sets) answered ran = ran

  answered : (job : Job) → job_of words ≡ Some job → IsAnswered job → Runs words before now status → Ran words before now status
  answered job e is runs = answered_job job is (subst (λ j. RunsJob j words before now status) e runs.does)

  -- ---- the clauses of a run

  pub runs_merger : Runs words before now status → PrintsMerger words before now status
  runs_merger runs prefs files m e = prints_merger words before now status (answered (Merge prefs files) e tt runs) prefs files m e

  pub runs_transition : Runs words before now status → PrintsTransition words before now status
  runs_transition runs number prefs files m e = prints_transition words before now status (answered (Transition number prefs files) e tt runs) number prefs files m e

  pub runs_clashes : Runs words before now status → PrintsClashes words before now status
  runs_clashes runs files m e = says_clashes words before now status (answered (Conflicts files) e tt runs) files m e

  pub runs_rules : Runs words before now status → PrintsRules words before now status
  runs_rules runs file files m e = prints_rules words before now status (answered (Steer file files) e tt runs) file files m e

  pub runs_undo : Runs words before now status → PrintsUndo words before now status
  runs_undo runs file m e = prints_undo words before now status (answered (Undo file) e tt runs) file m e

  pub runs_catchup : Runs words before now status → PrintsCatchup words before now status
  runs_catchup runs files m e = prints_catchup words before now status (answered (Catchup files) e tt runs) files m e

  pub runs_rebase : Runs words before now status → PrintsRebase words before now status
  runs_rebase runs side prefs work files m e = prints_rebase words before now status (answered (Rebase side prefs work files) e tt runs) side prefs work files m e

  pub runs_reasons : Runs words before now status → PrintsReasons words before now status
  runs_reasons runs prefs files m e = prints_reasons words before now status (answered (Explain prefs files) e tt runs) prefs files m e

  pub runs_applied : Runs words before now status → PrintsApplied words before now status
  runs_applied runs folder file m set tree e = prints_applied words before now status (answered (Apply folder file) e tt runs) folder file m set tree e

  pub runs_changes : Runs words before now status → PrintsChanges words before now status
  runs_changes runs folder file e = prints_changes words before now status (answered (Apply folder file) e tt runs) folder file e

  pub runs_on : Runs words before now status → ResumesApply words before now status
  runs_on runs folder file m set start tree e = resumes_apply words before now status (answered (Apply folder file) e tt runs) folder file m set start tree e

  pub runs_unready : Runs words before now status → KeepsUnready words before now
  runs_unready runs folder file m set tree e = keeps_unready words before now status (answered (Apply folder file) e tt runs) folder file m set tree e

  pub runs_sealed : Runs words before now status → PrintsSealed words before now status
  runs_sealed runs folder file m text log tree e = prints_sealed words before now status (answered (Seal folder file) e tt runs) folder file m text log tree e

  pub runs_steered : ((job : Job) → job_of words ≡ Some job → job_folders job ≡ [] → before.trees ≡ []) → Runs words before now status → PrintsSteered words before now status
  runs_steered alone runs prefs files m logs merger e =
      prints_steered words before now status (answered (Merge prefs files) e tt runs) (λ prefs files e. alone (Merge prefs files) e refl) prefs files m logs merger e

  pub runs_complete : ((job : Job) → job_of words ≡ Some job → job_folders job ≡ [] → before.trees ≡ []) → Runs words before now status → CompletesJob words before now status
  runs_complete alone runs job m e known met = completes_job words before now status (answered job e (is_answered job m.held met) runs) alone job m e known met
    where
      is_answered : (job : Job) (held : Names) → IsMet job held → IsAnswered job
      is_answered (Record folder file) held met = absurd met
      is_answered (Sync prefs folders logs) held met = absurd met
      is_answered Help held met = tt
      is_answered (Replay snap log) held met = tt
      is_answered (Canon log) held met = tt
      is_answered (Conflicts logs) held met = tt
      is_answered (Merge prefs logs) held met = tt
      is_answered (Transition number prefs logs) held met = tt
      is_answered (Steer set logs) held met = tt
      is_answered (Seal folder file) held met = tt
      is_answered (Apply folder file) held met = tt
      is_answered (Drill seed logs steps) held met = tt
      is_answered (Explain prefs logs) held met = tt
      is_answered (Undo set) held met = tt
      is_answered (Catchup sets) held met = tt
      is_answered (Rebase side prefs work sets) held met = tt

  -- ---- an answer that was found

  module _ (found : Outcome) (finds : FindsOutput (job_of words) (inputs_of before) (inputs_of now) found) (prints : Prints (seen_output found) status before.out now.out) where
    found_ran : Says (line_of words (seen_output found) status) before.err now.err → Ran words before now status
    found_ran says = record {
      answer = seen_output found;
      allowed = found_allowed (job_of words) (inputs_of before) (inputs_of now) found finds;
      trees = found_trees (job_of words) (inputs_of before) (inputs_of now) found finds;
      prints = prints;
      says = says;
    }

    pub found_keeps : before.out.faults ≤ now.out.faults → before.err.faults ≤ now.err.faults → Keeps words before now
    found_keeps out err = record {
      files = found_later (job_of words) (inputs_of before) (inputs_of now) found finds;
      trees = trees_later (job_of words) before.files.contents (seen_output found) before.trees now.trees (found_trees (job_of words) (inputs_of before) (inputs_of now) found finds);
      out = out;
      err = err;
      reads = found_reads (job_of words) (inputs_of before) (inputs_of now) found finds;
    }

    pub found_ends : EndsRight (job_of words) before now status
    found_ends = record {
      refused = refused_means (job_of words) (inputs_of before) (inputs_of now) found status before.out now.out finds prints;
      invalid = invalid_means (job_of words) (inputs_of before) (inputs_of now) found status before.out now.out finds prints;
      done = none_failed (job_of words) (inputs_of before) (inputs_of now) found status before.out now.out finds prints;
    }

  pub job_runs : (job : Job) → job_of words ≡ Some job → IsAnswered job → (found : Outcome) → FindsOutput (job_of words) (inputs_of before) (inputs_of now) found → Prints (seen_output found) status before.out now.out →
      Says (line_of words (seen_output found) status) before.err now.err → Runs words before now status
  job_runs job e is found finds prints says = record { does = subst (λ j. RunsJob j words before now status) (sym e) (runs_job job is (found_ran found finds prints says)) }

-- ---- no job

pub no_words : (words : Option Job) (state : Inputs) (fault : WordFault) → (fault ≡ word.Refused → words ≡ None) → FindsOutput words state state (Err (words_refusal fault))
no_words words state word.Refused none = invalid words state (none refl)
no_words words state word.Memory none = no_memory words state

module _ (words : List Text) (before now : Outside) (status : ℕ) (fault : WordFault) (none : fault ≡ word.Refused → job_of words ≡ None) (same : inputs_of now ≡ inputs_of before)
    (r : Refusal) (is : r ≡ words_refusal fault) (prints_r : Prints (Err r) status before.out now.out) where
  prints : Prints (Err (words_refusal fault)) status before.out now.out
  prints = subst (λ r. Prints (Err r) status before.out now.out) is prints_r

  finds : FindsOutput (job_of words) (inputs_of before) (inputs_of now) (Err (words_refusal fault))
  finds = subst (λ state. FindsOutput (job_of words) (inputs_of before) state (Err (words_refusal fault))) (sym same) (no_words (job_of words) (inputs_of before) fault none)

  -- memory may run out before it is known that the words ask for a recording
  pub refused_runs : Says (message_of words r) before.err now.err → Runs words before now status
  refused_runs says_r = record { does = go (job_of words) refl }
    where
      says : Says (message_of words (words_refusal fault)) before.err now.err
      says = subst (λ r. Says (message_of words r) before.err now.err) is says_r

      ran : Ran words before now status
      ran = found_ran words before now status (Err (words_refusal fault)) finds prints says

      go : (job : Option Job) → job_of words ≡ job → RunsJob job words before now status
      go (Some (Record folder file)) e = unread folder file words before now status (memory fault none) same prints says
        where
          memory : (fault : WordFault) → (fault ≡ word.Refused → job_of words ≡ None) → words_refusal fault ≡ OutOfMemory
          memory word.Refused none = absurd (cc (e, none refl))
          memory word.Memory none = refl
      go (Some (Sync prefs folders logs)) e = unread_round prefs folders logs words before now status (memory fault none) same prints says
        where
          memory : (fault : WordFault) → (fault ≡ word.Refused → job_of words ≡ None) → words_refusal fault ≡ OutOfMemory
          memory word.Refused none = absurd (cc (e, none refl))
          memory word.Memory none = refl
      go None e = ran
      go (Some Help) e = ran
      go (Some (Replay snap log)) e = ran
      go (Some (Canon log)) e = ran
      go (Some (Conflicts logs)) e = ran
      go (Some (Merge prefs logs)) e = ran
      go (Some (Transition number prefs logs)) e = ran
      go (Some (Steer set logs)) e = ran
      go (Some (Seal folder file)) e = ran
      go (Some (Apply folder file)) e = ran
      go (Some (Drill seed logs steps)) e = ran
      go (Some (Explain prefs logs)) e = ran
      go (Some (Undo set)) e = ran
      go (Some (Catchup sets)) e = ran
      go (Some (Rebase side prefs work sets)) e = ran

  pub refused_keeps : before.out.faults ≤ now.out.faults → before.err.faults ≤ now.err.faults → Keeps words before now
  refused_keeps out err = found_keeps words before now status (Err (words_refusal fault)) finds prints out err

  pub refused_ends : EndsRight (job_of words) before now status
  refused_ends = found_ends words before now status (Err (words_refusal fault)) finds prints

-- a job that is no recording and no round finds its answer over one tree at most
pub answered_by : (job : Job) → ((folder file : Operand) → job ≡ Record folder file → ⊥) → ((prefs : Option Operand) (folders files : List Operand) → job ≡ Sync prefs folders files → ⊥) → IsAnswered job
answered_by (Record folder file) other round = absurd (other folder file refl)
answered_by (Sync prefs folders files) other round = absurd (round prefs folders files refl)
answered_by Help other round = tt
answered_by (Replay snap log) other round = tt
answered_by (Canon log) other round = tt
answered_by (Conflicts logs) other round = tt
answered_by (Merge prefs logs) other round = tt
answered_by (Transition number prefs logs) other round = tt
answered_by (Steer set logs) other round = tt
answered_by (Seal folder file) other round = tt
answered_by (Apply folder file) other round = tt
answered_by (Drill seed logs steps) other round = tt
answered_by (Explain prefs logs) other round = tt
answered_by (Undo set) other round = tt
answered_by (Catchup sets) other round = tt
answered_by (Rebase side prefs work sets) other round = tt

-- the words of a job have as many trees as it names folders, and those of a recording one
pub folders_of_job : (words : List Text) (job : Job) → job_of words ≡ Some job → length (folder_places words) ≡ length (job_folders job)
folders_of_job words job e = ap (λ j. length (places_of (asked_folders j))) e ∙ as_many (job_folders job)
  where
    as_many : (operands : List Operand) → length (places_of operands) ≡ length operands
    as_many [] = refl
    as_many (operand ∷ operands) = ap suc (as_many operands)

pub one_tree : (words : List Text) (job : Job) (folder file : Operand) → job_of words ≡ Some job → job ≡ Record folder file → length (folder_places words) ≡ 1
one_tree words job folder file e is = folders_of_job words job e ∙ ap (λ j. length (job_folders j)) is

pub round_trees : (words : List Text) (job : Job) (prefs : Option Operand) (folders files : List Operand) → job_of words ≡ Some job → job ≡ Sync prefs folders files → length (folder_places words) ≡ length folders
round_trees words job prefs folders files e is = folders_of_job words job e ∙ ap (λ j. length (job_folders j)) is
