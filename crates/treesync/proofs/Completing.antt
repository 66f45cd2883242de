-- Where the files hold what a job asks for, the job has a text, and prints it.
use Rattle.std.proofs.Common.{◌≡◌, ◌-◌, ◌≤◌, ◌<◌, true, false, ℕ, zero, suc, List, [], ◌∷◌, length, Option, None, Some, Ok, Err, inl, inr, refl, sym, ap, subst, ◌∙◌, arith, ◌⊎◌}
use Rattle.std.proofs.lemmas.List.Sums.{sum_by-cons}
use Rattle.sync_command.specs.Changes.{Change}
use Rattle.sync_command.specs.Maps.{at, stored}
use Rattle.sync_port.specs.States.{FaultCounted}
use Rattle.sync_port.specs.Ports.{FileContents, Names}
use Rattle.apply_model.specs.Entries.{rows_of, store_of}
use Rattle.canon_set.specs.Logs.{IsTaken, all_change, net}
use Rattle.canon_set.specs.Sets.{canonical}
use Rattle.log_text.specs.Logs.{log_text}
use Rattle.log_text.specs.Snapshots.{snapshot_text}
use Rattle.refluent.specs.CommonTrees.{AllChange, HasCommonTree, IsAmong}
use Rattle.refluent.specs.FirstDisagreements.{log_at}
use Rattle.refluent.specs.Joints.{net_sets}
use Rattle.pref_list.specs.Orders.{first_fault}
use Rattle.pref_list.specs.Ranking.{ranking}
use Rattle.pref_list.specs.declared.rules.Rule.{Rule}
use Rattle.merge_core.specs.Conflicts.{greedy_scan}
use Rattle.merge_core.proofs.CallerLemmas.{greedy_law}
use Rattle.transition.specs.Transitions.{transition}
use Rattle.transition.proofs.CallerLemmas.{law_of_each_tree}
use Rattle.tool_words.specs.Jobs.{job_of}
use Rattle.tool_words.specs.Help.{help_text}
use Rattle.tool_words.specs.LogCounts.{HasFewLogs}
use Rattle.tool_words.specs.Trees.{job_folders}
use Rattle.tool_words.specs.Words.{Operand, Text}
use Rattle.tool_words.specs.declared.job.Job.{Job}
use Rattle.tool_words.specs.declared.job.Job.TheVariants.{Help, Replay, Canon, Conflicts, Merge, Transition, Steer, Record, Seal, Apply, Drill, Sync, Explain, Undo, Catchup, Rebase}
use Rattle.tool_words.proofs.CallerLemmas.{few_logs}
use Rattle.std.specs.List.{AllByRecursion}
use Rattle.rounds.specs.Compositions.{chain_list, composition, undoing}
use Rattle.rounds.specs.Rebasing.{rebase_logs}
use Rattle.rounds.proofs.CallerLemmas.{all_change-canonical}
use Rattle.tool_words.specs.declared.job.Side.{Side}
use Rattle.tool_words.specs.declared.job.Side.TheVariants.{Tree, Next as NextRound}
use Rattle.treesync.specs.Canon.{IsCanon}
use Rattle.treesync.specs.Catchup.{IsCatchup, IsComposed, nets_of}
use Rattle.treesync.specs.Checks.{Check, IsOne, Judged}
use Rattle.treesync.specs.Completeness.{CompletesJob, HoldChain, HoldJoin, HoldRebase, HoldReplay, HoldsTaken, IsMet, IsPrintedStatus}
use Rattle.treesync.specs.Conflicts.{IsConflicts}
use Rattle.treesync.specs.Drill.{IsDrill}
use Rattle.treesync.specs.Explain.{AreReasons, IsExplain}
use Rattle.treesync.specs.Headline.{HoldLogs, HoldTexts, Recorded, all_commands, text_of}
use Rattle.treesync.specs.Jobs.{IsAnswerOf, Outside, Ran, held_tree}
use Rattle.treesync.specs.Joining.{AreTaken, IsJoined, IsLogs, commands_of, joint_version}
use Rattle.treesync.specs.Logs.{IsLog, ReadLog, later_version}
use Rattle.treesync.specs.Merge.{IsFirstMergerFor, IsMerge, IsMergerText}
use Rattle.treesync.specs.Outputs.{AsText, Output, status_in}
use Rattle.treesync.specs.Preferences.{preference_word}
use Rattle.treesync.specs.Rebase.{IsRebase, IsRebaseOf, IsRebased, as_logs, side_number}
use Rattle.treesync.specs.Replay.{IsReplay}
use Rattle.treesync.specs.Steer.{IsSteer}
use Rattle.treesync.specs.Transition.{IsTransition, IsTransitionFor, IsTransitioned}
use Rattle.treesync.specs.Undo.{IsUndo}
use Rattle.treesync.specs.declared.input.TheConstants.{FILE_LIMIT}
use Rattle.treesync.specs.declared.logs.TheConstants.{FULL_ALLOWANCE, MAX_COMMANDS}
use Rattle.treesync.specs.declared.refusal.Refusal.{Refusal}
use Rattle.treesync.proofs.MergedLogs.{refused_as}
use Rattle.treesync.proofs.HeadlineLemmas.{completes_of, job_answer, joined_read, merge_right, no_calls, text_completes}
use Rattle.treesync.proofs.HeldLogs.{all_change_held, log_read, logs_read, ok_is, ok_no_err, preferences_read, read_of, reads_of, same_commands, snapshot_read}
use Rattle.treesync.proofs.OutputLemmas.{as_text, low_status}
use Rattle.treesync.proofs.SteerHeadline.{right_rules}
use Rattle.treesync.proofs.Unique.{canon_one, catchup_one, joined_one, logs_one, merge_one, rebase_one, replay_one, steer_one, transition_one, undo_one}

-- ---- one log

held_log_read : (held : Names) (file : Operand) (log : Recorded) → HoldLogs held (file ∷ []) (log ∷ []) → IsLog FULL_ALLOWANCE file.place file.text held false (Ok (read_of log))
held_log_read held file log h = log_read held FULL_ALLOWANCE file log h.texts.0 h.texts.1 bytes commands
  where
    bytes : length (text_of log) ≤ FILE_LIMIT
    bytes = let b = sum_by-cons (λ (l : Recorded). length (text_of l)) log [] in let w = h.bytes in omega (arith, b, w)

    commands : length log.commands ≤ MAX_COMMANDS
    commands = let k = sum_by-cons (λ (l : Recorded). length l.commands) log [] in let w = h.commands in omega (arith, k, w)

canon_right : (held : Names) (file : Operand) → HoldsTaken held file → (text : List ℕ) × IsCanon file.place file.text held false (Ok text)
canon_right held file h = (
  log_text h.log.version (canonical (net h.log.commands)),
  inr (read_of h.log, held_log_read held file h.log h.hold, (h.taken, refl)),
)

replay_right : (held : Names) (snap file : Operand) → HoldReplay held snap file → (text : List ℕ) × IsReplay snap.place snap.text file.place file.text held false (Ok text)
replay_right held snap file h = (
  snapshot_text (later_version h.version h.log.version) (rows_of (stored (store_of h.rows) h.log.commands)),
  inr ((h.version, h.rows), snapshot_read held snap h.version h.rows h.text h.is h.bytes, inr (read_of h.log, held_log_read held file h.log h.hold, (h.takes, refl))),
)

-- ---- a transition

among_at : (logs : List (List Change)) (i : ℕ) → i < length logs → IsAmong (log_at logs i) logs
among_at [] i low = absurd (omega arith)
among_at (log ∷ logs) zero low = inl refl
among_at (log ∷ logs) (suc i) low = inr (among_at logs i (omega arith))

as_many : (held : Names) (files : List Operand) (logs : List Recorded) → HoldTexts held files logs → length logs ≡ length files
as_many held [] [] h = refl
as_many held [] (log ∷ logs) h = absurd h
as_many held (file ∷ files) [] h = absurd h
as_many held (file ∷ files) (log ∷ logs) h = ap suc (as_many held files logs h.2)

many_commands : (logs : List Recorded) → length (all_commands logs) ≡ length logs
many_commands [] = refl
many_commands (log ∷ logs) = ap suc (many_commands logs)

-- the first merger of logs, and the transition of one of them
module _ (logs : List (List Change)) (change : AllChange logs) (common : HasCommonTree logs) (rules : List Rule) (number : ℕ) (within : number - 1 < length logs) where
  abbrev merger : List Change
  merger = greedy_scan (ranking logs rules) []

  pub first : IsFirstMergerFor logs rules merger
  first t tree = greedy_law logs change t tree rules

  abbrev set : List Change
  set = canonical (transition (at common.map) (net (log_at logs (number - 1))) merger)

  set_is : IsTransitionFor logs number merger set
  set_is m tree = ap canonical (law_of_each_tree logs change common.map m common.common tree (log_at logs (number - 1)) (among_at logs (number - 1) within) merger (first m tree).merger.within)

-- the transition of one of the logs that were read
transitioned : (number : ℕ) (word : ℕ) (rules : List Rule) (reads : List ReadLog) → AllChange (commands_of reads) → HasCommonTree (commands_of reads) → number - 1 < length (commands_of reads) →
    first_fault (net_sets (commands_of reads)) rules ≡ None → (text : List ℕ) × IsTransitioned number word rules reads (Ok text)
transitioned number word rules reads change common within named = (
  log_text (joint_version reads) (set (commands_of reads) change common rules number within),
  inr (
    reads,
    (refl, named),
    (merger (commands_of reads) change common rules number within, set (commands_of reads) change common rules number within, first (commands_of reads) change common rules number within, set_is (commands_of reads) change common rules number within, refl),
  ),
)

module _ (held : Names) (number : ℕ) (prefs : Option Operand) (files : List Operand) (h : HoldJoin held prefs files) (low : 0 < number) (high : number ≤ length files) where
  abbrev these : List ReadLog
  these = reads_of h.logs

  abbrev AreMerged : List (List Change) → Type 0
  AreMerged l = AllChange l × HasCommonTree l × (number - 1 < length l) × (first_fault (net_sets l) h.rules ≡ None)

  within : number - 1 < length (all_commands h.logs)
  within = let n = as_many held files h.logs h.hold.texts in let k = many_commands h.logs in omega (arith, n, k, low, high)

  are_merged : AreMerged (commands_of these)
  are_merged = subst AreMerged (sym (same_commands h.logs)) (all_change_held held files h.logs h.hold.texts, h.common, within, h.named)

  transition_right : (text : List ℕ) × IsTransition number prefs files held false (Ok text)
  transition_right =
      let found = transitioned number (preference_word prefs) h.rules these are_merged.0 are_merged.1 are_merged.2 are_merged.3 in (
        found.0,
        inr (
          h.rules,
          preferences_read held prefs h.rules h.prefer,
          inr (these, logs_read held files h.logs FULL_ALLOWANCE h.hold.texts h.hold.bytes h.hold.commands, inr (these, joined_read files h.logs h.common, found.1)),
        ),
      )

-- ---- sets

undo_right : (held : Names) (file : Operand) → HoldsTaken held file → (text : List ℕ) × IsUndo file.place file.text held false (Ok text)
undo_right held file h = (
  log_text h.log.version (undoing h.log.commands),
  inr (read_of h.log, held_log_read held file h.log h.hold, inr (canonical (net h.log.commands), (h.taken, refl), refl)),
)

each_read : (sets : List Recorded) → AllByRecursion (λ (set : Recorded). IsTaken set.commands) sets → AreTaken (reads_of sets)
each_read [] h = tt
each_read (set ∷ sets) h = (h.0, each_read sets h.1)

-- what they do one after another
composed_right : (files : List Operand) (sets : List Recorded) → IsTaken (chain_list (net_sets (all_commands sets))) → IsComposed files (nets_of (reads_of sets)) (Ok (canonical (composition (nets_of (reads_of sets)))))
composed_right files sets follow = (subst (λ l. IsTaken (chain_list (net_sets l))) (sym (same_commands sets)) follow, refl)

catchup_right : (held : Names) (files : List Operand) → HoldChain held files → (text : List ℕ) × IsCatchup files held false (Ok text)
catchup_right held files h = (
  log_text (joint_version (reads_of h.sets)) (canonical (composition (nets_of (reads_of h.sets)))),
  inr (
    reads_of h.sets,
    logs_read held files h.sets FULL_ALLOWANCE h.hold.texts h.hold.bytes h.hold.commands,
    inr (reads_of h.sets, (refl, each_read h.sets h.each), inr (canonical (composition (nets_of (reads_of h.sets))), composed_right files h.sets h.follow, refl)),
  ),
)

module _ (held : Names) (side : Side) (prefs : Option Operand) (work : Operand) (files : List Operand) (h : HoldRebase held prefs work files) where
  abbrev nets : List (List Change)
  nets = net_sets (all_commands h.sets)

  abbrev logs : List ReadLog
  logs = as_logs (read_of h.log) (reads_of h.sets) (canonical (composition (nets_of (reads_of h.sets))))

  logs_are : commands_of logs ≡ rebase_logs h.log.commands nets
  logs_are = ap (λ l. h.log.commands ∷ (canonical (composition (net_sets l)) ∷ [])) (same_commands h.sets)

  abbrev AreRebased : List (List Change) → Type 0
  AreRebased l = AllChange l × HasCommonTree l × (side_number side - 1 < length l) × (first_fault (net_sets l) h.rules ≡ None)

  work_changes : all_change h.log.commands ≡ true
  work_changes = all_change_held held (work ∷ files) (h.log ∷ h.sets) h.hold.texts h.log.commands (inl refl)

  logs_change : AllChange (rebase_logs h.log.commands nets)
  logs_change log (inl is) = subst (λ l. all_change l ≡ true) (sym is) work_changes
  logs_change log (inr (inl is)) = subst (λ l. all_change l ≡ true) (sym is) (all_change-canonical (chain_list nets))
  logs_change log (inr (inr none)) = absurd none

  two : (side : Side) → side_number side - 1 < 2
  two Tree = omega arith
  two NextRound = omega arith

  are_rebased : AreRebased (commands_of logs)
  are_rebased = subst AreRebased (sym logs_are) (logs_change, h.common, two side, h.named)

  work_taken : IsTaken h.log.commands
  work_taken = record { map = h.common.map; tree = h.common.common.tree; takes = h.common.common.takes h.log.commands (inl refl) }

  abbrev Rest : ReadLog → List ReadLog → List ℕ → Type 0
  Rest read reads text = IsRebased side (preference_word prefs) h.rules work.place files read reads (Ok text)

  rebase_right : (text : List ℕ) × IsRebase side prefs work files held false (Ok text)
  rebase_right =
      let read = logs_read held (work ∷ files) (h.log ∷ h.sets) FULL_ALLOWANCE h.hold.texts h.hold.bytes h.hold.commands in
      let found = transitioned (side_number side) (preference_word prefs) h.rules logs are_rebased.0 are_rebased.1 are_rebased.2 are_rebased.3 in (
        found.0,
        inr (
          h.rules,
          preferences_read held prefs h.rules h.prefer,
          of_read (found.0) read (
              inr (
                read_of h.log,
                (refl, work_taken),
                inr (
                  reads_of h.sets,
                  (refl, each_read h.sets h.each),
                  inr (
                    canonical (composition (nets_of (reads_of h.sets))),
                    composed_right files h.sets h.follow,
                    inr (logs, (refl, are_rebased.1), found.1),
                  ),
                ),
              )),
        ),
      )
    where
      of_read : (text : List ℕ) → IsLogs FULL_ALLOWANCE (work ∷ files) held false (Ok (read_of h.log ∷ reads_of h.sets)) → Rest (read_of h.log) (reads_of h.sets) text →
          IsRebaseOf side (preference_word prefs) h.rules work files held false (Ok text)
      of_read text (inl r) rest = absurd (ok_no_err r.2)
      of_read text (inr (read, p, inl r)) rest = absurd (ok_no_err r.2)
      of_read text (inr (read, p, inr (reads, q, e))) rest =
          let same : ◌≡◌ {A = List ReadLog} (read_of h.log ∷ reads_of h.sets) (read ∷ reads) = ok_is e in
          let first : read_of h.log ≡ read = cc (same) in
          let others : reads_of h.sets ≡ reads = cc (same) in
          inr (read, p, inr (reads, q, subst (λ r. Rest r reads text) first (subst (λ rs. Rest (read_of h.log) rs text) others rest)))

-- ---- clashes

no_clash_refusal : (held : Names) (files : List Operand) (r : Refusal) → HoldJoin held None files → IsConflicts files held false (Err r) → ⊥
no_clash_refusal held files r h (inl (s, l, e)) = ok_no_err (logs_one FULL_ALLOWANCE files held (Ok (reads_of h.logs)) (Err s) (logs_read held files h.logs FULL_ALLOWANCE h.hold.texts h.hold.bytes h.hold.commands) l)
no_clash_refusal held files r h (inr (reads, l, inl (s, j, e))) =
    let same = ok_is (logs_one FULL_ALLOWANCE files held (Ok reads) (Ok (reads_of h.logs)) l (logs_read held files h.logs FULL_ALLOWANCE h.hold.texts h.hold.bytes h.hold.commands)) in
    ok_no_err (joined_one files (reads_of h.logs) (Ok (reads_of h.logs)) (Err s) (joined_read files h.logs h.common) (subst (λ l. IsJoined files l (Err s)) same j))
no_clash_refusal held files r h (inr (reads, l, inr (joined, j, never))) = never

-- ---- reasons

no_reason_refusal : (held : Names) (prefs : Option Operand) (files : List Operand) (r : Refusal) → HoldJoin held prefs files → IsExplain prefs files held false (Err r) → ⊥
no_reason_refusal held prefs files r h e =
    let right = merge_right held prefs files h in
    ok_no_err (merge_one prefs files held (Ok right.0) (Err r) right.1 (refused_as AreReasons IsMergerText prefs files held false r (λ rules reads h. h) e))

-- they are printed with status 0
explained_status : (held : Names) (prefs : Option Operand) (files : List Operand) (output : Output) → IsExplain prefs files held false (Ok output) → status_in output ≡ 0
explained_status held prefs files output (inl h) = absurd (ok_no_err h.2)
explained_status held prefs files output (inr (rules, p, inl h)) = absurd (ok_no_err h.2)
explained_status held prefs files output (inr (rules, p, inr (reads, l, inl h))) = absurd (ok_no_err h.2)
explained_status held prefs files output (inr (rules, p, inr (reads, l, inr (joined, j, inl h)))) = absurd (ok_no_err h.2)
explained_status held prefs files output (inr (rules, p, inr (reads, l, inr (joined, j, inr (same, s, a))))) = ap status_in a.4

-- ---- each job

module _ (words : List Text) (before now : Outside) (status : ℕ) (ran : Ran words before now status) (alone : before.trees ≡ []) (m : FileContents) (known : before.files.contents ≡ Some m)
    (files_quiet : FaultCounted before.files now.files → ⊥) (out_quiet : FaultCounted before.out now.out → ⊥) where
  prints_text : (job : Job) (P : Check (List ℕ)) → job_of words ≡ Some job → IsAnswerOf (Some job) (held_tree before.trees) ≡ AsText P → IsOne P → (text : List ℕ) × P m.held false (Ok text) → (status ≡ 0) ⊎ (status ≡ 16)
  prints_text job P e is one right =
      text_completes words before now status ran m P one
      (λ answer h. subst (λ (C : Check Output). C m.held false answer) is (job_answer words job (held_tree before.trees) m.held answer e h)) known right.0 right.1 (no_calls before now alone files_quiet) out_quiet

  lists_clashes : (files : List Operand) → job_of words ≡ Some (Conflicts files) → HoldJoin m.held None files → (status ≤ 1) ⊎ (status ≡ 16)
  lists_clashes files e h =
      by (completes_of words before now status ran m (IsConflicts files) (λ answer a. job_answer words (Conflicts files) (held_tree before.trees) m.held answer e a) known (λ r. no_clash_refusal m.held files r h) (no_calls before now alone files_quiet) out_quiet)
    where
      by : ((output : Output) × IsConflicts files m.held false (Ok output) × (status ≡ status_in output)) ⊎ (status ≡ 16) → (status ≤ 1) ⊎ (status ≡ 16)
      by (inl (output, a, z)) = inl (omega (arith, z, low_status output))
      by (inr z) = inr z

  lists_reasons : (prefs : Option Operand) (files : List Operand) → job_of words ≡ Some (Explain prefs files) → HoldJoin m.held prefs files → (status ≡ 0) ⊎ (status ≡ 16)
  lists_reasons prefs files e h =
      by (completes_of words before now status ran m (IsExplain prefs files) (λ answer a. job_answer words (Explain prefs files) (held_tree before.trees) m.held answer e a) known (λ r. no_reason_refusal m.held prefs files r h) (no_calls before now alone files_quiet) out_quiet)
    where
      by : ((output : Output) × IsExplain prefs files m.held false (Ok output) × (status ≡ status_in output)) ⊎ (status ≡ 16) → (status ≡ 0) ⊎ (status ≡ 16)
      by (inl (output, a, z)) = inl (z ∙ explained_status m.held prefs files output a)
      by (inr z) = inr z

  sums_up : (seed logs steps : ℕ) → job_of words ≡ Some (Drill seed logs steps) → (status ≡ 0) ⊎ (status ≡ 16)
  sums_up seed logs steps e =
      by (completes_of words before now status ran m (AsText (IsDrill seed logs steps)) (λ answer a. job_answer words (Drill seed logs steps) (held_tree before.trees) m.held answer e a) known no_refusal (no_calls before now alone files_quiet) out_quiet)
    where
      no_refusal : (r : Refusal) → AsText (IsDrill seed logs steps) m.held false (Err r) → ⊥
      no_refusal r (inl h) = h.1
      no_refusal r (inr h) = ok_no_err (sym h.2)

      by : ((output : Output) × AsText (IsDrill seed logs steps) m.held false (Ok output) × (status ≡ status_in output)) ⊎ (status ≡ 16) → (status ≡ 0) ⊎ (status ≡ 16)
      by (inl (output, a, z)) = let text = as_text (IsDrill seed logs steps) m.held output a in inl (z ∙ ap status_in text.2)
      by (inr z) = inr z

  of_job : (job : Job) → job_of words ≡ Some job → HasFewLogs job → IsMet job m.held → IsPrintedStatus job status ⊎ (status ≡ 16)
  of_job Help e few h = prints_text Help (Judged (λ answer. answer ≡ Ok help_text)) e refl (λ held one other p q. p ∙ sym q) (help_text, refl)
  of_job (Replay snap log) e few h = prints_text (Replay snap log) (IsReplay snap.place snap.text log.place log.text) e refl (replay_one snap.place snap.text log.place log.text) (replay_right m.held snap log h)
  of_job (Canon log) e few h = prints_text (Canon log) (IsCanon log.place log.text) e refl (canon_one log.place log.text) (canon_right m.held log h)
  of_job (Conflicts files) e few h = lists_clashes files e h
  of_job (Merge prefs files) e few h = prints_text (Merge prefs files) (IsMerge prefs files) e refl (merge_one prefs files) (merge_right m.held prefs files h)
  of_job (Transition number prefs files) e few h = prints_text (Transition number prefs files) (IsTransition number prefs files) e refl (transition_one number prefs files) (transition_right m.held number prefs files h few.0.0 few.0.1)
  of_job (Steer file files) e few h = prints_text (Steer file files) (IsSteer file files) e refl (steer_one file files) (_, right_rules m.held file files h.set h.logs h.holds h.hold h.taken h.common h.is)
  of_job (Record folder file) e few h = absurd h
  of_job (Seal folder file) e few h = absurd h
  of_job (Apply folder file) e few h = absurd h
  of_job (Sync prefs folders files) e few h = absurd h
  of_job (Drill seed logs steps) e few h = sums_up seed logs steps e
  of_job (Explain prefs files) e few h = lists_reasons prefs files e h
  of_job (Undo file) e few h = prints_text (Undo file) (IsUndo file.place file.text) e refl (undo_one file.place file.text) (undo_right m.held file h)
  of_job (Catchup files) e few h = prints_text (Catchup files) (IsCatchup files) e refl (catchup_one files) (catchup_right m.held files h)
  of_job (Rebase side prefs work files) e few h = prints_text (Rebase side prefs work files) (IsRebase side prefs work files) e refl (rebase_one side prefs work files) (rebase_right m.held side prefs work files h)

pub completes_job : (words : List Text) (before now : Outside) (status : ℕ) → Ran words before now status → ((job : Job) → job_of words ≡ Some job → job_folders job ≡ [] → before.trees ≡ []) → CompletesJob words before now status
completes_job words before now status ran alone job m e known met files_quiet out_quiet = by job e met
  where
    by : (job : Job) → job_of words ≡ Some job → IsMet job m.held → IsPrintedStatus job status ⊎ (status ≡ 16)
    by (Record folder file) f h = absurd h
    by (Seal folder file) f h = absurd h
    by (Apply folder file) f h = absurd h
    by (Sync prefs folders files) f h = absurd h
    by (Drill seed logs steps) f h = of_job words before now status ran (alone (Drill seed logs steps) f refl) m known files_quiet out_quiet (Drill seed logs steps) f (few_logs words (Drill seed logs steps) f) h
    by (Explain prefs files) f h = of_job words before now status ran (alone (Explain prefs files) f refl) m known files_quiet out_quiet (Explain prefs files) f (few_logs words (Explain prefs files) f) h
    by (Undo file) f h = of_job words before now status ran (alone (Undo file) f refl) m known files_quiet out_quiet (Undo file) f (few_logs words (Undo file) f) h
    by (Catchup files) f h = of_job words before now status ran (alone (Catchup files) f refl) m known files_quiet out_quiet (Catchup files) f (few_logs words (Catchup files) f) h
    by (Rebase side prefs work files) f h =
        of_job words before now status ran (alone (Rebase side prefs work files) f refl) m known files_quiet out_quiet (Rebase side prefs work files) f (few_logs words (Rebase side prefs work files) f) h
    by Help f h = of_job words before now status ran (alone Help f refl) m known files_quiet out_quiet Help f (few_logs words Help f) h
    by (Replay snap log) f h = of_job words before now status ran (alone (Replay snap log) f refl) m known files_quiet out_quiet (Replay snap log) f (few_logs words (Replay snap log) f) h
    by (Canon log) f h = of_job words before now status ran (alone (Canon log) f refl) m known files_quiet out_quiet (Canon log) f (few_logs words (Canon log) f) h
    by (Conflicts files) f h = of_job words before now status ran (alone (Conflicts files) f refl) m known files_quiet out_quiet (Conflicts files) f (few_logs words (Conflicts files) f) h
    by (Merge prefs files) f h = of_job words before now status ran (alone (Merge prefs files) f refl) m known files_quiet out_quiet (Merge prefs files) f (few_logs words (Merge prefs files) f) h
    by (Transition number prefs files) f h =
        of_job words before now status ran (alone (Transition number prefs files) f refl) m known files_quiet out_quiet (Transition number prefs files) f (few_logs words (Transition number prefs files) f) h
    by (Steer file files) f h = of_job words before now status ran (alone (Steer file files) f refl) m known files_quiet out_quiet (Steer file files) f (few_logs words (Steer file files) f) h
