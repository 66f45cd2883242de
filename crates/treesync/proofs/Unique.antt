-- What the words and the held bytes determine is one answer: each check has at most one, and so have two checks one after another.
use Rattle.std.proofs.Common.{◌≡◌, ◌⊎◌, Bool, ℕ, zero, suc, true, false, ◌-◌, ◌<◌, ◌≤◌, List, [], ◌∷◌, length, take, slice_get, Option, Some, None, Result, Ok, Err, inl, inr, refl, sym, ap, subst, ◌∙◌, arith}
use Rattle.std.proofs.lemmas.Bool.Decides.{nat_tests}
use Rattle.sync_command.specs.declared.commands.Row.{Row}
use Rattle.sync_command.specs.Changes.{Change}
use Rattle.sync_command.specs.Maps.{Store, at}
use Rattle.sync_command.specs.Trees.{Holding, IsApplicable, Takes, command_at, one_each, put, result_of}
use Rattle.apply_model.specs.Entries.{store_of}
use Rattle.apply_model.specs.Replays.{IsRefused}
use Rattle.sync_path.specs.Paths.{Node, comes_before, parts, same_path}
use Rattle.sync_path.proofs.CallerLemmas.{before_total, both, same_path_is, same_path_refl}
use Rattle.canon_set.specs.Sets.{canonical}
use Rattle.canon_set.proofs.CallerLemmas.{net_fits, one_each-canonical}
use Rattle.log_text.specs.Logs.{log_of, log_text}
use Rattle.refluent.specs.CommonTrees.{AllChange, HasCommonTree}
use Rattle.refluent.specs.Drawn.{drawn_commands}
use Rattle.refluent.specs.FirstDisagreements.{IsFirstDisagreement, log_at, pair_before}
use Rattle.refluent.specs.Sets.{HaveSameCommands}
use Rattle.pref_list.specs.Prefs.{prefs_of}
use Rattle.pref_list.specs.Ranking.{ranking}
use Rattle.pref_list.specs.declared.rules.Rule.{Rule}
use Rattle.pref_list.proofs.CallerLemmas.{drawn_ranked}
use Rattle.merge_core.specs.FirstMergers.{IsFirstMerger}
use Rattle.merge_core.specs.declared.checking.Verdict.{Verdict}
use Rattle.merge_core.specs.declared.checking.Verdict.TheVariants as verdict
use Rattle.merge_core.proofs.CallerLemmas.{one_first}
use Rattle.tool_words.specs.Words.{Operand}
use Rattle.sync_command.specs.declared.values.Version.{Version}
use Rattle.log_text.specs.Snapshots.{snapshot_of}
use Rattle.canon_set.specs.Logs.{IsTaken, net}
use Rattle.tool_words.specs.declared.job.Job.{Job}
use Rattle.tool_words.specs.declared.job.Job.TheVariants.{Help, Replay, Canon, Conflicts, Merge, Transition, Steer, Record, Seal, Apply, Drill, Sync, Explain, Undo, Catchup, Rebase}
use Rattle.tool_words.specs.Jobs.{job_of}
use Rattle.sync_port.specs.Ports.{Names}
use Rattle.treesync.specs.Checks.{Check, IsOne, Judged, Next, Then}
use Rattle.treesync.specs.Canon.{IsCanon, IsNet}
use Rattle.treesync.specs.Joining.{AllTaken, AreTaken, EachTaken, IsFirstUntaken, IsJoined, IsLogs, commands_of, joint_version, left_after}
use Rattle.refluent.specs.Joints.{Joined}
use Rattle.tool_words.specs.Help.{help_text}
use Rattle.treesync.specs.Conflicts.{AreClashes, IsConflicts, clash_lines}
use Rattle.treesync.specs.Outputs.{AsText, ClashLines, Output, ReasonLines, WholeText}
use Rattle.treesync.specs.Sync.{AreMergedLogs, IsMergedBy, IsSync, IsSynced, Merged, round_answer}
use Rattle.sync_round.specs.Rounds.{transitions}
use Rattle.sync_round.proofs.CallerLemmas.{one_answer, one_transitions}
use Rattle.treesync.proofs.BrokenLogs.{broken_once, first_failing, not_broken, taken_prefix, taken_shorter, takes_prefix, takes_shorter}
use Rattle.treesync.proofs.DrillSummaries.{one_drill_text}
use Rattle.treesync.proofs.SealedOnce.{sealing_once}
use Rattle.treesync.proofs.JointNodes.{one_joint}
use Rattle.treesync.proofs.SameSets.{one_list, same_at}
use Rattle.treesync.specs.Catchup.{IsCatchup, IsCaughtUp, IsComposed, nets_of, word_of}
use Rattle.treesync.specs.Explain.{AreReasons, IsExplain, reason_lines}
use Rattle.treesync.specs.Merge.{IsFirstMergerFor, IsMerge, IsMergerText}
use Rattle.treesync.specs.Merging.{OfLogs, OfMerging, UnderRules}
use Rattle.treesync.specs.Rebase.{IsRebase, IsRebaseOf, IsRebased, IsTakenWork, as_logs, side_number}
use Rattle.treesync.specs.Undo.{IsUndo, IsUndoing}
use Rattle.rounds.specs.Compositions.{inverse_set}
use Rattle.rounds.proofs.CallerLemmas.{stop_law, stop_once_law}
use Rattle.tool_words.specs.declared.job.Side.{Side}
use Rattle.treesync.specs.Preferences.{ArePreferences, RulesHold, preference_word, rule_refusal}
use Rattle.treesync.specs.Transition.{IsTransition, IsTransitioned, IsTransitionText}
use Rattle.transition.proofs.CallerLemmas.{canonical_merger}
use Rattle.treesync.specs.Drill.{IsDrill, IsDrillOf}
use Rattle.record_core.specs.Scripts.{script_of}
use Rattle.treesync.specs.Record.{IsRecord, IsRecordedText, IsScript}
use Rattle.treesync.specs.Seal.{IsSeal, IsSealedOver}
use Rattle.treesync.specs.Steer.{IsNetSet, IsSteer, IsSteered, IsSteering, RefusesBy}
use Rattle.treesync.proofs.HeldLogs.{all_change_held, held_logs, same_commands}
use Rattle.treesync.proofs.OneVerdict.{one_verdict}
use Rattle.treesync.specs.declared.preferences.TheConstants.{PREFS_LIMIT}
use Rattle.treesync.specs.Files.{IsFile, IsSnapshot, text_answer}
use Rattle.treesync.specs.Logs.{IsLog, ReadLog, log_answer}
use Rattle.treesync.specs.declared.input.TheConstants.{FILE_LIMIT}
use Rattle.treesync.specs.declared.logs.Allowance.{Allowance}
use Rattle.treesync.specs.declared.logs.TheConstants.{FULL_ALLOWANCE}
use Rattle.treesync.specs.Jobs.{IsAnswer, IsAnswerOf, IsJobAnswer}
use Rattle.treesync.specs.Replay.{IsAfter, IsRefusedAt, IsReplay}
use Rattle.treesync.specs.declared.refusal.Refusal.{Refusal}
use Rattle.treesync.specs.Apply.{IsApplied, IsAppliedTo, IsApply, IsSetOf}
use Rattle.resume_apply.specs.Ready.{IsReady, is_ready_value}
use Rattle.resume_apply.specs.Preparing.{IsBlocked, IsFirstBlocked, first_diverged}
use Rattle.std.specs.Prelude.{if◌then◌else◌, is_none}

-- ---- checks one after another

module _ {A : Type 0} where
  ok_same : {a b : A} → ◌≡◌ {A = Result A Refusal} (Ok a) (Ok b) → a ≡ b
  ok_same e = cc

  err_same : {r s : Refusal} → ◌≡◌ {A = Result A Refusal} (Err r) (Err s) → r ≡ s
  err_same e = cc

  ok_not_err : {a : A} {r : Refusal} → ◌≡◌ {A = Result A Refusal} (Ok a) (Err r) → ⊥
  ok_not_err e = cc

-- a check that names its answer
named_one : {A : Type 0} (named : Result A Refusal) → IsOne (Judged (λ answer. answer ≡ named))
named_one named held one other p q = p ∙ sym q

-- two checks one after another, where each has one answer
then_one : {A B : Type 0} (P : Check A) (Q : A → Check B) → IsOne P → ((a : A) → IsOne (Q a)) → IsOne (Then P Q)
then_one P Q first next held one other (inl p) (inl q) = p.2 ∙ ap Err (err_same (first held (Err p.0) (Err q.0) p.1 q.1)) ∙ sym q.2
then_one P Q first next held one other (inl p) (inr q) = absurd (ok_not_err (first held (Ok q.0) (Err p.0) q.1 p.1))
then_one P Q first next held one other (inr p) (inl q) = absurd (ok_not_err (first held (Ok p.0) (Err q.0) p.1 q.1))
then_one P Q first next held one other (inr p) (inr q) =
    next q.0 held one other (subst (λ a. Q a held false one) (ok_same (first held (Ok p.0) (Ok q.0) p.1 q.1)) p.2) q.2

-- ---- files

file_one : (limit word : ℕ) (name : List ℕ) → IsOne (IsFile limit word name)
file_one limit word name held one other p q = p ∙ sym q

log_one : (allowance : Allowance) (word : ℕ) (name : List ℕ) → IsOne (IsLog allowance word name)
log_one allowance word name =
    then_one (IsFile allowance.bytes word name) (λ bytes. Judged (λ answer. answer ≡ log_answer allowance.commands word (length bytes) (log_of (parts 10 bytes))))
    (file_one allowance.bytes word name) (λ bytes. named_one (log_answer allowance.commands word (length bytes) (log_of (parts 10 bytes))))

snapshot_one : (word : ℕ) (name : List ℕ) → IsOne (IsSnapshot word name)
snapshot_one word name =
    then_one (IsFile FILE_LIMIT word name) (λ bytes. Judged (λ answer. answer ≡ text_answer word (snapshot_of (parts 10 bytes))))
    (file_one FILE_LIMIT word name) (λ bytes. named_one (text_answer word (snapshot_of (parts 10 bytes))))

-- ---- the net set of a log

net_one : (word : ℕ) (log : ReadLog) → IsOne (Judged (IsNet word log))
net_one word log held (Ok one) (Ok other) p q = ap Ok (p.1 ∙ sym q.1)
net_one word log held (Ok one) (Err r) p q = absurd (q.2.3 (taken_prefix q.0 log.commands p.0))
net_one word log held (Err r) (Ok other) p q = absurd (p.2.3 (taken_prefix p.0 log.commands q.0))
net_one word log held (Err r) (Err s) p q = cc (p.1, q.1, same)
  where
    same : p.0 ≡ q.0
    same = first_failing (λ k. IsTaken (take k log.commands)) (taken_shorter log.commands) p.0 q.0 p.2.2 p.2.3 q.2.2 q.2.3

pub canon_one : (word : ℕ) (log : List ℕ) → IsOne (IsCanon word log)
canon_one word log = then_one (IsLog FULL_ALLOWANCE word log) (λ read. Judged (IsNet word read)) (log_one FULL_ALLOWANCE word log) (net_one word)

-- ---- the log on a snapshot's tree

-- where a tree takes a command with those before it, the command is applicable in its turn
applicable_there : (t : Holding) (cs : List Change) (k : ℕ) → k < length cs → Takes t (take (suc k) cs) → (c : Change) × (slice_get cs k ≡ Some c) × IsApplicable (result_of t (take k cs)) c
applicable_there t [] k within takes = absurd (omega arith)
applicable_there t (c ∷ cs) zero within takes = (c, refl, takes.0)
applicable_there t (c ∷ cs) (suc k) within takes = applicable_there (put t c.node c.new) cs k (omega arith) takes.1

-- so a tree takes no prefix with a command that is refused
not_taken : (m : Store) (cs : List Change) (number : ℕ) → 0 < number → number ≤ length cs → IsRefused m cs number → Takes (at m) (take number cs) → ⊥
not_taken m cs number some within refused takes = refused there.0 there.1 there.2
  where
    back : number ≡ suc (number - 1)
    back = omega arith

    there : (c : Change) × (slice_get cs (number - 1) ≡ Some c) × IsApplicable (result_of (at m) (take (number - 1) cs)) c
    there = applicable_there (at m) cs (number - 1) (omega arith) (subst (λ n. Takes (at m) (take n cs)) back takes)

refused_there : (m : Store) (cs : List Change) (number : ℕ) → IsRefusedAt m cs number → Takes (at m) (take number cs) → ⊥
refused_there m cs number (left, stops) = not_taken m cs number stops.0.some stops.0.within stops.1

after_one : (word : ℕ) (snapshot : Version × List Row) (log : ReadLog) → IsOne (Judged (IsAfter word snapshot log))
after_one word (version, rows) log held (Ok one) (Ok other) p q = ap Ok (p.1 ∙ sym q.1)
after_one word (version, rows) log held (Ok one) (Err r) p q = absurd (refused_there (store_of rows) log.commands q.0 q.2 (takes_prefix (at (store_of rows)) q.0 log.commands p.0))
after_one word (version, rows) log held (Err r) (Ok other) p q = absurd (refused_there (store_of rows) log.commands p.0 p.2 (takes_prefix (at (store_of rows)) p.0 log.commands q.0))
after_one word (version, rows) log held (Err r) (Err s) p q = cc (p.1, q.1, same)
  where
    same : p.0 ≡ q.0
    same = first_failing (λ k. Takes (at (store_of rows)) (take k log.commands)) (takes_shorter (at (store_of rows)) log.commands) p.0 q.0
        p.2.1.0.taken (refused_there (store_of rows) log.commands p.0 p.2) q.2.1.0.taken (refused_there (store_of rows) log.commands q.0 q.2)

pub replay_one : (snap_word : ℕ) (snap : List ℕ) (log_word : ℕ) (log : List ℕ) → IsOne (IsReplay snap_word snap log_word log)
replay_one snap_word snap log_word log =
    then_one (IsSnapshot snap_word snap) (λ snapshot. Then (IsLog FULL_ALLOWANCE log_word log) (λ read. Judged (IsAfter log_word snapshot read))) (snapshot_one snap_word snap) (λ snapshot.
    then_one (IsLog FULL_ALLOWANCE log_word log) (λ read. Judged (IsAfter log_word snapshot read)) (log_one FULL_ALLOWANCE log_word log) (after_one log_word snapshot))

-- ---- judgements, one after another

-- one answer at most is right
abbrev OneOf : {A : Type 0} → (Result A Refusal → Type 0) → Type 0
OneOf {A} Q = (one other : Result A Refusal) → Q one → Q other → one ≡ other

judged_one : {A : Type 0} (Q : Result A Refusal → Type 0) → OneOf Q → IsOne (Judged Q)
judged_one Q f held one other p q = f one other p q

next_one : {A B : Type 0} (P : Result A Refusal → Type 0) (Q : A → Result B Refusal → Type 0) → OneOf P → ((a : A) → P (Ok a) → OneOf (Q a)) → OneOf (Next P Q)
next_one P Q first next one other (inl p) (inl q) = p.2 ∙ ap Err (err_same (first (Err p.0) (Err q.0) p.1 q.1)) ∙ sym q.2
next_one P Q first next one other (inl p) (inr q) = absurd (ok_not_err (first (Ok q.0) (Err p.0) q.1 p.1))
next_one P Q first next one other (inr p) (inl q) = absurd (ok_not_err (first (Ok p.0) (Err q.0) p.1 q.1))
next_one P Q first next one other (inr p) (inr q) =
    next q.0 q.1 one other (subst (λ a. Q a one) (ok_same (first (Ok p.0) (Ok q.0) p.1 q.1)) p.2) q.2

-- ---- the logs of a job

pub logs_one : (left : Allowance) (files : List Operand) → IsOne (IsLogs left files)
logs_one left [] = named_one (Ok [])
logs_one left (file ∷ files) =
    then_one (IsLog left file.place file.text) (λ read. Then (IsLogs (left_after left read) files) (λ reads. Judged (λ answer. answer ≡ Ok (read ∷ reads)))) (log_one left file.place file.text) (λ read.
    then_one (IsLogs (left_after left read) files) (λ reads. Judged (λ answer. answer ≡ Ok (read ∷ reads))) (logs_one (left_after left read) files) (λ reads. named_one (Ok (read ∷ reads))))

untaken_not : (files : List Operand) (reads : List ReadLog) (r : Refusal) → IsFirstUntaken files reads r → AreTaken reads → ⊥
untaken_not [] reads r h taken = h
untaken_not (file ∷ files) [] r h taken = h
untaken_not (file ∷ files) (read ∷ reads) r (inl h) taken = not_broken read.commands h.0 h.2 taken.0
untaken_not (file ∷ files) (read ∷ reads) r (inr h) taken = untaken_not files reads r h.1 taken.1

untaken_once : (files : List Operand) (reads : List ReadLog) (r s : Refusal) → IsFirstUntaken files reads r → IsFirstUntaken files reads s → r ≡ s
untaken_once [] reads r s p q = absurd p
untaken_once (file ∷ files) [] r s p q = absurd p
untaken_once (file ∷ files) (read ∷ reads) r s (inl p) (inl q) = let same = broken_once read.commands p.0 q.0 p.2 q.2 in cc (p.1, q.1, same)
untaken_once (file ∷ files) (read ∷ reads) r s (inl p) (inr q) = absurd (not_broken read.commands p.0 p.2 q.0)
untaken_once (file ∷ files) (read ∷ reads) r s (inr p) (inl q) = absurd (not_broken read.commands q.0 q.2 p.0)
untaken_once (file ∷ files) (read ∷ reads) r s (inr p) (inr q) = untaken_once files reads r s p.1 q.1

each_taken_one : (files : List Operand) (reads : List ReadLog) → OneOf (EachTaken files reads)
each_taken_one files reads (Ok one) (Ok other) p q = ap Ok (p.0 ∙ sym q.0)
each_taken_one files reads (Ok one) (Err r) p q = absurd (untaken_not files reads r q p.1)
each_taken_one files reads (Err r) (Ok other) p q = absurd (untaken_not files reads r p q.1)
each_taken_one files reads (Err r) (Err s) p q = ap Err (untaken_once files reads r s p q)

-- the pair of logs that a refusal names
pairs_cases : (i j k l : ℕ) → ((i ≡ k) × (j ≡ l)) ⊎ ((pair_before i j k l ≡ true) ⊎ (pair_before k l i j ≡ true))
pairs_cases i j k l = grind (arith, nat_tests)

one_pair : (logs : List (List Change)) (i j k l : ℕ) (p q : Node) → IsFirstDisagreement logs i j p → IsFirstDisagreement logs k l q → (i ≡ k) × (j ≡ l)
one_pair logs i j k l p q a b = go (pairs_cases i j k l)
  where
    go : ((i ≡ k) × (j ≡ l)) ⊎ ((pair_before i j k l ≡ true) ⊎ (pair_before k l i j ≡ true)) → (i ≡ k) × (j ≡ l)
    go (inl h) = h
    go (inr (inl h)) = let e = b.least_pair i j p a.pair h in absurd (cc (a.here, e))
    go (inr (inr h)) = let e = a.least_pair k l q b.pair h in absurd (cc (b.here, e))

one_node : (logs : List (List Change)) (i j : ℕ) (p q : Node) → IsFirstDisagreement logs i j p → IsFirstDisagreement logs i j q → p ≡ q
one_node logs i j p q a b = go (same_path p q) refl (comes_before p q) refl
  where
    go : (s : Bool) → same_path p q ≡ s → (c : Bool) → comes_before p q ≡ c → p ≡ q
    go true s c e = same_path_is p q s
    go false s true e = let f = b.first_node p e in absurd (cc (a.here, f))
    go false s false e = let f = a.first_node q (before_total p q s e) in absurd (cc (b.here, f))

all_taken_one : (reads : List ReadLog) → OneOf (AllTaken reads)
all_taken_one reads (Ok one) (Ok other) p q = ap Ok (p.0 ∙ sym q.0)
all_taken_one reads (Ok one) (Err r) p q = absurd (q.4.disagreement.none p.1)
all_taken_one reads (Err r) (Ok other) p q = absurd (p.4.disagreement.none q.1)
all_taken_one reads (Err r) (Err s) p q = cc (p.3, q.3, first, second, node)
  where
    pair : (p.0 - 1 ≡ q.0 - 1) × (p.1 - 1 ≡ q.1 - 1)
    pair = one_pair (commands_of reads) (p.0 - 1) (p.1 - 1) (q.0 - 1) (q.1 - 1) p.2 q.2 p.4.disagreement.disagreement q.4.disagreement.disagreement

    first : p.0 ≡ q.0
    first = omega (arith, pair.0, p.4.counted, q.4.counted)

    second : p.1 ≡ q.1
    second = omega (arith, pair.0, pair.1, p.4.counted, q.4.counted, p.4.disagreement.disagreement.pair, q.4.disagreement.disagreement.pair)

    node : p.2 ≡ q.2
    node =
        one_node (commands_of reads) (q.0 - 1) (q.1 - 1) p.2 q.2
        (subst (λ l. IsFirstDisagreement (commands_of reads) (q.0 - 1) l p.2) pair.1 (subst (λ k. IsFirstDisagreement (commands_of reads) k (p.1 - 1) p.2) pair.0 p.4.disagreement.disagreement))
        q.4.disagreement.disagreement

pub joined_one : (files : List Operand) (reads : List ReadLog) → OneOf (IsJoined files reads)
joined_one files reads = next_one (EachTaken files reads) AllTaken (each_taken_one files reads) (λ taken h. all_taken_one taken)

-- what was joined has a common tree
has_common : (files : List Operand) (reads joined : List ReadLog) → IsJoined files reads (Ok joined) → HasCommonTree (commands_of joined)
has_common files reads joined (inl h) = absurd (ok_not_err h.2)
has_common files reads joined (inr h) = subst (λ rs. HasCommonTree (commands_of rs)) (sym h.2.0) h.2.1

-- ---- the first merger of the logs

preferences_one : (prefs : Option Operand) → IsOne (ArePreferences prefs)
preferences_one None = named_one (Ok [])
preferences_one (Some file) =
    then_one (IsFile PREFS_LIMIT file.place file.text) (λ bytes. Judged (λ answer. answer ≡ text_answer file.place (prefs_of (parts 10 bytes))))
    (file_one PREFS_LIMIT file.place file.text) (λ bytes. named_one (text_answer file.place (prefs_of (parts 10 bytes))))

rules_one : (word : ℕ) (rules : List Rule) (reads : List ReadLog) → OneOf (RulesHold word rules reads)
rules_one word rules reads (Ok one) (Ok other) p q = ap Ok (p.0 ∙ sym q.0)
rules_one word rules reads (Ok one) (Err r) p q = absurd (cc (p.1, q.1))
rules_one word rules reads (Err r) (Ok other) p q = absurd (cc (p.1, q.1))
rules_one word rules reads (Err r) (Err s) p q = let same : p.0 ≡ q.0 = cc (p.1, q.1) in ap Err (p.2 ∙ ap (rule_refusal word) same ∙ sym q.2)

-- two first mergers are one set
same_merger : (rules : List Rule) (reads : List ReadLog) → HasCommonTree (commands_of reads) → (one other : List Change) → IsFirstMergerFor (commands_of reads) rules one → IsFirstMergerFor (commands_of reads) rules other →
    canonical one ≡ canonical other
same_merger rules reads common one other p q =
    one_list one other first.merger.fits.one second.merger.fits.one
    (one_first (at common.map) (drawn_commands (commands_of reads)) (ranking (commands_of reads) rules) one other (drawn_ranked (commands_of reads) rules) first second)
  where
    first : IsFirstMerger (at common.map) (drawn_commands (commands_of reads)) (ranking (commands_of reads) rules) one
    first = p common.map common.common

    second : IsFirstMerger (at common.map) (drawn_commands (commands_of reads)) (ranking (commands_of reads) rules) other
    second = q common.map common.common

merger_text_one : (rules : List Rule) (reads : List ReadLog) → HasCommonTree (commands_of reads) → OneOf (IsMergerText rules reads)
merger_text_one rules reads common (Ok one) (Ok other) p q = ap Ok (p.2 ∙ ap (log_text (joint_version reads)) (same_merger rules reads common p.0 q.0 p.1 q.1) ∙ sym q.2)
merger_text_one rules reads common (Ok one) (Err r) p q = absurd q
merger_text_one rules reads common (Err r) other p q = absurd p

-- what is made of rules and logs has one answer, where it has one for logs that some tree takes together
module _ {A : Type 0} (made : List Rule → List ReadLog → Result A Refusal → Type 0) (one_made : (rules : List Rule) (reads : List ReadLog) → HasCommonTree (commands_of reads) → OneOf (made rules reads)) where
  under_rules_one : (word : ℕ) (rules : List Rule) (reads : List ReadLog) → HasCommonTree (commands_of reads) → OneOf (UnderRules made word rules reads)
  under_rules_one word rules reads common =
      next_one (RulesHold word rules reads) (made rules) (rules_one word rules reads) (λ same h. one_made rules same (subst (λ rs. HasCommonTree (commands_of rs)) (sym h.0) common))

  of_logs_one : (word : ℕ) (rules : List Rule) (files : List Operand) → IsOne (OfLogs made word rules files)
  of_logs_one word rules files =
      then_one (IsLogs FULL_ALLOWANCE files) (λ reads. Judged (Next (IsJoined files reads) (UnderRules made word rules))) (logs_one FULL_ALLOWANCE files) (λ reads.
      judged_one (Next (IsJoined files reads) (UnderRules made word rules)) (next_one (IsJoined files reads) (UnderRules made word rules) (joined_one files reads) (λ joined h. under_rules_one word rules joined (has_common files reads joined h))))

  merging_one : (prefs : Option Operand) (files : List Operand) → IsOne (OfMerging made prefs files)
  merging_one prefs files = then_one (ArePreferences prefs) (λ rules. OfLogs made (preference_word prefs) rules files) (preferences_one prefs) (λ rules. of_logs_one (preference_word prefs) rules files)

pub merge_one : (prefs : Option Operand) (files : List Operand) → IsOne (IsMerge prefs files)
merge_one = merging_one IsMergerText merger_text_one

-- ---- the rules that steer to a set

-- the second of two checks has one answer after each value that is right for the first
then_one_after : {A B : Type 0} (P : Check A) (Q : A → Check B) → IsOne P →
    ((held : Names) (a : A) → P held false (Ok a) → (one other : Result B Refusal) → Q a held false one → Q a held false other → one ≡ other) → IsOne (Then P Q)
then_one_after P Q first next held one other (inl p) (inl q) = p.2 ∙ ap Err (err_same (first held (Err p.0) (Err q.0) p.1 q.1)) ∙ sym q.2
then_one_after P Q first next held one other (inl p) (inr q) = absurd (ok_not_err (first held (Ok q.0) (Err p.0) q.1 p.1))
then_one_after P Q first next held one other (inr p) (inl q) = absurd (ok_not_err (first held (Ok p.0) (Err q.0) p.1 q.1))
then_one_after P Q first next held one other (inr p) (inr q) =
    next held q.0 q.1 one other (subst (λ a. Q a held false one) (ok_same (first held (Ok p.0) (Ok q.0) p.1 q.1)) p.2) q.2

net_set_one : (word : ℕ) (read : ReadLog) → OneOf (IsNetSet word read)
net_set_one word read (Ok one) (Ok other) p q = ap Ok (p.1 ∙ sym q.1)
net_set_one word read (Ok one) (Err r) p q = absurd (not_broken read.commands q.0 q.2 p.0)
net_set_one word read (Err r) (Ok other) p q = absurd (not_broken read.commands p.0 p.2 q.0)
net_set_one word read (Err r) (Err s) p q = let same = broken_once read.commands p.0 q.0 p.2 q.2 in cc (p.1, q.1, same)

-- a verdict means one refusal, and a merger none
one_refusal : (word : ℕ) (v : Verdict) (r s : Refusal) → RefusesBy word v r → RefusesBy word v s → r ≡ s
one_refusal word verdict.Merger r s p q = absurd p
one_refusal word (verdict.NotDrawn path) r s p q = p ∙ sym q
one_refusal word (verdict.DoesNotFit path) r s p q = p ∙ sym q
one_refusal word (verdict.CanAdd log path) r s p q = p ∙ sym q

steered_one : (word : ℕ) (set : List Change) (reads : List ReadLog) → AllChange (commands_of reads) → HasCommonTree (commands_of reads) → OneOf (IsSteered word set reads)
steered_one word set reads change common (Ok one) (Ok other) p q = ap Ok (p.1 ∙ sym q.1)
steered_one word set reads change common (Ok one) (Err r) p q =
    absurd (subst (λ v. RefusesBy word v r) (sym (one_verdict (commands_of reads) change common set verdict.Merger q.0 p.0 q.1)) q.2)
steered_one word set reads change common (Err r) (Ok other) p q =
    absurd (subst (λ v. RefusesBy word v r) (sym (one_verdict (commands_of reads) change common set verdict.Merger p.0 q.0 p.1)) p.2)
steered_one word set reads change common (Err r) (Err s) p q =
    let same = one_verdict (commands_of reads) change common set p.0 q.0 p.1 q.1 in
    ap Err (one_refusal word q.0 r s (subst (λ v. RefusesBy word v r) same p.2) q.2)

-- what was joined was read
was_read : (files : List Operand) (reads joined : List ReadLog) → IsJoined files reads (Ok joined) → joined ≡ reads
was_read files reads joined (inl h) = absurd (ok_not_err h.2)
was_read files reads joined (inr h) = h.2.0 ∙ h.1.0

all_change_read : (held : Names) (left : Allowance) (files : List Operand) (reads : List ReadLog) → IsLogs left files held false (Ok reads) → AllChange (commands_of reads)
all_change_read held left files reads h =
    let found = held_logs held left files reads h in
    subst AllChange (sym (ap commands_of found.same ∙ same_commands found.logs)) (all_change_held held files found.logs found.texts)

pub steer_one : (file : Operand) (files : List Operand) → IsOne (IsSteer file files)
steer_one file files =
    then_one (IsLog FULL_ALLOWANCE file.place file.text) (λ (read : ReadLog). Then (IsLogs FULL_ALLOWANCE files) (λ reads. Judged (IsSteering file.place files read reads))) (log_one FULL_ALLOWANCE file.place file.text) (λ read.
    then_one_after (IsLogs FULL_ALLOWANCE files) (λ reads. Judged (IsSteering file.place files read reads)) (logs_one FULL_ALLOWANCE files) (λ held reads h.
    next_one (IsNetSet file.place read) (λ set. Next (IsJoined files reads) (IsSteered file.place set)) (net_set_one file.place read) (λ set s.
    next_one (IsJoined files reads) (IsSteered file.place set) (joined_one files reads) (λ joined j.
    steered_one file.place set joined (subst (λ rs. AllChange (commands_of rs)) (sym (was_read files reads joined j)) (all_change_read held FULL_ALLOWANCE files reads h)) (has_common files reads joined j)))))

-- ---- the transition of a log

transition_text_one : (number : ℕ) (rules : List Rule) (reads : List ReadLog) → HasCommonTree (commands_of reads) → OneOf (IsTransitionText number rules reads)
transition_text_one number rules reads common (Ok one) (Ok other) p q = ap Ok (p.4 ∙ ap (log_text (joint_version reads)) same ∙ sym q.4)
  where
    first : IsFirstMerger (at common.map) (drawn_commands (commands_of reads)) (ranking (commands_of reads) rules) p.0
    first = p.2 common.map common.common

    second : IsFirstMerger (at common.map) (drawn_commands (commands_of reads)) (ranking (commands_of reads) rules) q.0
    second = q.2 common.map common.common

    mergers : HaveSameCommands p.0 q.0
    mergers = one_first (at common.map) (drawn_commands (commands_of reads)) (ranking (commands_of reads) rules) p.0 q.0 (drawn_ranked (commands_of reads) rules) first second

    same : p.1 ≡ q.1
    same =
        p.3 common.map common.common
        ∙ canonical_merger (at common.map) (net (log_at (commands_of reads) (number - 1))) p.0 q.0 (same_at p.0 q.0 first.merger.fits.one second.merger.fits.one mergers)
        ∙ sym (q.3 common.map common.common)
transition_text_one number rules reads common (Ok one) (Err r) p q = absurd q
transition_text_one number rules reads common (Err r) other p q = absurd p

pub transition_one : (number : ℕ) (prefs : Option Operand) (files : List Operand) → IsOne (IsTransition number prefs files)
transition_one number = merging_one (IsTransitionText number) (transition_text_one number)

-- ---- a set that is applied to a tree

pub set_one : (file : Operand) → IsOne (IsSetOf file)
set_one file =
    then_one (IsLog FULL_ALLOWANCE file.place file.text) (λ (read : ReadLog). Judged (IsNetSet file.place read)) (log_one FULL_ALLOWANCE file.place file.text) (λ read.
    judged_one (IsNetSet file.place read) (net_set_one file.place read))

one_set_read : (word : ℕ) (read : ReadLog) (set : List Change) → IsNetSet word read (Ok set) → one_each set ≡ true
one_set_read word read set h =
    ap one_each h.1 ∙ one_each-canonical (net read.commands) (net_fits (at h.0.map) read.commands h.0.tree.tree h.0.takes).0.one

one_set : (file : Operand) (held : Names) (set : List Change) → IsSetOf file held false (Ok set) → one_each set ≡ true
one_set file held set (inl h) = absurd (ok_not_err h.2)
one_set file held set (inr h) = one_set_read file.place h.0 set h.2

-- a node that holds none of the values of ready
not_diverged : (set : List Change) (t : Holding) (p : Node) → one_each set ≡ true → ((q : Node) (c : Change) → command_at set q ≡ Some c → is_ready_value c (t q) ≡ true) → first_diverged set t ≡ Some p → ⊥
not_diverged [] t p one values e = absurd (cc)
not_diverged (c ∷ set) t p one values e =
    not_diverged set t p rest_one.1 (λ q d f. values q d (later q d f)) (sym (ap (λ b. if b then first_diverged set t else Some c.node) here) ∙ e)
  where
    rest_one : (is_none (command_at set c.node) ≡ true) × (one_each set ≡ true)
    rest_one = both (is_none (command_at set c.node)) (one_each set) one

    here : is_ready_value c (t c.node) ≡ true
    here = values c.node c (ap (λ b. if b then Some c else command_at set c.node) (same_path_refl c.node))

    none_not : (o : Option Change) (d : Change) → is_none o ≡ true → o ≡ Some d → ⊥
    none_not None d n e = absurd (cc)
    none_not (Some x) d n e = absurd (cc)

    later : (q : Node) (d : Change) → command_at set q ≡ Some d → command_at (c ∷ set) q ≡ Some d
    later q d f = by (same_path q c.node) refl
      where
        by : (b : Bool) → same_path q c.node ≡ b → (if b then Some c else command_at set q) ≡ Some d
        by true s = absurd (none_not (command_at set c.node) d rest_one.0 (sym (ap (command_at set) (same_path_is q c.node s)) ∙ f))
        by false s = f

one_blocked : (set : List Change) (t : Holding) (p q : Node) → IsFirstBlocked set t p → IsFirstBlocked set t q → p ≡ q
one_blocked set t p q a b = go (same_path p q) refl (comes_before p q) refl
  where
    go : (s : Bool) → same_path p q ≡ s → (e : Bool) → comes_before p q ≡ e → p ≡ q
    go true s e f = same_path_is p q s
    go false s true f = let no = b.first p a.blocked in absurd (cc (no, f))
    go false s false f = let no = a.first q b.blocked in let yes = before_total p q s f in absurd (cc (no, yes))

applied_one : (word : ℕ) (set : List Change) (m : Store) → one_each set ≡ true → OneOf (IsAppliedTo word set m)
applied_one word set m one (Ok text) (Ok other) p q = ap Ok (p.1 ∙ sym q.1)
applied_one word set m one (Ok text) (Err r) p (inl q) = absurd (not_diverged set (at m) q.0 one p.0.values q.2)
applied_one word set m one (Ok text) (Err r) p (inr q) = absurd (not_blocked p.0 q.3.blocked)
  where
    not_blocked : IsReady (at m) set → IsBlocked set (at m) q.0 → ⊥
    not_blocked ready b = let dir = ready.tree b.above q.0 b.parent_is b.full in absurd (cc (dir, b.no_dir))
applied_one word set m one (Err r) (Ok other) (inl p) q = absurd (not_diverged set (at m) p.0 one q.0.values p.2)
applied_one word set m one (Err r) (Ok other) (inr p) q = absurd (not_blocked q.0 p.3.blocked)
  where
    not_blocked : IsReady (at m) set → IsBlocked set (at m) p.0 → ⊥
    not_blocked ready b = let dir = ready.tree b.above p.0 b.parent_is b.full in absurd (cc (dir, b.no_dir))
applied_one word set m one (Err r) (Err s) (inl p) (inl q) = let same : p.0 ≡ q.0 = cc (p.2, q.2) in cc (p.1, q.1, same)
applied_one word set m one (Err r) (Err s) (inl p) (inr q) = absurd (cc (p.2, q.2))
applied_one word set m one (Err r) (Err s) (inr p) (inl q) = absurd (cc (p.2, q.2))
applied_one word set m one (Err r) (Err s) (inr p) (inr q) = let same = one_blocked set (at m) p.0 q.0 p.3 q.3 in cc (p.1, q.1, same)

pub apply_one : (folder file : Operand) (m : Store) → IsOne (IsApply folder file (Some m))
apply_one folder file m =
    then_one_after (IsSetOf file) (IsApplied folder.place (Some m)) (set_one file) (λ held set s. applied_one folder.place set m (one_set file held set s))

-- ---- the clashes of logs

clashes_one : (reads : List ReadLog) → OneOf (AreClashes reads)
clashes_one reads (Ok one) (Ok other) p q = ap Ok (p.2 ∙ ap (λ (joint : Joined). ClashLines (clash_lines joint)) (one_joint p.0 q.0 (commands_of reads) p.1 q.1) ∙ sym q.2)
clashes_one reads (Ok one) (Err r) p q = absurd q
clashes_one reads (Err r) other p q = absurd p

conflicts_one : (files : List Operand) → IsOne (IsConflicts files)
conflicts_one files =
    then_one (IsLogs FULL_ALLOWANCE files) (λ reads. Judged (Next (IsJoined files reads) AreClashes)) (logs_one FULL_ALLOWANCE files) (λ reads.
    judged_one (Next (IsJoined files reads) AreClashes) (next_one (IsJoined files reads) AreClashes (joined_one files reads) (λ joined h. clashes_one joined)))

-- ---- a log that is sealed

pub seal_one : (folder file : Operand) (m : Store) → IsOne (IsSeal folder file (Some m))
seal_one folder file m =
    then_one (IsFile FILE_LIMIT file.place file.text) (IsSealedOver folder.place file.place (Some m)) (file_one FILE_LIMIT file.place file.text) (λ text held. sealing_once folder.place file.place m text)

-- ---- a drill

drill_of_one : (seed logs steps : ℕ) → OneOf (IsDrillOf seed logs steps)
drill_of_one seed logs steps (Ok text) (Ok other) p q = ap Ok (one_drill_text seed logs steps text other p q)
drill_of_one seed logs steps (Ok text) (Err r) p q = absurd q
drill_of_one seed logs steps (Err r) other p q = absurd p

drill_one : (seed logs steps : ℕ) → IsOne (IsDrill seed logs steps)
drill_one seed logs steps = judged_one (IsDrillOf seed logs steps) (drill_of_one seed logs steps)

-- ---- a recording

script_one : (file : Operand) → IsOne (IsScript file)
script_one file = then_one (IsFile FILE_LIMIT file.place file.text) (λ bytes. Judged (λ answer. answer ≡ text_answer file.place (script_of (parts 10 bytes)))) (file_one FILE_LIMIT file.place file.text) (λ bytes. named_one _)

record_one : (file : Operand) (tree : Store) → IsOne (IsRecord file (Some tree))
record_one file tree = then_one (IsScript file) (λ script. Judged (IsRecordedText file.place (Some tree) script)) (script_one file) (λ script. named_one _)

-- ---- what leads back from a set

pub undo_one : (word : ℕ) (name : List ℕ) → IsOne (IsUndo word name)
undo_one word name =
    then_one (IsLog FULL_ALLOWANCE word name) (λ read. Judged (IsUndoing word read)) (log_one FULL_ALLOWANCE word name) (λ read.
    judged_one (IsUndoing word read)
    (next_one (IsNetSet word read) (λ set answer. answer ≡ Ok (log_text read.version (inverse_set set))) (net_set_one word read) (λ set h one other p q. p ∙ sym q)))

-- ---- sets one after another

composed_one : (files : List Operand) (sets : List (List Change)) → OneOf (IsComposed files sets)
composed_one files sets (Ok one) (Ok other) p q = ap Ok (p.1 ∙ sym q.1)
composed_one files sets (Ok one) (Err r) p q = absurd (stop_law sets q.number q.node q.stops p.0)
composed_one files sets (Err r) (Ok other) p q = absurd (stop_law sets p.number p.node p.stops q.0)
composed_one files sets (Err r) (Err s) p q = let node = same.1 in cc (p.refusal, q.refusal, word, node)
  where
    same : (p.number ≡ q.number) × (p.node ≡ q.node)
    same = stop_once_law sets p.number q.number p.node q.node p.stops q.stops

    word : p.word ≡ q.word
    word = let e : ◌≡◌ {A = Option ℕ} (Some p.word) (Some q.word) = sym p.named ∙ ap (word_of files) same.0 ∙ q.named in cc (e)

caught_up_one : (files : List Operand) (reads : List ReadLog) → OneOf (IsCaughtUp files reads)
caught_up_one files reads =
    next_one (EachTaken files reads) (λ taken. Next (IsComposed files (nets_of taken)) (λ set answer. answer ≡ Ok (log_text (joint_version taken) set))) (each_taken_one files reads) (λ taken t.
    next_one (IsComposed files (nets_of taken)) (λ set answer. answer ≡ Ok (log_text (joint_version taken) set)) (composed_one files (nets_of taken)) (λ set h one other p q. p ∙ sym q))

pub catchup_one : (files : List Operand) → IsOne (IsCatchup files)
catchup_one files =
    then_one (IsLogs FULL_ALLOWANCE files) (λ reads. Judged (IsCaughtUp files reads)) (logs_one FULL_ALLOWANCE files) (λ reads. judged_one (IsCaughtUp files reads) (caught_up_one files reads))

-- ---- work that is rebased

taken_work_one : (word : ℕ) (work : ReadLog) → OneOf (IsTakenWork word work)
taken_work_one word work (Ok one) (Ok other) p q = ap Ok (p.0 ∙ sym q.0)
taken_work_one word work (Ok one) (Err r) p q = absurd (not_broken work.commands q.0 q.2 p.1)
taken_work_one word work (Err r) (Ok other) p q = absurd (not_broken work.commands p.0 p.2 q.1)
taken_work_one word work (Err r) (Err s) p q = let same = broken_once work.commands p.0 q.0 p.2 q.2 in cc (p.1, q.1, same)

module _ (side : Side) (word : ℕ) (rules : List Rule) (work_word : ℕ) (files : List Operand) where
  rebased_one : (work : ReadLog) (reads : List ReadLog) → OneOf (IsRebased side word rules work_word files work reads)
  rebased_one work reads =
      next_one (IsTakenWork work_word work) _ (taken_work_one work_word work) (λ taken t.
      next_one (EachTaken files reads) _ (each_taken_one files reads) (λ sets s.
      next_one (IsComposed files (nets_of sets)) _ (composed_one files (nets_of sets)) (λ set c.
      next_one (AllTaken (as_logs taken sets set)) (IsTransitioned (side_number side) word rules) (all_taken_one (as_logs taken sets set)) (λ joined j.
      under_rules_one (IsTransitionText (side_number side)) (transition_text_one (side_number side)) word rules joined (subst (λ rs. HasCommonTree (commands_of rs)) (sym j.0) j.1)))))

rebase_of_one : (side : Side) (word : ℕ) (rules : List Rule) (work : Operand) (files : List Operand) → IsOne (IsRebaseOf side word rules work files)
rebase_of_one side word rules work files =
    then_one (IsLog FULL_ALLOWANCE work.place work.text) (λ read. Then (IsLogs (left_after FULL_ALLOWANCE read) files) (λ reads. Judged (IsRebased side word rules work.place files read reads))) (log_one FULL_ALLOWANCE work.place work.text) (λ read.
    then_one (IsLogs (left_after FULL_ALLOWANCE read) files) (λ reads. Judged (IsRebased side word rules work.place files read reads)) (logs_one (left_after FULL_ALLOWANCE read) files) (λ reads.
    judged_one (IsRebased side word rules work.place files read reads) (rebased_one side word rules work.place files read reads)))

pub rebase_one : (side : Side) (prefs : Option Operand) (work : Operand) (files : List Operand) → IsOne (IsRebase side prefs work files)
rebase_one side prefs work files =
    then_one (ArePreferences prefs) (λ rules. IsRebaseOf side (preference_word prefs) rules work files) (preferences_one prefs) (λ rules. rebase_of_one side (preference_word prefs) rules work files)

-- ---- what a merger leaves out

reasons_one : (rules : List Rule) (reads : List ReadLog) → HasCommonTree (commands_of reads) → OneOf (AreReasons rules reads)
reasons_one rules reads common (Ok one) (Ok other) p q =
    ap Ok (p.4 ∙ (λ i. ReasonLines (reason_lines (one_joint p.0 q.0 (commands_of reads) p.2 q.2 i) (same_merger rules reads common p.1 q.1 p.3 q.3 i))) ∙ sym q.4)
reasons_one rules reads common (Ok one) (Err r) p q = absurd q
reasons_one rules reads common (Err r) other p q = absurd p

pub explain_one : (prefs : Option Operand) (files : List Operand) → IsOne (IsExplain prefs files)
explain_one = merging_one AreReasons reasons_one

-- ---- a round

merged_by_one : (rules : List Rule) (reads : List ReadLog) → HasCommonTree (commands_of reads) → OneOf (IsMergedBy rules reads)
merged_by_one rules reads common (Ok one) (Ok other) p q = ap Ok (p.2 ∙ (λ i. record { logs = commands_of reads; merger = same_merger rules reads common p.0 q.0 p.1 q.1 i }) ∙ sym q.2)
merged_by_one rules reads common (Ok one) (Err r) p q = absurd q
merged_by_one rules reads common (Err r) other p q = absurd p

merged_logs_one : (prefs : Option Operand) (files : List Operand) → IsOne (AreMergedLogs prefs files)
merged_logs_one = merging_one IsMergedBy merged_by_one

merged_common : (prefs : Option Operand) (files : List Operand) (held : Names) (merged : Merged) → AreMergedLogs prefs files held false (Ok merged) → HasCommonTree merged.logs
merged_common prefs files held merged (inl h) = absurd (ok_not_err h.2)
merged_common prefs files held merged (inr (rules, p, inl h)) = absurd (ok_not_err h.2)
merged_common prefs files held merged (inr (rules, p, inr (reads, l, inl h))) = absurd (ok_not_err h.2)
merged_common prefs files held merged (inr (rules, p, inr (reads, l, inr (joined, j, inl h)))) = absurd (ok_not_err h.2)
merged_common prefs files held merged (inr (rules, p, inr (reads, l, inr (joined, j, inr (same, s, m))))) =
    subst HasCommonTree (ap commands_of (sym s.0) ∙ sym (ap (λ x. x.logs) m.2)) (has_common files reads joined j)

synced_one : (folders : List Operand) (maps : List Store) (merged : Merged) → HasCommonTree merged.logs → (held : Names) (one other : Result Output Refusal) → IsSynced folders maps merged held false one → IsSynced folders maps merged held false other → one ≡ other
synced_one folders maps merged common held one other p q =
    let a = p common.map common.common in
    let b = q common.map common.common in
    a.2 ∙ ap (round_answer folders) (one_answer (transitions (at common.map) merged.logs merged.merger) (one_transitions (at common.map) merged.logs merged.merger) maps a.0 b.0 a.1 b.1) ∙ sym b.2

pub sync_one : (prefs : Option Operand) (folders files : List Operand) (maps : List Store) → IsOne (IsSync prefs folders files maps)
sync_one prefs folders files maps held one other (inl p) (inl q) = p.2 ∙ ap Err (err_same (merged_logs_one prefs files held (Err p.0) (Err q.0) p.1 q.1)) ∙ sym q.2
sync_one prefs folders files maps held one other (inl p) (inr q) = absurd (ok_not_err (merged_logs_one prefs files held (Ok q.0) (Err p.0) q.1 p.1))
sync_one prefs folders files maps held one other (inr p) (inl q) = absurd (ok_not_err (merged_logs_one prefs files held (Ok p.0) (Err q.0) p.1 q.1))
sync_one prefs folders files maps held one other (inr p) (inr q) =
    synced_one folders maps q.0 (merged_common prefs files held q.0 q.1) held one other
    (subst (λ a. IsSynced folders maps a held false one) (ok_same (merged_logs_one prefs files held (Ok p.0) (Ok q.0) p.1 q.1)) p.2) q.2

-- ---- the answer of words

pub text_one : (P : Check (List ℕ)) → IsOne P → IsOne (AsText P)
text_one P one = then_one P (λ text. Judged (λ answer. answer ≡ Ok (WholeText text))) one (λ text. named_one (Ok (WholeText text)))

-- the answer of a job, where its tree is known or it has none
pub job_one : (job : Job) (tree : Store) → IsOne (IsJobAnswer job (Some tree))
job_one Help tree = text_one (Judged (λ answer. answer ≡ Ok help_text)) (named_one _)
job_one (Replay snap log) tree = text_one (IsReplay snap.place snap.text log.place log.text) (replay_one snap.place snap.text log.place log.text)
job_one (Canon log) tree = text_one (IsCanon log.place log.text) (canon_one log.place log.text)
job_one (Conflicts logs) tree = conflicts_one logs
job_one (Merge prefs logs) tree = text_one (IsMerge prefs logs) (merge_one prefs logs)
job_one (Transition number prefs logs) tree = text_one (IsTransition number prefs logs) (transition_one number prefs logs)
job_one (Steer set logs) tree = text_one (IsSteer set logs) (steer_one set logs)
job_one (Record folder script) tree = text_one (IsRecord script (Some tree)) (record_one script tree)
job_one (Seal folder log) tree = text_one (IsSeal folder log (Some tree)) (seal_one folder log tree)
job_one (Apply folder set) tree = text_one (IsApply folder set (Some tree)) (apply_one folder set tree)
job_one (Explain prefs logs) tree = explain_one prefs logs
job_one (Undo set) tree = text_one (IsUndo set.place set.text) (undo_one set.place set.text)
job_one (Catchup sets) tree = text_one (IsCatchup sets) (catchup_one sets)
job_one (Rebase side prefs work sets) tree = text_one (IsRebase side prefs work sets) (rebase_one side prefs work sets)
job_one (Drill seed logs steps) tree = text_one (IsDrill seed logs steps) (drill_one seed logs steps)
job_one (Sync prefs folders logs) tree = λ held one other p q. absurd p

answer_of_one : (job : Option Job) (tree : Store) → IsOne (IsAnswerOf job (Some tree))
answer_of_one None tree = named_one _
answer_of_one (Some job) tree = job_one job tree

pub answer_one : (words : List (List ℕ)) (tree : Store) → IsOne (IsAnswer words (Some tree))
answer_one words tree = answer_of_one (job_of words) tree
