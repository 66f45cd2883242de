-- The headline of merging follows from what a run owes.
use Rattle.std.proofs.Common.{◌≡◌, ◌⊎◌, ◌≤◌, ◌+◌, ◌<◌, ◌||◌, zero, suc, Bool, true, false, ℕ, List, [], ◌∷◌, length, Option, None, Some, Result, Ok, Err, inl, inr, refl, sym, ap, subst, ◌∙◌, arith, if◌then◌else◌}
use Rattle.sync_command.specs.Changes.{Change, same_change}
use Rattle.sync_command.specs.Maps.{Store, at}
use Rattle.sync_port.specs.States.{FaultCounted}
use Rattle.sync_port.specs.Ports.{FileContents, Names, SinkState}
use Rattle.sync_port.proofs.CallerLemmas.{both_more}
use Rattle.canon_set.specs.Sets.{canonical}
use Rattle.log_text.specs.Logs.{log_text}
use Rattle.refluent.specs.CommonTrees.{HasCommonTree, IsAmong}
use Rattle.refluent.specs.Drawn.{drawn_commands, in_turn, nets_in_turn}
use Rattle.refluent.specs.Joints.{net_sets}
use Rattle.refluent.specs.Sets.{IsSubset, is_in}
use Rattle.refluent.proofs.CallerLemmas.{is_in-append, is_in-canonical, is_in-without_repeats, same_change_is, same_change_refl}
use Rattle.sync_path.specs.Paths.{same_path}
use Rattle.sync_path.proofs.CallerLemmas.{same_path_refl}
use Rattle.sync_command.specs.Trees.{command_at, one_each}
use Rattle.std.proofs.lemmas.Bool.Decides.{nat_tests}
use Rattle.std.specs.Prelude.{is_some}
use Rattle.pref_list.specs.Orders.{fault_of, first_fault, first_fault_from, first_of, is_log}
use Rattle.pref_list.specs.Picks.{first_with, log_of}
use Rattle.pref_list.specs.declared.faults.RankFault.TheVariants.{NoCommand, NoSuchLog}
use Rattle.pref_list.specs.Ranking.{ranking, set_from}
use Rattle.pref_list.specs.declared.rules.Rule.{Rule}
use Rattle.pref_list.proofs.CallerLemmas.{drawn_ranked, in_turn-nets}
use Rattle.merge_core.specs.Conflicts.{greedy_scan}
use Rattle.merge_core.specs.Steering.{at_rule, at_rules, steering_rules}
use Rattle.merge_core.proofs.CallerLemmas.{greedy_law, one_first, steer_law}
use Rattle.tool_words.specs.Jobs.{job_of}
use Rattle.tool_words.specs.Words.{Operand, Text}
use Rattle.tool_words.specs.declared.job.Job.{Job}
use Rattle.tool_words.specs.declared.job.Job.TheVariants.{Merge}
use Rattle.treesync.specs.Checks.{Causes, Check, IsAllowed, IsOne}
use Rattle.treesync.specs.Ends.{Prints}
use Rattle.treesync.specs.Outputs.{AsText, Output, status_in, text_in}
use Rattle.treesync.specs.Completeness.{HoldJoin}
use Rattle.treesync.specs.Headline.{Gains, HoldLogs, HoldsRules, IsMergerOf, PrintsMerger, PrintsSteered, Recorded, all_commands, latest_version}
use Rattle.treesync.specs.Jobs.{InputsCounted, IsAnswer, IsAnswerOf, IsCountedByFirst, Outside, Ran, held_tree, inputs_of}
use Rattle.treesync.specs.Joining.{AreTaken, IsJoined, commands_of, joint_version}
use Rattle.treesync.specs.Merge.{IsFirstMergerFor, IsMerge}
use Rattle.treesync.specs.declared.logs.TheConstants.{FULL_ALLOWANCE}
use Rattle.treesync.specs.declared.refusal.Refusal.{Refusal}
use Rattle.treesync.specs.declared.refusal.Refusal.TheVariants.{InvalidArguments, OutOfMemory, CallFailed, Found}
use Rattle.treesync.specs.declared.refusal.Failure.{Failure}
use Rattle.treesync.specs.declared.refusal.Failure.TheVariants.{ReadFailed, TreeFailed, TreeDenied}
use Rattle.treesync.proofs.PrintedSizes.{merger_within}
use Rattle.treesync.proofs.SameSets.{one_list}
use Rattle.treesync.proofs.Unique.{merge_one}
use Rattle.treesync.proofs.OutputLemmas.{Three, as_text, three, whole_status}
use Rattle.treesync.proofs.Words.{failure_above, finding_above}
use Rattle.treesync.proofs.HeldLogs.{all_change_held, held_logs, held_preferences, logs_read, ok_no_err, one_recorded, one_rules, preferences_read, reads_of, same_commands, same_version}

-- ---- logs that some tree takes together

pub taken_each : (all : List (List Change)) → HasCommonTree all → (logs : List Recorded) → ((cs : List Change) → IsAmong cs (all_commands logs) → IsAmong cs all) → AreTaken (reads_of logs)
taken_each all common [] part = tt
taken_each all common (log ∷ logs) part = (
  record { map = common.map; tree = common.common.tree; takes = common.common.takes log.commands (part log.commands (inl refl)) },
  taken_each all common logs (λ cs i. part cs (inr i)),
)

-- ---- the right answer

-- the logs as they were read are joined
pub joined_read : (files : List Operand) (logs : List Recorded) → HasCommonTree (all_commands logs) → IsJoined files (reads_of logs) (Ok (reads_of logs))
joined_read files logs common = inr (reads_of logs, (refl, taken_each (all_commands logs) common logs (λ cs i. i)), (refl, subst HasCommonTree (sym (same_commands logs)) common))

right_answer : (held : Names) (prefs : Option Operand) (files : List Operand) (logs : List Recorded) (rules : List Rule) (merger : List Change) → HoldLogs held files logs → HoldsRules held prefs rules → HasCommonTree (all_commands logs) →
    first_fault (net_sets (all_commands logs)) rules ≡ None → IsFirstMergerFor (all_commands logs) rules merger → IsMerge prefs files held false (Ok (log_text (latest_version logs) (canonical merger)))
right_answer held prefs files logs rules merger h p common none first =
    inr (rules, preferences_read held prefs rules p, inr (reads_of logs, logs_read held files logs FULL_ALLOWANCE h.texts h.bytes h.commands, inr (reads_of logs, joined_read files logs common, inr (reads_of logs, (refl, no_fault), (merger, first_read, printed)))))
  where
    no_fault : first_fault (net_sets (commands_of (reads_of logs))) rules ≡ None
    no_fault = ap (λ l. first_fault (net_sets l) rules) (same_commands logs) ∙ none

    first_read : IsFirstMergerFor (commands_of (reads_of logs)) rules merger
    first_read = subst (λ l. IsFirstMergerFor l rules merger) (sym (same_commands logs)) first

    printed : log_text (latest_version logs) (canonical merger) ≡ log_text (joint_version (reads_of logs)) (canonical merger)
    printed = ap (λ v. log_text v (canonical merger)) (sym (same_version logs))

-- the logs that the files hold are merged
pub merge_right : (held : Names) (prefs : Option Operand) (files : List Operand) → HoldJoin held prefs files → (text : List ℕ) × IsMerge prefs files held false (Ok text)
merge_right held prefs files h = (
  log_text (latest_version h.logs) (canonical (greedy_scan (ranking (all_commands h.logs) h.rules) [])),
  right_answer held prefs files h.logs h.rules (greedy_scan (ranking (all_commands h.logs) h.rules) []) h.hold h.prefer h.common h.named
      (λ t tree. greedy_law (all_commands h.logs) (all_change_held held files h.logs h.hold.texts) t tree h.rules),
)

-- ---- the rules that steer to a merger have no fault

in_some : (cs : List Change) (c : Change) → is_in cs c ≡ true → is_some (command_at cs c.node) ≡ true
in_some [] c h = absurd (cc (h))
in_some (d ∷ ds) c h = step (same_path c.node d.node) refl (in_some ds c) h
  where
    same_node : same_change c d ≡ true → same_path c.node d.node ≡ true
    same_node e = ap (λ (x : Change). same_path c.node x.node) (sym (same_change_is c d e)) ∙ same_path_refl c.node

    step : (b : Bool) → same_path c.node d.node ≡ b → (is_in ds c ≡ true → is_some (command_at ds c.node) ≡ true) → is_in (d ∷ ds) c ≡ true → is_some (if b then Some d else command_at ds c.node) ≡ true
    step true e later i = refl
    step false e later i = later (rest (same_change c d) refl i)
      where
        rest : (a : Bool) → same_change c d ≡ a → (a || is_in ds c) ≡ true → is_in ds c ≡ true
        rest true f i = let n = same_node f in absurd (cc (e, n))
        rest false f i = i

-- the first set that has a command
placed : (sets : List (List Change)) (c : Change) → is_in (in_turn sets) c ≡ true → (first_with sets c < length sets) × (is_in (set_from sets (first_with sets c)) c ≡ true)
placed [] c e = absurd (cc (e))
placed (set ∷ sets) c e = step (is_in set c) refl (placed sets c)
  where
    rest : is_in set c ≡ false → is_in (in_turn sets) c ≡ true
    rest f = ap (λ b. b || is_in (in_turn sets) c) (sym f) ∙ sym (is_in-append set (in_turn sets) c) ∙ e

    step : (b : Bool) → is_in set c ≡ b → (is_in (in_turn sets) c ≡ true → (first_with sets c < length sets) × (is_in (set_from sets (first_with sets c)) c ≡ true)) →
        ((if b then zero else suc (first_with sets c)) < suc (length sets)) × (is_in (set_from (set ∷ sets) (if b then zero else suc (first_with sets c))) c ≡ true)
    step true f later = (omega arith, f)
    step false f later = let p = later (rest f) in (omega (arith, p.0), p.1)

no_fault_at : (sets : List (List Change)) (number : ℕ) (c : Change) → is_in (in_turn sets) c ≡ true → fault_of sets number (at_rule sets c) ≡ None
no_fault_at sets number c e =
    let p = placed sets c e in
    both (is_log sets (log_of sets c)) (is_some (command_at (set_from sets (first_with sets c)) c.node)) (is_number (first_with sets c) p.0) (in_some (set_from sets (first_with sets c)) c p.1)
  where
    is_number : (k : ℕ) → k < length sets → is_log sets (suc k) ≡ true
    is_number k low = grind (arith, nat_tests)

    both : (a b : Bool) → a ≡ true → b ≡ true → (if a then (if b then None else Some (NoCommand number)) else Some (NoSuchLog number)) ≡ None
    both true true f g = refl
    both true false f g = absurd (cc (g))
    both false b f g = absurd (cc (f))

no_fault_from : (sets : List (List Change)) (number : ℕ) (cs : List Change) → ((c : Change) → is_in cs c ≡ true → is_in (in_turn sets) c ≡ true) → first_fault_from sets number (at_rules sets cs) ≡ None
no_fault_from sets number [] part = refl
no_fault_from sets number (c ∷ cs) part =
    ap (λ o. first_of o (first_fault_from sets (number + 1) (at_rules sets cs))) (no_fault_at sets number c (part c own)) ∙ no_fault_from sets (number + 1) cs (λ d i. part d (later d i))
  where
    or_true : (b : Bool) → (b || true) ≡ true
    or_true true = refl
    or_true false = refl

    own : is_in (c ∷ cs) c ≡ true
    own = ap (λ b. b || is_in cs c) (same_change_refl c)

    later : (d : Change) → is_in cs d ≡ true → is_in (c ∷ cs) d ≡ true
    later d i = ap (λ b. same_change d c || b) i ∙ or_true (same_change d c)

no_steering_fault : (logs : List (List Change)) (merger : List Change) → one_each merger ≡ true → IsSubset merger (drawn_commands logs) → first_fault (net_sets logs) (steering_rules logs merger) ≡ None
no_steering_fault logs merger one part =
    no_fault_from (net_sets logs) 1 (canonical merger) (λ c i.
    ap (λ l. is_in l c) (in_turn-nets logs) ∙ sym (is_in-without_repeats (nets_in_turn logs) c) ∙ part c (sym (is_in-canonical merger one c) ∙ i))

-- ---- what a printed text is

-- what an answer with a text says
pub record IsPrinted (held : Names) (prefs : Option Operand) (files : List Operand) (text : List ℕ) : Type 0 where
  pub logs : List Recorded
  pub rules : List Rule
  pub hold : HoldLogs held files logs
  pub prefer : HoldsRules held prefs rules
  pub common : HasCommonTree (all_commands logs)
  pub merger : List Change
  pub first : IsFirstMergerFor (all_commands logs) rules merger
  pub is : text ≡ log_text (latest_version logs) (canonical merger)

printed_of : (held : Names) (prefs : Option Operand) (files : List Operand) (text : List ℕ) → IsMerge prefs files held false (Ok text) → IsPrinted held prefs files text
printed_of held prefs files text (inl h) = absurd (ok_no_err h.2)
printed_of held prefs files text (inr (rules, p, inl h)) = absurd (ok_no_err h.2)
printed_of held prefs files text (inr (rules, p, inr (reads, l, inl h))) = absurd (ok_no_err h.2)
printed_of held prefs files text (inr (rules, p, inr (reads, l, inr (joined, inl j, m)))) = absurd (ok_no_err j.2)
printed_of held prefs files text (inr (rules, p, inr (reads, l, inr (joined, inr j, inl m)))) = absurd (ok_no_err m.2)
printed_of held prefs files text (inr (rules, p, inr (reads, l, inr (joined, inr j, inr m)))) =
    let found = held_logs held FULL_ALLOWANCE files reads l in
    let all : joined ≡ reads = j.2.0 ∙ j.1.0 in
    let same : m.0 ≡ reads_of found.logs = m.1.0 ∙ all ∙ found.same in
    let commands : commands_of m.0 ≡ all_commands found.logs = ap commands_of same ∙ same_commands found.logs in
    record {
      logs = found.logs;
      rules = rules;
      hold = record { texts = found.texts; bytes = found.bytes; commands = found.commands };
      prefer = held_preferences held prefs rules p;
      common = subst HasCommonTree (ap commands_of (j.1.0 ∙ found.same) ∙ same_commands found.logs) j.2.1;
      merger = m.2.0;
      first = subst (λ l. IsFirstMergerFor l rules m.2.0) commands m.2.1;
      is = m.2.2 ∙ ap (λ v. log_text v (canonical m.2.0)) (ap joint_version same ∙ same_version found.logs);
    }

-- ---- the answer of a run

pub gained : (status : ℕ) (output : Output) (a b : SinkState) → status ≤ 1 → Prints (Ok output) status a b → Gains (text_in output) a b
gained status output a b low p = both_more a.contents b.contents p.1 (λ m k w. w.whole low)

-- what a run printed that ended with the status of a whole output, over files that are known
pub record IsFound (words : List Text) (tree : Option Store) (held : Names) (before now : Outside) (status : ℕ) : Type 0 where
  pub output : Output
  pub right : IsAnswer words tree held false (Ok output)
  pub ends : status ≡ status_in output
  pub gains : Gains (text_in output) before.out now.out

pub found_output : (words : List Text) (before now : Outside) (m : FileContents) (tree : Option Store) (counted : Causes) (contents : Option FileContents) (status : ℕ) (answer : Result Output Refusal) → status ≤ 1 → contents ≡ Some m →
    IsAllowed (IsAnswer words tree) contents counted answer → Prints answer status before.out now.out → IsFound words tree m.held before now status
found_output words before now m tree counted None status answer z e h p = absurd (cc)
found_output words before now m tree counted (Some k) status (Ok output) z e h p =
    let same : k ≡ m = cc in
    record {
      output = output;
      right = subst (λ x. IsAnswer words tree x.held false (Ok output)) same h;
      ends = (whole_status output status before.out now.out z p.0).0;
      gains = gained status output before.out now.out z p;
    }
found_output words before now m tree counted (Some k) status (Err InvalidArguments) z e h p = absurd (omega (arith, z, p.0))
found_output words before now m tree counted (Some k) status (Err OutOfMemory) z e h p = absurd (omega (arith, z, p.0))
found_output words before now m tree counted (Some k) status (Err (CallFailed failure)) z e h p = absurd (omega (arith, z, p.0, failure_above failure))
found_output words before now m tree counted (Some k) status (Err (Found finding)) z e h p = absurd (omega (arith, z, p.0, finding_above finding))

pub job_answer : (words : List Text) (job : Job) (tree : Option Store) (held : Names) (answer : Result Output Refusal) → job_of words ≡ Some job → IsAnswer words tree held false answer → IsAnswerOf (Some job) tree held false answer
job_answer words job tree held answer e h = subst (λ j. IsAnswerOf j tree held false answer) e h

-- the text that a command printed
pub record IsFoundText (P : Check (List ℕ)) (held : Names) (before now : SinkState) : Type 0 where
  pub text : List ℕ
  pub right : P held false (Ok text)
  pub gains : Gains text before now

pub found_text : (words : List Text) (before now : Outside) (status : ℕ) → Ran words before now status → (job : Job) (P : Check (List ℕ)) (m : FileContents) → IsAnswerOf (Some job) (held_tree before.trees) ≡ AsText P →
    job_of words ≡ Some job → before.files.contents ≡ Some m → status ≡ 0 → IsFoundText P m.held before.out now.out
found_text words before now status ran job P m is e known z =
    let found = found_output words before now m (held_tree before.trees) (InputsCounted (inputs_of before) (inputs_of now)) before.files.contents status ran.answer (omega (arith, z)) known ran.allowed ran.prints in
    let right : AsText P m.held false (Ok found.output) =
    subst (λ (C : Check Output). C m.held false (Ok found.output)) is (job_answer words job (held_tree before.trees) m.held (Ok found.output) e found.right) in
    let t = as_text P m.held found.output right in
    record {
      text = t.0;
      right = t.1;
      gains = subst (λ o. Gains (text_in o) before.out now.out) t.2 found.gains;
    }

-- no call of a run without trees was refused
pub no_calls : (before now : Outside) → before.trees ≡ [] → (FaultCounted before.files now.files → ⊥) → (failure : Failure) → InputsCounted (inputs_of before) (inputs_of now) failure → ⊥
no_calls before now alone quiet (ReadFailed word) h = quiet h
no_calls before now alone quiet (TreeFailed word) h = subst (λ trees. IsCountedByFirst (λ c. c.faults) trees now.trees) alone h
no_calls before now alone quiet (TreeDenied word) h = subst (λ trees. IsCountedByFirst (λ c. c.denials) trees now.trees) alone h.0

-- where a text is right no refusal is
no_text_refusal : (P : Check (List ℕ)) (held : Names) (text : List ℕ) (r : Refusal) → IsOne P → P held false (Ok text) → AsText P held false (Err r) → ⊥
no_text_refusal P held text r one right (inl h) = ok_no_err (one held (Ok text) (Err h.0) right h.1)
no_text_refusal P held text r one right (inr h) = ok_no_err (sym h.2)

module _ (words : List Text) (before now : Outside) (status : ℕ) (ran : Ran words before now status) where
  -- Where no refusal is right, the run ends with a right output or out of memory, unless a call was refused.
  pub completes_of : (m : FileContents) (C : Check Output) → ((answer : Result Output Refusal) → IsAnswer words (held_tree before.trees) m.held false answer → C m.held false answer) → before.files.contents ≡ Some m →
      ((r : Refusal) → C m.held false (Err r) → ⊥) → ((failure : Failure) → InputsCounted (inputs_of before) (inputs_of now) failure → ⊥) → (FaultCounted before.out now.out → ⊥) →
      ((output : Output) × C m.held false (Ok output) × (status ≡ status_in output)) ⊎ (status ≡ 16)
  completes_of m C is known no_refusal quiet out_quiet = by before.files.contents known ran.answer ran.allowed ran.prints
    where
      there : (k : FileContents) (answer : Result Output Refusal) → k ≡ m → IsAnswer words (held_tree before.trees) k.held false answer → C m.held false answer
      there k answer same h = is answer (subst (λ y. IsAnswer words (held_tree before.trees) y.held false answer) same h)

      ends : (output : Output) → C m.held false (Ok output) → Three output status before.out now.out → ((output : Output) × C m.held false (Ok output) × (status ≡ status_in output)) ⊎ (status ≡ 16)
      ends output h (inl z) = inl (output, h, z.0)
      ends output h (inr (inl z)) = absurd (out_quiet z.1)
      ends output h (inr (inr z)) = inr z.0

      by : (contents : Option FileContents) → contents ≡ Some m → (answer : Result Output Refusal) → IsAllowed (IsAnswer words (held_tree before.trees)) contents (InputsCounted (inputs_of before) (inputs_of now)) answer →
          Prints answer status before.out now.out → ((output : Output) × C m.held false (Ok output) × (status ≡ status_in output)) ⊎ (status ≡ 16)
      by None k answer h p = absurd (cc)
      by (Some x) k (Ok output) h p = let same : x ≡ m = cc in ends output (there x (Ok output) same h) (three output status before.out now.out p.0)
      by (Some x) k (Err OutOfMemory) h p = inr p.0
      by (Some x) k (Err InvalidArguments) h p = let same : x ≡ m = cc in absurd (no_refusal InvalidArguments (there x (Err InvalidArguments) same h))
      by (Some x) k (Err (CallFailed failure)) (inl h) p = let same : x ≡ m = cc in absurd (no_refusal (CallFailed failure) (there x (Err (CallFailed failure)) same h))
      by (Some x) k (Err (CallFailed failure)) (inr h) p = absurd (quiet failure h.0)
      by (Some x) k (Err (Found finding)) h p = let same : x ≡ m = cc in absurd (no_refusal (Found finding) (there x (Err (Found finding)) same h))

  -- the same of a text
  pub text_completes : (m : FileContents) (P : Check (List ℕ)) → IsOne P → ((answer : Result Output Refusal) → IsAnswer words (held_tree before.trees) m.held false answer → AsText P m.held false answer) → before.files.contents ≡ Some m →
      (text : List ℕ) → P m.held false (Ok text) → ((failure : Failure) → InputsCounted (inputs_of before) (inputs_of now) failure → ⊥) → (FaultCounted before.out now.out → ⊥) → (status ≡ 0) ⊎ (status ≡ 16)
  text_completes m P one is known text right quiet out_quiet = by (completes_of m (AsText P) is known (λ r h. no_text_refusal P m.held text r one right h) quiet out_quiet)
    where
      by : ((output : Output) × AsText P m.held false (Ok output) × (status ≡ status_in output)) ⊎ (status ≡ 16) → (status ≡ 0) ⊎ (status ≡ 16)
      by (inl (output, h, e)) = inl (e ∙ ap status_in (as_text P m.held output h).2)
      by (inr e) = inr e

  printed_now : (prefs : Option Operand) (files : List Operand) (m : FileContents) → job_of words ≡ Some (Merge prefs files) → before.files.contents ≡ Some m → status ≡ 0 →
      (text : List ℕ) × IsPrinted m.held prefs files text × Gains text before.out now.out
  printed_now prefs files m e known z =
      let found = found_text words before now status ran (Merge prefs files) (IsMerge prefs files) m refl e known z in
      (found.text, printed_of m.held prefs files found.text found.right, found.gains)

  pub prints_merger : PrintsMerger words before now status
  prints_merger prefs files m e known z =
      let found = printed_now prefs files m e known z in
      let p = found.1 in
      record {
        logs = p.logs;
        rules = p.rules;
        hold = p.hold;
        prefer = p.prefer;
        common = p.common;
        merger = p.merger;
        is = λ t common. (p.first t common).merger;
        first = p.first;
        within = let here = p.first p.common.map p.common.common in merger_within p.logs p.hold.bytes p.hold.commands (latest_version p.logs) p.merger here.merger.fits.one here.merger.within;
        gains = subst (λ text. Gains text before.out now.out) p.is found.2;
      }

  printed_steered : (prefs : Option Operand) (files : List Operand) (m : FileContents) (logs : List Recorded) (merger : List Change) → job_of words ≡ Some (Merge prefs files) → before.files.contents ≡ Some m → status ≡ 0 →
      HoldLogs m.held files logs → IsMergerOf (all_commands logs) merger → HoldsRules m.held prefs (steering_rules (all_commands logs) merger) → Gains (log_text (latest_version logs) (canonical merger)) before.out now.out
  printed_steered prefs files m logs merger e known z hold is prefer =
      let found = printed_now prefs files m e known z in
      let p = found.1 in
      let same_logs = one_recorded m.held files p.logs logs p.hold.texts hold.texts in
      let common : HasCommonTree (all_commands logs) = subst (λ l. HasCommonTree (all_commands l)) same_logs p.common in
      let same_rules = one_rules m.held prefs p.rules (steering_rules (all_commands logs) merger) p.prefer prefer in
      let first : IsFirstMergerFor (all_commands logs) (steering_rules (all_commands logs) merger) p.merger =
      subst (λ l. IsFirstMergerFor (all_commands l) (steering_rules (all_commands logs) merger) p.merger) same_logs
      (subst (λ r. IsFirstMergerFor (all_commands p.logs) r p.merger) same_rules p.first) in
      let here = first common.map common.common in
      let other = steer_law (all_commands logs) (all_change_held m.held files logs hold.texts) common.map common.common merger (is common.map common.common) in
      let lists : canonical p.merger ≡ canonical merger =
      one_list p.merger merger here.merger.fits.one other.merger.fits.one
      (one_first (at common.map) (drawn_commands (all_commands logs)) (ranking (all_commands logs) (steering_rules (all_commands logs) merger)) p.merger merger
      (drawn_ranked (all_commands logs) (steering_rules (all_commands logs) merger)) here other) in
      subst (λ text. Gains text before.out now.out) (p.is ∙ ap (λ l. log_text (latest_version l) (canonical p.merger)) same_logs ∙ ap (log_text (latest_version logs)) lists) found.2

  pub prints_steered : ((prefs : Option Operand) (files : List Operand) → job_of words ≡ Some (Merge prefs files) → before.trees ≡ []) → PrintsSteered words before now status
  prints_steered alone prefs files m logs merger e known hold common is prefer = (
    λ z. printed_steered prefs files m logs merger e known z hold is prefer,
    λ files_quiet out_quiet. text_completes m (IsMerge prefs files) (merge_one prefs files) (λ answer h. job_answer words (Merge prefs files) (held_tree before.trees) m.held answer e h) known right.0 right.1
        (no_calls before now (alone prefs files e) files_quiet) out_quiet,
  )
    where
      right : (text : List ℕ) × IsMerge prefs files m.held false (Ok text)
      right = merge_right m.held prefs files (record {
        logs = logs;
        rules = steering_rules (all_commands logs) merger;
        hold = hold;
        prefer = prefer;
        common = common;
        named = no_steering_fault (all_commands logs) merger (is common.map common.common).fits.one (is common.map common.common).within;
      })
