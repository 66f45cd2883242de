-- What a recording owes, from the reading of its script and from what was recorded, and its headline.
use Rattle.std.proofs.Common.{◌≡◌, ◌⊎◌, ◌≤◌, false, ℕ, List, [], ◌∷◌, Option, None, Some, Result, Ok, Err, IsErrOf, Vec, Global, inl, inr, refl, sym, ap, subst, ◌∙◌, arith}
use Rattle.std.specs.List.{AllByRecursion}
use Rattle.std.proofs.lemmas.List.{append-nil}
use Rattle.sync_path.specs.Paths.{parts}
use Rattle.sync_command.specs.declared.values.Version.{Version}
use Rattle.sync_command.specs.Maps.{Store, stored}
use Rattle.sync_port.specs.States.{FaultCounted, IfBoth}
use Rattle.sync_port.specs.Ports.{FileContents, FilesState, SinkContents, SinkState}
use Rattle.tree_port.specs.States.{TreeState}
use Rattle.record_core.specs.Outcomes.{CarriesOutScript, Outcome as RecordOutcome, RecordsScript, outcome_of}
use Rattle.record_core.specs.Recording.{InFirst, IsClosed, IsPartDone, LeavesOpen}
use Rattle.record_core.specs.Scripts.{script_of}
use Rattle.record_core.specs.declared.faults.RecordFault.{RecordFault}
use Rattle.record_core.specs.declared.faults.RecordFault.TheVariants as fault
use Rattle.record_core.specs.declared.ops.Op.{Op}
use Rattle.record_core.proofs.CallerLemmas.{outcome_leaves_log, script_valid}
use Rattle.record_core.specs.Validity.{IsOp}
use Rattle.tool_words.specs.Jobs.{job_of}
use Rattle.tool_words.specs.Words.{Operand, Text}
use Rattle.tool_words.specs.declared.job.Job.TheVariants.{Record}
use Rattle.treesync.specs.Apply.{OfOnlyTree}
use Rattle.treesync.specs.Checks.{Answers, FilesCounted, IsAllowed, IsOfJob, IsRight, ReadsFiles, Unless}
use Rattle.treesync.specs.Ends.{Prints, Says}
use Rattle.treesync.specs.Files.{file_answer, text_answer}
use Rattle.treesync.specs.Headline.{CarriesOutHeld, CarriesOutRecord, ComesToEnd, HoldsScript, LeavesRecording, PrintsRecorded, RecordsHeld, end_status}
use Rattle.treesync.specs.Jobs.{IsCountedByFirst, Keeps, NoTreeFell, NoneFailed, Outside, held_tree, inputs_of, limits_of_words}
use Rattle.treesync.specs.Messages.{message_of, status_of}
use Rattle.treesync.specs.Record.{HasOps, IsScript, RecordsOnTree, Script}
use Rattle.treesync.specs.Runs.{CarriesOut, EndsRight, RanRecording, Runs, RunsJob, recording_line, recording_status}
use Rattle.treesync.specs.declared.input.TheConstants.{FILE_LIMIT}
use Rattle.treesync.specs.declared.refusal.Refusal.{Refusal}
use Rattle.treesync.specs.declared.refusal.Refusal.TheVariants.{InvalidArguments, OutOfMemory, CallFailed, Found}
use Rattle.treesync.specs.declared.refusal.Failure.TheVariants.{ReadFailed, TreeFailed, TreeDenied}
use Rattle.treesync.proofs.CheckLemmas.{memory_allowed, reads_nothing}
use Rattle.treesync.proofs.HeldLogs.{file_read, ok_is, ok_no_err}
use Rattle.treesync.proofs.Words.{failure_above, finding_above}

-- ---- the script

-- the script as the definitions see it
abbrev pub script_in : Result (Version × Vec Op Global) Refusal → Result Script Refusal
script_in (Ok read) = Ok (read.0, read.1.items)
script_in (Err r) = Err r

module _ (file : Operand) (before now : FilesState) where
  abbrev ReadsScript : Result (Version × Vec Op Global) Refusal → Type 0
  ReadsScript found = Answers HasOps (IsScript file) ((file.text, FILE_LIMIT) ∷ []) before now found

  script_allowed : (found : Result (Version × Vec Op Global) Refusal) → ReadsScript found → IsAllowed (IsScript file) before.contents (FilesCounted before now) (script_in found)
  script_allowed (Ok read) a = subst (λ s. IsAllowed (IsScript file) before.contents (FilesCounted before now) (Ok s)) (sym a.allowed.1) a.allowed.2
  script_allowed (Err r) a = a.allowed

  script_quiet : (found : Result (Version × Vec Op Global) Refusal) → ReadsScript found → Unless (script_in found) (now.faults ≡ before.faults)
  script_quiet (Ok read) a = a.quiet
  script_quiet (Err InvalidArguments) a = a.quiet
  script_quiet (Err OutOfMemory) a = tt
  script_quiet (Err (CallFailed failure)) a = tt
  script_quiet (Err (Found finding)) a = a.quiet

  script_of_job : (found : Result (Version × Vec Op Global) Refusal) → ReadsScript found → IsOfJob (script_in found)
  script_of_job (Ok read) a = tt
  script_of_job (Err InvalidArguments) a = a.job
  script_of_job (Err OutOfMemory) a = tt
  script_of_job (Err (CallFailed failure)) a = tt
  script_of_job (Err (Found finding)) a = tt

-- ---- a recording

module _ (folder file : Operand) (words : List Text) (before now : Outside) (status : ℕ) where
  -- from what the script is, and what was done with it
  pub recorded_run : (found : Result (Version × Vec Op Global) Refusal) → Answers HasOps (IsScript file) ((file.text, FILE_LIMIT) ∷ []) before.files now.files found →
      CarriesOut folder file words before now status (script_in found) → RanRecording folder file words before now status
  recorded_run found a does = record {
    later = a.later;
    reads = a.reads;
    script = script_in found;
    of_job = script_of_job file before.files now.files found a;
    quiet = script_quiet file before.files now.files found a;
    allowed = script_allowed file before.files now.files found a;
    carries_out = does;
  }

  -- the script was carried out
  pub recorded_ok : (version : Version) (ops : Vec Op Global) (found : Result (Version × Vec Op Global) Refusal) → found ≡ Ok (version, ops) → Answers HasOps (IsScript file) ((file.text, FILE_LIMIT) ∷ []) before.files now.files found →
      (script : List Op) → script ≡ ops.items → (result : Result ℕ RecordFault) (out : SinkState) → now.out ≡ out → OfOnlyTree before.trees now.trees (RecordsOnTree (version, script) result before.out out) →
      (p q : ℕ) → p ≡ folder.place → q ≡ file.place → status ≡ recording_status p q result → Says (recording_line words p q result) before.err now.err → RanRecording folder file words before now status
  recorded_ok version ops found is a script items result out same held p q at_p at_q z says =
      recorded_run found a (subst (λ f. CarriesOut folder file words before now status (script_in f)) (sym is) (
        result,
        subst (λ o. OfOnlyTree before.trees now.trees (RecordsOnTree (version, ops.items) result before.out o)) (sym same) (subst (λ s. OfOnlyTree before.trees now.trees (RecordsOnTree (version, s) result before.out out)) items held),
        z ∙ ap (λ p. recording_status p q result) at_p ∙ ap (λ q. recording_status folder.place q result) at_q,
        subst (λ q. Says (recording_line words folder.place q result) before.err now.err) at_q (subst (λ p. Says (recording_line words p q result) before.err now.err) at_p says),
      ))

  -- it was refused
  pub recorded_err : (r : Refusal) (found : Result (Version × Vec Op Global) Refusal) → found ≡ Err r → Answers HasOps (IsScript file) ((file.text, FILE_LIMIT) ∷ []) before.files now.files found → now.trees ≡ before.trees →
      Prints (Err r) status before.out now.out → Says (message_of words r) before.err now.err → RanRecording folder file words before now status
  recorded_err r found is a trees prints says = recorded_run found a (subst (λ f. CarriesOut folder file words before now status (script_in f)) (sym is) (trees, prints.1, prints.0, says))

  -- memory ran out before the script was read
  pub unread : {r : Refusal} → r ≡ OutOfMemory → inputs_of now ≡ inputs_of before → Prints (Err r) status before.out now.out → Says (message_of words r) before.err now.err → RanRecording folder file words before now status
  unread {r} is same prints says = record {
    later = omega (arith, ap (λ s. s.files.faults) same);
    reads = subst (λ s. IfBoth before.files.contents s.files.contents (ReadsFiles ((file.text, FILE_LIMIT) ∷ []))) (sym same) (reads_nothing ((file.text, FILE_LIMIT) ∷ []) before.files.contents);
    script = Err OutOfMemory;
    of_job = tt;
    quiet = tt;
    allowed = memory_allowed (IsScript file) (FilesCounted before.files now.files) before.files.contents;
    carries_out = (ap (λ s. s.trees) same, prints.1, prints.0 ∙ ap status_of is, subst (λ r. Says (message_of words r) before.err now.err) is says);
  }

  -- ---- what it keeps

  trees_fell : (script : Script) (result : Result ℕ RecordFault) (trees later : List TreeState) → OfOnlyTree trees later (RecordsOnTree script result before.out now.out) → NoTreeFell trees later
  trees_fell script result [] later h = absurd h
  trees_fell script result (tree ∷ []) [] h = absurd h
  trees_fell script result (tree ∷ []) (next ∷ []) h = (h.cause.tree_later, tt)
  trees_fell script result (tree ∷ []) (next ∷ (more ∷ later)) h = absurd h
  trees_fell script result (tree ∷ (more ∷ trees)) later h = absurd h

  none_fell : (trees : List TreeState) → NoTreeFell trees trees
  none_fell [] = tt
  none_fell (tree ∷ trees) = (record { faults = omega arith; denials = omega arith; out_of_memory = omega arith; changes = omega arith }, none_fell trees)

  kept_trees : (script : Result Script Refusal) → CarriesOut folder file words before now status script → NoTreeFell before.trees now.trees
  kept_trees (Ok script) does = trees_fell script does.0 before.trees now.trees does.1
  kept_trees (Err r) does = subst (NoTreeFell before.trees) (sym does.0) (none_fell before.trees)

  out_later : (script : Result Script Refusal) → CarriesOut folder file words before now status script → before.out.faults ≤ now.out.faults
  out_later (Ok script) does = by before.trees now.trees does.1
    where
      by : (trees later : List TreeState) → OfOnlyTree trees later (RecordsOnTree script does.0 before.out now.out) → before.out.faults ≤ now.out.faults
      by [] later h = absurd h
      by (tree ∷ []) [] h = absurd h
      by (tree ∷ []) (next ∷ []) h = h.cause.sink_later
      by (tree ∷ []) (next ∷ (more ∷ later)) h = absurd h
      by (tree ∷ (more ∷ trees)) later h = absurd h
  out_later (Err r) does = omega (arith, ap (λ o. o.faults) does.1)

  pub recording_keeps : job_of words ≡ Some (Record folder file) → RanRecording folder file words before now status → before.err.faults ≤ now.err.faults → Keeps words before now
  recording_keeps e ran err = record {
    files = ran.later;
    trees = kept_trees ran.script ran.carries_out;
    out = out_later ran.script ran.carries_out;
    err = err;
    reads = subst (λ j. IfBoth before.files.contents now.files.contents (ReadsFiles (limits_of_words j))) (sym e) ran.reads;
  }

  -- ---- its status

  not_two : (r : Refusal) → IsOfJob {X = Script} (Err r) → 3 ≤ status_of r
  not_two InvalidArguments h = absurd h
  not_two OutOfMemory h = omega arith
  not_two (CallFailed failure) h = failure_above failure
  not_two (Found finding) h = omega (arith, finding_above finding)

  early_above : (e : RecordFault) → 3 ≤ recording_status folder.place file.place (Err e)
  early_above (fault.OpRefused number why) = omega arith
  early_above fault.TreeFailed = omega arith
  early_above fault.TreeDenied = omega arith
  early_above fault.WriteFault = omega arith
  early_above fault.TooLarge = omega arith
  early_above fault.Memory = omega arith

  is_two : (script : Result Script Refusal) → IsOfJob script → CarriesOut folder file words before now status script → status ≡ 2 → ⊥
  is_two (Err r) job does e = omega (arith, does.2, e, not_two r job)
  is_two (Ok script) job (Ok number, held, z, says) e = omega (arith, z, e)
  is_two (Ok script) job (Err f, held, z, says) e = omega (arith, z, e, early_above f)

  sink_quiet : (script : Script) (number : ℕ) (trees later : List TreeState) → OfOnlyTree trees later (RecordsOnTree script (Ok number) before.out now.out) → now.out.faults ≡ before.out.faults
  sink_quiet script number [] later h = absurd h
  sink_quiet script number (tree ∷ []) [] h = absurd h
  sink_quiet script number (tree ∷ []) (next ∷ []) h = h.cause.sink_quiet
  sink_quiet script number (tree ∷ []) (next ∷ (more ∷ later)) h = absurd h
  sink_quiet script number (tree ∷ (more ∷ trees)) later h = absurd h

  is_done : (script : Result Script Refusal) → IsOfJob script → Unless script (now.files.faults ≡ before.files.faults) → CarriesOut folder file words before now status script → status ≤ 1 → NoneFailed before now
  is_done (Err r) job quiet does e = absurd (omega (arith, does.2, e, not_two r job))
  is_done (Ok script) job quiet (Ok number, held, z, says) e = (quiet, sink_quiet script number before.trees now.trees held)
  is_done (Ok script) job quiet (Err f, held, z, says) e = absurd (omega (arith, z, e, early_above f))

  pub recording_ends : job_of words ≡ Some (Record folder file) → RanRecording folder file words before now status → EndsRight (job_of words) before now status
  recording_ends e ran = record {
    refused = λ two. absurd (is_two ran.script ran.of_job ran.carries_out two);
    invalid = λ none. absurd (cc (e, none));
    done = is_done ran.script ran.of_job ran.quiet ran.carries_out;
  }

  pub recording_runs : job_of words ≡ Some (Record folder file) → RanRecording folder file words before now status → Runs words before now status
  recording_runs e ran = record { does = subst (λ j. RunsJob j words before now status) (sym e) ran }

-- ---- the headline

both_known : {A : Type 0} (a b : Option A) (P : A → A → Type 0) (x : A) → a ≡ Some x → IfBoth a b P → (y : A) × (b ≡ Some y) × P x y
both_known None b P x e h = absurd (cc)
both_known (Some v) None P x e h = absurd h
both_known (Some v) (Some w) P x e h =
    let same : v ≡ x = cc in
    (w, refl, subst (λ v. P v w) same h)

-- what was carried out on a tree that is known
pub record HasCarried (script : Script) (result : Result ℕ RecordFault) (m : Store) (before now : SinkState) (trees later : List TreeState) : Type 0 where
  pub tree : Store
  pub held : held_tree later ≡ Some tree
  pub carries : CarriesOutScript script.0 script.1 result m tree
  pub failed : IsErrOf result fault.TreeFailed → IsCountedByFirst (λ c. c.faults) trees later
  pub write : IsErrOf result fault.WriteFault → FaultCounted before now

carried_on : (script : Script) (result : Result ℕ RecordFault) (m : Store) (before now : SinkState) (trees later : List TreeState) → held_tree trees ≡ Some m →
    OfOnlyTree trees later (RecordsOnTree script result before now) → HasCarried script result m before now trees later
carried_on script result m before now [] later has h = absurd h
carried_on script result m before now (tree ∷ []) [] has h = absurd h
carried_on script result m before now (tree ∷ []) (next ∷ (more ∷ later)) has h = absurd h
carried_on script result m before now (tree ∷ (more ∷ trees)) later has h = absurd h
carried_on script result m before now (tree ∷ []) (next ∷ []) has h =
    let held = both_known tree.contents next.contents (CarriesOutScript script.0 script.1 result) m has h.carried_out in
    record { tree = held.0; held = held.1; carries = held.2; failed = h.cause.failed; write = h.cause.write }

-- what was recorded of a tree and an `out` that are known
pub record HasWritten (script : Script) (result : Result ℕ RecordFault) (m : Store) (x : SinkContents) (before now : SinkState) (trees later : List TreeState) : Type 0 where
  pub tree : Store
  pub held : held_tree later ≡ Some tree
  pub written : SinkContents
  pub known : now.contents ≡ Some written
  pub records : RecordsScript script.0 script.1 result x written m tree
  pub failed : IsErrOf result fault.TreeFailed → IsCountedByFirst (λ c. c.faults) trees later
  pub write : IsErrOf result fault.WriteFault → FaultCounted before now

written_on : (script : Script) (result : Result ℕ RecordFault) (m : Store) (x : SinkContents) (before now : SinkState) (trees later : List TreeState) → held_tree trees ≡ Some m → before.contents ≡ Some x →
    OfOnlyTree trees later (RecordsOnTree script result before now) → HasWritten script result m x before now trees later
written_on script result m x before now [] later has known h = absurd h
written_on script result m x before now (tree ∷ []) [] has known h = absurd h
written_on script result m x before now (tree ∷ []) (next ∷ (more ∷ later)) has known h = absurd h
written_on script result m x before now (tree ∷ (more ∷ trees)) later has known h = absurd h
written_on script result m x before now (tree ∷ []) (next ∷ []) has known h =
    let out = both_known before.contents now.contents (λ v w. IfBoth tree.contents next.contents (RecordsScript script.0 script.1 result v w)) x known h.recorded in
    let held = both_known tree.contents next.contents (RecordsScript script.0 script.1 result x out.0) m has out.2 in
    record { tree = held.0; held = held.1; written = out.0; known = out.1; records = held.2; failed = h.cause.failed; write = h.cause.write }

module _ (folder file : Operand) (before now : Outside) (status : ℕ) (script : Script) (m : Store) (x : SinkContents) (ops : AllByRecursion IsOp script.1) where
  abbrev run : RecordOutcome
  run = outcome_of script.0 m script.1

  abbrev Left : SinkContents → Store → Type 0
  Left y n = LeavesRecording script.0 run status x y m n

  abbrev Completed : Type 0
  Completed = ComesToEnd run before now status

  closed_left : (y : SinkContents) (n : Store) → status ≡ end_status run.end → IsClosed script.0 run.commands x y m n → Left y n
  closed_left y n e is = record {
    closed = λ s. (e, is);
    left = inl is;
    log = λ tree holds. outcome_leaves_log script.0 script.1 x y m n tree holds ops (inl is);
  }

  open_left : (y : SinkContents) (n : Store) → ((status ≡ 0) ⊎ ((status ≡ 12) ⊎ (status ≡ 15)) → ⊥) → LeavesOpen script.0 run.commands x y m n → Left y n
  open_left y n other is = record {
    closed = λ s. absurd (other s);
    left = inr is;
    log = λ tree holds. outcome_leaves_log script.0 script.1 x y m n tree holds ops (inr is);
  }

  no_end : (k : ℕ) → status ≡ k → (k ≡ 0 → ⊥) → (k ≡ 12 → ⊥) → (k ≡ 15 → ⊥) → (status ≡ 0) ⊎ ((status ≡ 12) ⊎ (status ≡ 15)) → ⊥
  no_end k e a b c (inl s) = a (sym e ∙ s)
  no_end k e a b c (inr (inl s)) = b (sym e ∙ s)
  no_end k e a b c (inr (inr s)) = c (sym e ∙ s)

  -- the script was carried out
  carried : (result : Result ℕ RecordFault) → status ≡ recording_status folder.place file.place result → (w : HasWritten script result m x before.out now.out before.trees now.trees) → Left w.written w.tree × Completed
  carried (Ok number) e w =
      let z : status ≡ end_status run.end = e ∙ ap end_status (sym w.records.0) in
      (closed_left w.written w.tree z w.records.1.1, λ tree files out. inl z)
  carried (Err (fault.OpRefused number why)) e w =
      let z : status ≡ end_status run.end = e ∙ ap end_status (sym w.records.0) in
      (closed_left w.written w.tree z w.records.1, λ tree files out. inl z)
  carried (Err fault.TooLarge) e w =
      let z : status ≡ end_status run.end = e ∙ ap end_status (sym w.records.0) in
      (closed_left w.written w.tree z w.records.1, λ tree files out. inl z)
  carried (Err fault.TreeDenied) e w = absurd w.records
  carried (Err fault.TreeFailed) e w =
      (open_left w.written w.tree (no_end 10 e (λ z. omega (arith, z)) (λ z. omega (arith, z)) (λ z. omega (arith, z))) w.records, λ tree files out. absurd (tree (w.failed refl)))
  carried (Err fault.WriteFault) e w =
      (open_left w.written w.tree (no_end 4 e (λ z. omega (arith, z)) (λ z. omega (arith, z)) (λ z. omega (arith, z))) w.records, λ tree files out. absurd (out (w.write refl)))
  carried (Err fault.Memory) e w =
      (open_left w.written w.tree (no_end 16 e (λ z. omega (arith, z)) (λ z. omega (arith, z)) (λ z. omega (arith, z))) w.records, λ tree files out. inr e)

  pub carried_held : (result : Result ℕ RecordFault) → status ≡ recording_status folder.place file.place result → HasWritten script result m x before.out now.out before.trees now.trees → RecordsHeld script m x before now status
  carried_held result e w =
      let c = carried result e w in
      record { tree = w.tree; held = w.held; written = w.written; known = w.known; leaves = c.0; completes = c.1 }

  -- the script was not read: nothing was written, and the tree is as it was
  pub unread_held : (k : ℕ) → status ≡ k → (k ≡ 0 → ⊥) → (k ≡ 12 → ⊥) → (k ≡ 15 → ⊥) → now.trees ≡ before.trees → now.out ≡ before.out → held_tree before.trees ≡ Some m → before.out.contents ≡ Some x → Completed →
      RecordsHeld script m x before now status
  unread_held k e a b c trees out has known completes = record {
    tree = m;
    held = ap held_tree trees ∙ has;
    written = x;
    known = ap (λ o. o.contents) out ∙ known;
    leaves = open_left x m (no_end k e a b c) (InFirst 0 (sym (append-nil x.written)) refl);
    completes = completes;
  }

-- the same of the tree alone
module _ (folder file : Operand) (before now : Outside) (status : ℕ) (script : Script) (m : Store) where
  abbrev of_script : RecordOutcome
  of_script = outcome_of script.0 m script.1

  all_done : (n : Store) → n ≡ stored m of_script.commands → IsPartDone of_script.commands m n
  all_done n is = record { done = of_script.commands; rest = []; all = sym (append-nil of_script.commands); tree = is }

  abbrev Ended : Store → Type 0
  Ended n = (status ≡ 0) ⊎ ((status ≡ 12) ⊎ (status ≡ 15)) → (status ≡ end_status of_script.end) × (n ≡ stored m of_script.commands)

  not_ended : (n : Store) (k : ℕ) → status ≡ k → (k ≡ 0 → ⊥) → (k ≡ 12 → ⊥) → (k ≡ 15 → ⊥) → Ended n
  not_ended n k e a b c (inl s) = absurd (a (sym e ∙ s))
  not_ended n k e a b c (inr (inl s)) = absurd (b (sym e ∙ s))
  not_ended n k e a b c (inr (inr s)) = absurd (c (sym e ∙ s))

  carried_tree : (result : Result ℕ RecordFault) → status ≡ recording_status folder.place file.place result → (w : HasCarried script result m before.out now.out before.trees now.trees) →
      Ended w.tree × IsPartDone of_script.commands m w.tree × ComesToEnd of_script before now status
  carried_tree (Ok number) e w =
      let z : status ≡ end_status of_script.end = e ∙ ap end_status (sym w.carries.0) in
      ((λ s. (z, w.carries.1.1)), all_done w.tree w.carries.1.1, λ tree files out. inl z)
  carried_tree (Err (fault.OpRefused number why)) e w =
      let z : status ≡ end_status of_script.end = e ∙ ap end_status (sym w.carries.0) in
      ((λ s. (z, w.carries.1)), all_done w.tree w.carries.1, λ tree files out. inl z)
  carried_tree (Err fault.TooLarge) e w =
      let z : status ≡ end_status of_script.end = e ∙ ap end_status (sym w.carries.0) in
      ((λ s. (z, w.carries.1)), all_done w.tree w.carries.1, λ tree files out. inl z)
  carried_tree (Err fault.TreeDenied) e w = absurd w.carries
  carried_tree (Err fault.TreeFailed) e w =
      (not_ended w.tree 10 e (λ z. omega (arith, z)) (λ z. omega (arith, z)) (λ z. omega (arith, z)), w.carries, λ tree files out. absurd (tree (w.failed refl)))
  carried_tree (Err fault.WriteFault) e w =
      (not_ended w.tree 4 e (λ z. omega (arith, z)) (λ z. omega (arith, z)) (λ z. omega (arith, z)), w.carries, λ tree files out. absurd (out (w.write refl)))
  carried_tree (Err fault.Memory) e w =
      (not_ended w.tree 16 e (λ z. omega (arith, z)) (λ z. omega (arith, z)) (λ z. omega (arith, z)), w.carries, λ tree files out. inr e)

  pub carried_out_held : (result : Result ℕ RecordFault) → status ≡ recording_status folder.place file.place result → HasCarried script result m before.out now.out before.trees now.trees → CarriesOutHeld script m before now status
  carried_out_held result e w =
      let c = carried_tree result e w in
      record { tree = w.tree; held = w.held; ended = c.0; part = c.1; completes = c.2 }

  pub not_carried_out : (k : ℕ) → status ≡ k → (k ≡ 0 → ⊥) → (k ≡ 12 → ⊥) → (k ≡ 15 → ⊥) → now.trees ≡ before.trees → held_tree before.trees ≡ Some m → ComesToEnd of_script before now status → CarriesOutHeld script m before now status
  not_carried_out k e a b c trees has completes = record {
    tree = m;
    held = ap held_tree trees ∙ has;
    ended = not_ended m k e a b c;
    part = record { done = []; rest = of_script.commands; all = refl; tree = refl };
    completes = completes;
  }

module _ (words : List Text) (before now : Outside) (status : ℕ) (runs : Runs words before now status) (folder file : Operand) (m : FileContents) (script : Script) (tree : Store)
    (e : job_of words ≡ Some (Record folder file)) (known : before.files.contents ≡ Some m) (holds : HoldsScript m.held file script) (has : held_tree before.trees ≡ Some tree) where
  ran : RanRecording folder file words before now status
  ran = subst (λ j. RunsJob j words before now status) e runs.does

  ops : AllByRecursion IsOp script.1
  ops = script_valid (parts 10 holds.text) script.0 script.1 holds.read

  text_read : file_answer FILE_LIMIT file.place (m.held file.text) ≡ Ok holds.text
  text_read = sym (file_read m.held FILE_LIMIT file.place file.text holds.text holds.there holds.bytes)

  -- the only right answer of the reading is the script that is held
  right_script : (answer : Result Script Refusal) → IsScript file m.held false answer → answer ≡ Ok script
  right_script answer (inl h) = absurd (ok_no_err (sym text_read ∙ sym h.1))
  right_script answer (inr h) =
      h.2 ∙ ap (λ bytes. text_answer file.place (script_of (parts 10 bytes))) (ok_is (h.1 ∙ text_read)) ∙ ap (text_answer file.place) holds.read

  read_so : (known : Option FileContents) (answer : Result Script Refusal) → known ≡ Some m → IsAllowed (IsScript file) known (FilesCounted before.files now.files) answer →
      IsRight (IsScript file) m.held (FilesCounted before.files now.files) answer
  read_so known answer e h = subst (λ c. IsAllowed (IsScript file) c (FilesCounted before.files now.files) answer) e h

  not_read : (r : Refusal) → IsScript file m.held false (Err r) → ⊥
  not_read r h = ok_no_err (sym (right_script (Err r) h))

  -- the script was carried out, or it was not read
  module _ (P : Type 0) (carried_by : (result : Result ℕ RecordFault) → status ≡ recording_status folder.place file.place result → OfOnlyTree before.trees now.trees (RecordsOnTree script result before.out now.out) → P)
      (unread_by : (k : ℕ) → status ≡ k → (k ≡ 0 → ⊥) → (k ≡ 12 → ⊥) → (k ≡ 15 → ⊥) → now.trees ≡ before.trees → now.out ≡ before.out → ComesToEnd (outcome_of script.0 tree script.1) before now status → P) where
    held_by : (answer : Result Script Refusal) → IsOfJob answer → IsRight (IsScript file) m.held (FilesCounted before.files now.files) answer → CarriesOut folder file words before now status answer → P
    held_by (Ok read) job right does =
        let same : read ≡ script = ok_is (right_script (Ok read) right) in
        carried_by does.0 does.2 (subst (λ s. OfOnlyTree before.trees now.trees (RecordsOnTree s does.0 before.out now.out)) same does.1)
    held_by (Err InvalidArguments) job right does = absurd job
    held_by (Err OutOfMemory) job right does =
        unread_by 16 does.2 (λ z. omega (arith, z)) (λ z. omega (arith, z)) (λ z. omega (arith, z)) does.0 does.1 (λ tree files out. inr does.2)
    held_by (Err (CallFailed (ReadFailed word))) job right does =
        unread_by 3 does.2 (λ z. omega (arith, z)) (λ z. omega (arith, z)) (λ z. omega (arith, z)) does.0 does.1 (λ tree files out. absurd (counted right files))
      where
        counted : IsRight (IsScript file) m.held (FilesCounted before.files now.files) (Err (CallFailed (ReadFailed word))) → (FaultCounted before.files now.files → ⊥) → ⊥
        counted (inl h) quiet = not_read (CallFailed (ReadFailed word)) h
        counted (inr h) quiet = quiet h.0
    held_by (Err (CallFailed (TreeFailed word))) job (inl h) does = absurd (not_read (CallFailed (TreeFailed word)) h)
    held_by (Err (CallFailed (TreeFailed word))) job (inr h) does = absurd h.0
    held_by (Err (CallFailed (TreeDenied word))) job (inl h) does = absurd (not_read (CallFailed (TreeDenied word)) h)
    held_by (Err (CallFailed (TreeDenied word))) job (inr h) does = absurd h.0
    held_by (Err (Found finding)) job right does = absurd (not_read (Found finding) right)

    of_run : P
    of_run = held_by ran.script ran.of_job (read_so before.files.contents ran.script known ran.allowed) ran.carries_out

  pub script_carried_out : CarriesOutHeld script tree before now status
  script_carried_out =
      of_run (CarriesOutHeld script tree before now status)
      (λ result z on. carried_out_held folder file before now status script tree result z (carried_on script result tree before.out now.out before.trees now.trees has on))
      (λ k z a b c trees out completes. not_carried_out folder file before now status script tree k z a b c trees has completes)

  pub records_held : (x : SinkContents) → before.out.contents ≡ Some x → RecordsHeld script tree x before now status
  records_held x has_out =
      of_run (RecordsHeld script tree x before now status)
      (λ result z on. carried_held folder file before now status script tree x ops result z (written_on script result tree x before.out now.out before.trees now.trees has has_out on))
      (λ k z a b c trees out completes. unread_held folder file before now status script tree x ops k z a b c trees out has has_out completes)

pub prints_recorded : (words : List Text) (before now : Outside) (status : ℕ) → Runs words before now status → PrintsRecorded words before now status
prints_recorded words before now status runs folder file m script tree x e known holds has has_out = records_held words before now status runs folder file m script tree e known holds has x has_out

pub carries_out_record : (words : List Text) (before now : Outside) (status : ℕ) → Runs words before now status → CarriesOutRecord words before now status
carries_out_record words before now status runs folder file m script tree e known holds has = script_carried_out words before now status runs folder file m script tree e known holds has
