-- What finding the answer of words owes, and how a run ends.
use Rattle.std.proofs.Common.{◌≡◌, ◌⊎◌, ◌≤◌, ℕ, List, [], ◌∷◌, length, Option, Result, None, Some, Ok, Err, Vec, Global, inl, inr, refl, sym, ap, subst, ◌∙◌, arith}
use Rattle.sync_command.specs.Maps.{Store}
use Rattle.sync_port.specs.States.{IfBoth}
use Rattle.sync_port.specs.Ports.{FileContents, FilesState, SinkState}
use Rattle.tool_words.specs.declared.job.Job.{Job}
use Rattle.tool_words.specs.declared.job.Job.TheVariants.{Help, Replay, Canon, Conflicts, Merge, Transition, Steer, Record, Seal, Apply, Drill, Sync, Explain, Undo, Catchup, Rebase}
use Rattle.treesync.specs.Answering.{StandsForOutput, of_text, output_of}
use Rattle.treesync.specs.Checks.{Answers, Causes, Check, FilesCounted, HasItems, IsAllowed, IsAllowedOf, IsOfJob, ReadsFiles, Unless, seen}
use Rattle.treesync.specs.Apply.{IsApply}
use Rattle.treesync.specs.Runs.{IsAnswered}
use Rattle.treesync.specs.Seal.{IsSeal}
use Rattle.treesync.specs.Ends.{Prints}
use Rattle.tree_port.specs.States.{TreeState}
use Rattle.tool_words.specs.Jobs.{job_of}
use Rattle.tool_words.specs.Trees.{asked_folders, folder_places, job_folders}
use Rattle.tool_words.specs.Words.{Operand, Text, places_of}
use Rattle.treesync.specs.Jobs.{Finds, FindsFrom, FindsJob, FindsText, Inputs, InputsCounted, IsAnswerOf, IsJobAnswer, LeavesTrees, LeavesTreesOf, NoTreeFell, held_tree, limits_of, limits_of_words, shows_output, shows_text}
use Rattle.treesync.specs.Messages.{failure_status, finding_status}
use Rattle.treesync.specs.Outputs.{AsText, Output, WholeText, status_in}
use Rattle.treesync.specs.declared.answer.Answer.{Answer}
use Rattle.treesync.specs.declared.answer.Answer.TheVariants.{Text as TextAnswer}
use Rattle.treesync.proofs.OutputLemmas.{Three, low_status, text_allowed, three, whole_status}
use Rattle.treesync.proofs.Applying.{IsAlike, ShowsAlike, applied_alike, applied_fell}
use Rattle.treesync.proofs.Sealing.{looked_alike, looked_fell}
use Rattle.treesync.proofs.CheckLemmas.{allowed_more, memory_allowed, reads_nothing}
use Rattle.treesync.specs.declared.refusal.Refusal.{Refusal}
use Rattle.treesync.specs.declared.refusal.Failure.{Failure}
use Rattle.treesync.specs.declared.refusal.Failure.TheVariants.{ReadFailed, TreeFailed, TreeDenied}
use Rattle.treesync.specs.declared.refusal.Finding.{Finding}
use Rattle.treesync.specs.declared.refusal.Refusal.TheVariants.{InvalidArguments, OutOfMemory, CallFailed, Found}

-- ---- finding the answer

abbrev pub Outcome : Type 0
Outcome = Result Answer Refusal

-- what is printed of it
abbrev pub seen_output : Outcome → Result Output Refusal
seen_output found = seen output_of found

abbrev pub FindsOutput : Option Job → Inputs → Inputs → Outcome → Type 0
FindsOutput words before now found = Finds StandsForOutput words before now found

-- the answer of the job that the words are is that of the words
pub found_job : (job : Job) (words : Option Job) (before now : Inputs) (found : Outcome) → words ≡ Some job →
    FindsJob StandsForOutput job before now found → FindsOutput words before now found
found_job job words before now found e a = subst (λ w. FindsOutput w before now found) (sym e) a

pub invalid : (words : Option Job) (state : Inputs) → words ≡ None → FindsOutput words state state (Err InvalidArguments)
invalid words state e = subst (λ w. FindsOutput w state state (Err InvalidArguments)) (sym e) (inl refl, refl)

-- the trees of a job stay where it is refused, and those of a job that has none
still_refused : (job : Job) (files : Option FileContents) (r : Refusal) (trees : List TreeState) → LeavesTrees {X = Answer} (shows_text StandsForOutput) job files (Err r) trees trees
still_refused (Apply folder file) files r trees = inl (refl, tt)
still_refused (Seal folder file) files r trees = inl refl
still_refused (Record folder file) files r trees = refl
still_refused Help files r trees = refl
still_refused (Replay snap log) files r trees = refl
still_refused (Canon log) files r trees = refl
still_refused (Conflicts logs) files r trees = refl
still_refused (Merge prefs logs) files r trees = refl
still_refused (Transition number prefs logs) files r trees = refl
still_refused (Steer set logs) files r trees = refl
still_refused (Drill seed logs steps) files r trees = refl
still_refused (Sync prefs folders logs) files r trees = refl
still_refused (Explain prefs logs) files r trees = refl
still_refused (Undo set) files r trees = refl
still_refused (Catchup sets) files r trees = refl
still_refused (Rebase side prefs work sets) files r trees = refl

pub memory_found : (job : Job) (state : Inputs) → FindsJob {X = Answer} StandsForOutput job state state (Err OutOfMemory)
memory_found job state = record {
  later = omega arith;
  quiet = tt;
  reads = reads_nothing (limits_of job) state.files.contents;
  allowed = memory_allowed (IsJobAnswer job (held_tree state.trees)) (InputsCounted state state) state.files.contents;
  of_job = tt;
  trees = still_refused job state.files.contents OutOfMemory state.trees;
}

pub no_memory : (words : Option Job) (state : Inputs) → FindsOutput words state state (Err OutOfMemory)
no_memory None state = (inr refl, refl)
no_memory (Some job) state = memory_found job state

-- ---- a job without trees

stays : (job : Job) (files : Option FileContents) (found : Outcome) (trees : List TreeState) → job_folders job ≡ [] → LeavesTrees (shows_text StandsForOutput) job files found trees trees
stays (Apply folder file) files found trees empty = absurd (cc)
stays (Seal folder file) files found trees empty = absurd (cc)
stays (Record folder file) files found trees empty = absurd (cc)
stays Help files found trees empty = refl
stays (Replay snap log) files found trees empty = refl
stays (Canon log) files found trees empty = refl
stays (Conflicts logs) files found trees empty = refl
stays (Merge prefs logs) files found trees empty = refl
stays (Transition number prefs logs) files found trees empty = refl
stays (Steer set logs) files found trees empty = refl
stays (Drill seed logs steps) files found trees empty = refl
stays (Sync prefs folders logs) files found trees empty = refl
stays (Explain prefs logs) files found trees empty = refl
stays (Undo set) files found trees empty = refl
stays (Catchup sets) files found trees empty = refl
stays (Rebase side prefs work sets) files found trees empty = refl

pub files_among_inputs : (before now : Inputs) (failure : Failure) → FilesCounted before.files now.files failure → InputsCounted before now failure
files_among_inputs before now (ReadFailed word) h = h
files_among_inputs before now (TreeFailed word) h = absurd h
files_among_inputs before now (TreeDenied word) h = absurd h

-- what a job owes that reads files alone
pub files_found : (job : Job) (before now : FilesState) (trees : List TreeState) (found : Outcome) → job_folders job ≡ [] →
    Answers StandsForOutput (IsJobAnswer job (held_tree trees)) (limits_of job) before now found → FindsJob StandsForOutput job (record { files = before; trees = trees }) (record { files = now; trees = trees }) found
files_found job before now trees found empty a = record {
  later = a.later;
  quiet = a.quiet;
  reads = a.reads;
  allowed = allowed_more StandsForOutput (IsJobAnswer job (held_tree trees)) (FilesCounted before now) _ before.contents found (files_among_inputs (record { files = before; trees = trees }) (record { files = now; trees = trees })) a.allowed;
  of_job = a.job;
  trees = stays job before.contents found trees empty;
}

-- ---- what was found

-- nothing was called, and the words or memory are to blame
none_allowed : (counted : Causes) (tree : Option Store) (known : Option FileContents) (found : Outcome) → (found ≡ Err InvalidArguments) ⊎ (found ≡ Err OutOfMemory) →
    IsAllowed (IsAnswerOf None tree) known counted (seen_output found)
none_allowed counted tree known found (inl e) = subst (λ f. IsAllowed (IsAnswerOf None tree) known counted (seen_output f)) (sym e) (by known)
  where
    by : (known : Option FileContents) → IsAllowed (IsAnswerOf None tree) known counted (Err InvalidArguments)
    by None = tt
    by (Some m) = refl
none_allowed counted tree known found (inr e) = subst (λ f. IsAllowed (IsAnswerOf None tree) known counted (seen_output f)) (sym e) (by known)
  where
    by : (known : Option FileContents) → IsAllowed (IsAnswerOf None tree) known counted (Err OutOfMemory)
    by None = tt
    by (Some m) = tt

-- the output that an answer stands for is its own
seen_allowed : (P : Check Output) (known : Option FileContents) (counted : Causes) (found : Outcome) → IsAllowedOf StandsForOutput P known counted found → IsAllowed P known counted (seen_output found)
seen_allowed P known counted (Ok text) h = subst (λ a. IsAllowed P known counted (Ok a)) (sym h.1) h.2
seen_allowed P known counted (Err r) h = h

pub found_allowed : (words : Option Job) (before now : Inputs) (found : Outcome) → FindsOutput words before now found →
    IsAllowed (IsAnswerOf words (held_tree before.trees)) before.files.contents (InputsCounted before now) (seen_output found)
found_allowed None before now found f = none_allowed (InputsCounted before now) (held_tree before.trees) before.files.contents found f.0
found_allowed (Some job) before now found f = seen_allowed (IsJobAnswer job (held_tree before.trees)) before.files.contents (InputsCounted before now) found f.allowed

-- what becomes of the trees does not depend on the value of an answer
pub trees_alike : {X Y : Type 0} (shows : X → List ℕ → Type 0) (other_shows : Y → List ℕ → Type 0) (job : Job) (files : Option FileContents) (found : Result X Refusal) (other : Result Y Refusal) (trees later : List TreeState) →
    IsAlike found other → ShowsAlike shows other_shows found other → LeavesTrees shows job files found trees later → LeavesTrees other_shows job files other trees later
trees_alike shows other_shows (Apply folder file) files found other trees later same texts h = applied_alike shows other_shows file files found other same texts trees later h
trees_alike shows other_shows (Seal folder file) files found other trees later same texts h = looked_alike found other trees later same h
trees_alike shows other_shows (Record folder file) files found other trees later same texts h = h
trees_alike shows other_shows Help files found other trees later same texts h = h
trees_alike shows other_shows (Replay snap log) files found other trees later same texts h = h
trees_alike shows other_shows (Canon log) files found other trees later same texts h = h
trees_alike shows other_shows (Conflicts logs) files found other trees later same texts h = h
trees_alike shows other_shows (Merge prefs logs) files found other trees later same texts h = h
trees_alike shows other_shows (Transition number prefs logs) files found other trees later same texts h = h
trees_alike shows other_shows (Steer set logs) files found other trees later same texts h = h
trees_alike shows other_shows (Drill seed logs steps) files found other trees later same texts h = h
trees_alike shows other_shows (Sync prefs folders logs) files found other trees later same texts h = h
trees_alike shows other_shows (Explain prefs logs) files found other trees later same texts h = h
trees_alike shows other_shows (Undo set) files found other trees later same texts h = h
trees_alike shows other_shows (Catchup sets) files found other trees later same texts h = h
trees_alike shows other_shows (Rebase side prefs work sets) files found other trees later same texts h = h

seen_alike : (found : Outcome) → IsAlike found (seen_output found)
seen_alike (Ok answer) = tt
seen_alike (Err r) = refl

seen_shows : (found : Outcome) → ShowsAlike (shows_text StandsForOutput) shows_output found (seen_output found)
seen_shows (Ok answer) = λ text h. h
seen_shows (Err r) = tt

pub found_trees : (words : Option Job) (before now : Inputs) (found : Outcome) → FindsOutput words before now found → LeavesTreesOf words before.files.contents (seen_output found) before.trees now.trees
found_trees None before now found f = ap (λ s. s.trees) f.1
found_trees (Some job) before now found f = trees_alike (shows_text StandsForOutput) shows_output job before.files.contents found (seen_output found) before.trees now.trees (seen_alike found) (seen_shows found) f.trees

none_fell : (trees : List TreeState) → NoTreeFell trees trees
none_fell [] = tt
none_fell (tree ∷ trees) = (record { faults = omega arith; denials = omega arith; out_of_memory = omega arith; changes = omega arith }, none_fell trees)

same_fell : (trees later : List TreeState) → later ≡ trees → NoTreeFell trees later
same_fell trees later e = subst (NoTreeFell trees) (sym e) (none_fell trees)

pub trees_later : (words : Option Job) (files : Option FileContents) (answer : Result Output Refusal) (trees later : List TreeState) → LeavesTreesOf words files answer trees later → NoTreeFell trees later
trees_later None files answer trees later h = same_fell trees later h
trees_later (Some (Apply folder file)) files answer trees later (inl h) = same_fell trees later h.0
trees_later (Some (Apply folder file)) files answer trees later (inr h) = applied_fell shows_output file files answer trees later h
trees_later (Some (Seal folder file)) files answer trees later (inl h) = same_fell trees later h
trees_later (Some (Seal folder file)) files answer trees later (inr h) = looked_fell answer trees later h
trees_later (Some (Record folder file)) files answer trees later h = same_fell trees later h
trees_later (Some Help) files answer trees later h = same_fell trees later h
trees_later (Some (Replay snap log)) files answer trees later h = same_fell trees later h
trees_later (Some (Canon log)) files answer trees later h = same_fell trees later h
trees_later (Some (Conflicts logs)) files answer trees later h = same_fell trees later h
trees_later (Some (Merge prefs logs)) files answer trees later h = same_fell trees later h
trees_later (Some (Transition number prefs logs)) files answer trees later h = same_fell trees later h
trees_later (Some (Steer set logs)) files answer trees later h = same_fell trees later h
trees_later (Some (Drill seed logs steps)) files answer trees later h = same_fell trees later h
trees_later (Some (Sync prefs folders logs)) files answer trees later h = same_fell trees later h
trees_later (Some (Explain prefs logs)) files answer trees later h = same_fell trees later h
trees_later (Some (Undo set)) files answer trees later h = same_fell trees later h
trees_later (Some (Catchup sets)) files answer trees later h = same_fell trees later h
trees_later (Some (Rebase side prefs work sets)) files answer trees later h = same_fell trees later h

pub found_later : (words : Option Job) (before now : Inputs) (found : Outcome) → FindsOutput words before now found → before.files.faults ≤ now.files.faults
found_later None before now found f = omega (arith, ap (λ s. s.files.faults) f.1)
found_later (Some job) before now found f = f.later

pub found_reads : (words : Option Job) (before now : Inputs) (found : Outcome) → FindsOutput words before now found → IfBoth before.files.contents now.files.contents (ReadsFiles (limits_of_words words))
found_reads None before now found f = subst (λ s. IfBoth before.files.contents s.files.contents (ReadsFiles (limits_of_words None))) (sym f.1) (reads_nothing (limits_of_words None) before.files.contents)
found_reads (Some job) before now found f = f.reads

-- ---- statuses

-- no finding has a status of the other refusals, or of an output that was printed
pub finding_above : (finding : Finding) → 5 ≤ finding_status finding
finding_above finding = grind arith

pub failure_above : (failure : Failure) → 3 ≤ failure_status failure
failure_above failure = grind arith

-- a status of an output, or of a refusal that a job has
not_two : (found : Outcome) (status : ℕ) (a b : SinkState) → IsOfJob found → Prints (seen_output found) status a b → status ≡ 2 → ⊥
not_two (Ok answer) status a b h p e = by (three (output_of answer) status a b p.0) (low_status (output_of answer))
  where
    by : Three (output_of answer) status a b → status_in (output_of answer) ≤ 1 → ⊥
    by (inl z) low = omega (arith, z.0)
    by (inr (inl z)) low = omega (arith, z.0)
    by (inr (inr z)) low = omega (arith, z.0)
not_two (Err InvalidArguments) status a b h p e = h
not_two (Err OutOfMemory) status a b h p e = omega (arith, p.0)
not_two (Err (CallFailed failure)) status a b h p e = omega (arith, p.0, failure_above failure)
not_two (Err (Found finding)) status a b h p e = omega (arith, p.0, finding_above finding)

-- status 2 means that the words are no job
pub refused_means : (words : Option Job) (before now : Inputs) (found : Outcome) (status : ℕ) (a b : SinkState) →
    FindsOutput words before now found → Prints (seen_output found) status a b → status ≡ 2 → words ≡ None
refused_means None before now found status a b f p e = refl
refused_means (Some job) before now found status a b f p e = absurd (not_two found status a b f.of_job p e)

-- and invalid arguments have status 2 or 16
none_status : (found : Outcome) (status : ℕ) (a b : SinkState) → (found ≡ Err InvalidArguments) ⊎ (found ≡ Err OutOfMemory) → Prints (seen_output found) status a b → (status ≡ 2) ⊎ (status ≡ 16)
none_status found status a b (inl e) p = inl ((subst (λ f. Prints (seen_output f) status a b) e p).0)
none_status found status a b (inr e) p = inr ((subst (λ f. Prints (seen_output f) status a b) e p).0)

pub invalid_means : (words : Option Job) (before now : Inputs) (found : Outcome) (status : ℕ) (a b : SinkState) →
    FindsOutput words before now found → Prints (seen_output found) status a b → words ≡ None → (status ≡ 2) ⊎ (status ≡ 16)
invalid_means words before now found status a b f p e = none_status found status a b (subst (λ w. FindsOutput w before now found) e f).0 p

-- with the status of a whole output one was found and printed, and no call failed
done_found : (found : Outcome) (status : ℕ) (a b : SinkState) → Prints (seen_output found) status a b → status ≤ 1 → ((answer : Answer) × (found ≡ Ok answer)) × (b.faults ≡ a.faults)
done_found (Ok answer) status a b p e = ((answer, refl), (whole_status (output_of answer) status a b e p.0).1)
done_found (Err InvalidArguments) status a b p e = absurd (omega (arith, p.0, e))
done_found (Err OutOfMemory) status a b p e = absurd (omega (arith, p.0, e))
done_found (Err (CallFailed failure)) status a b p e = absurd (omega (arith, p.0, e, failure_above failure))
done_found (Err (Found finding)) status a b p e = absurd (omega (arith, p.0, e, finding_above finding))

quiet_answer : (words : Option Job) (before now : Inputs) (answer : Answer) → FindsOutput words before now (Ok answer) → now.files.faults ≡ before.files.faults
quiet_answer None before now answer f = ap (λ s. s.files.faults) f.1
quiet_answer (Some job) before now answer f = f.quiet

pub none_failed : (words : Option Job) (before now : Inputs) (found : Outcome) (status : ℕ) (a b : SinkState) →
    FindsOutput words before now found → Prints (seen_output found) status a b → status ≤ 1 → (now.files.faults ≡ before.files.faults) × (b.faults ≡ a.faults)
none_failed words before now found status a b f p e =
    let d = done_found found status a b p e in
    (quiet_answer words before now d.0.0 (subst (FindsOutput words before now) d.0.1 f), d.1)

-- ---- an answer that is made of a text

quiet_alike : (X Y : Type 0) (r : Refusal) (P : Type 0) → Unless {X = X} (Err r) P → Unless {X = Y} (Err r) P
quiet_alike X Y InvalidArguments P h = h
quiet_alike X Y OutOfMemory P h = h
quiet_alike X Y (CallFailed failure) P h = h
quiet_alike X Y (Found finding) P h = h

of_job_alike : (X Y : Type 0) (r : Refusal) → IsOfJob {X = X} (Err r) → IsOfJob {X = Y} (Err r)
of_job_alike X Y InvalidArguments h = h
of_job_alike X Y OutOfMemory h = h
of_job_alike X Y (CallFailed failure) h = h
of_job_alike X Y (Found finding) h = h

refusal_allowed : (P : Check (List ℕ)) (counted : Causes) (known : Option FileContents) (r : Refusal) → IsAllowed P known counted (Err r) → IsAllowed (AsText P) known counted (Err r)
refusal_allowed P counted None InvalidArguments h = h
refusal_allowed P counted None OutOfMemory h = h
refusal_allowed P counted None (CallFailed failure) h = h
refusal_allowed P counted None (Found finding) h = h
refusal_allowed P counted (Some m) InvalidArguments h = inl (InvalidArguments, h, refl)
refusal_allowed P counted (Some m) OutOfMemory h = h
refusal_allowed P counted (Some m) (CallFailed failure) (inl h) = inl (inl (CallFailed failure, h, refl))
refusal_allowed P counted (Some m) (CallFailed failure) (inr h) = inr (h.0, inl (CallFailed failure, h.1, refl))
refusal_allowed P counted (Some m) (Found finding) h = inl (Found finding, h, refl)

text_found : (P : Check (List ℕ)) (job : Job) (before now : Inputs) (found : Result (Vec ℕ Global) Refusal) → FindsText P job before now found → FindsFrom StandsForOutput (shows_text StandsForOutput) (AsText P) job before now (of_text found)
text_found P job before now (Ok text) f = record {
  later = f.later;
  quiet = f.quiet;
  reads = f.reads;
  allowed = (
    WholeText text.items,
    refl,
    text_allowed P (InputsCounted before now) before.files.contents text.items (subst (λ t. IsAllowed P before.files.contents (InputsCounted before now) (Ok t)) (sym f.allowed.1) f.allowed.2),
  );
  of_job = tt;
  trees = trees_alike HasItems (shows_text StandsForOutput) job before.files.contents (Ok text) (Ok (TextAnswer text)) before.trees now.trees tt (λ t e. ap WholeText e) f.trees;
}
text_found P job before now (Err r) f = record {
  later = f.later;
  quiet = quiet_alike (Vec ℕ Global) Answer r (now.files.faults ≡ before.files.faults) f.quiet;
  reads = f.reads;
  allowed = refusal_allowed P (InputsCounted before now) before.files.contents r f.allowed;
  of_job = of_job_alike (Vec ℕ Global) Answer r f.of_job;
  trees = trees_alike {X = Vec ℕ Global} {Y = Answer} HasItems (shows_text StandsForOutput) job before.files.contents (Err r) (Err r) before.trees now.trees refl tt f.trees;
}

-- the answer of a command that makes its text whole
pub found_text_of : (P : Check (List ℕ)) (job : Job) (before now : Inputs) (found : Result (Vec ℕ Global) Refusal) (result : Outcome) → result ≡ of_text found → FindsText P job before now found → FindsFrom StandsForOutput (shows_text StandsForOutput) (AsText P) job before now result
found_text_of P job before now found result e f = subst (FindsFrom StandsForOutput (shows_text StandsForOutput) (AsText P) job before now) (sym e) (text_found P job before now found f)

-- a job that names no folder has no trees
pub no_trees_of : (words : List Text) (trees : List TreeState) → length trees ≡ length (folder_places words) → (job : Job) → job_of words ≡ Some job → job_folders job ≡ [] → trees ≡ []
no_trees_of words [] e job f empty = refl
no_trees_of words (tree ∷ trees) e job f empty =
    let count : length (folder_places words) ≡ 0 = ap (λ j. length (places_of (asked_folders j))) f ∙ ap (λ l. length (places_of l)) empty in
    absurd (omega (arith, e, count))

-- a job that is no recording and no round, and neither seals nor applies, names no folder
pub no_folders : (job : Job) → IsAnswered job → ((folder file : Operand) → job ≡ Seal folder file → ⊥) → ((folder file : Operand) → job ≡ Apply folder file → ⊥) → job_folders job ≡ []
no_folders (Record folder file) answered seal other = absurd answered
no_folders (Sync prefs folders logs) answered seal other = absurd answered
no_folders (Seal folder file) answered seal other = absurd (seal folder file refl)
no_folders (Apply folder file) answered seal other = absurd (other folder file refl)
no_folders Help answered seal other = refl
no_folders (Replay snap log) answered seal other = refl
no_folders (Canon log) answered seal other = refl
no_folders (Conflicts logs) answered seal other = refl
no_folders (Merge prefs logs) answered seal other = refl
no_folders (Transition number prefs logs) answered seal other = refl
no_folders (Steer set logs) answered seal other = refl
no_folders (Drill seed logs steps) answered seal other = refl
no_folders (Explain prefs logs) answered seal other = refl
no_folders (Undo set) answered seal other = refl
no_folders (Catchup sets) answered seal other = refl
no_folders (Rebase side prefs work sets) answered seal other = refl

-- the answer of an application
pub found_apply : (folder file : Operand) (job : Job) (before now : Inputs) (found : Result (Vec ℕ Global) Refusal) (result : Outcome) → job ≡ Apply folder file → result ≡ of_text found →
    FindsText (IsApply folder file (held_tree before.trees)) (Apply folder file) before now found → FindsJob StandsForOutput job before now result
found_apply folder file job before now found result is same f =
    subst (λ j. FindsJob StandsForOutput j before now result) (sym is) (found_text_of (IsApply folder file (held_tree before.trees)) (Apply folder file) before now found result same f)

-- and of a sealing
pub found_seal : (folder file : Operand) (job : Job) (before now : Inputs) (found : Result (Vec ℕ Global) Refusal) (result : Outcome) → job ≡ Seal folder file → result ≡ of_text found →
    FindsText (IsSeal folder file (held_tree before.trees)) (Seal folder file) before now found → FindsJob StandsForOutput job before now result
found_seal folder file job before now found result is same f =
    subst (λ j. FindsJob StandsForOutput j before now result) (sym is) (found_text_of (IsSeal folder file (held_tree before.trees)) (Seal folder file) before now found result same f)
