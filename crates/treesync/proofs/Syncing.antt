-- What a round owes, from the reading of its logs and from what was left of its trees.
use Rattle.std.proofs.Common.{◌≡◌, ◌⊎◌, ◌≤◌, ◌<◌, ◌-◌, ◌++◌, ℕ, zero, suc, List, [], ◌∷◌, length, Option, Some, Result, Ok, Err, IsErrAnd, Vec, Global, vec_len, inl, inr, refl, sym, ap, subst, ◌∙◌, arith}
use Rattle.std.proofs.lemmas.Result.{err_from_is_err_and}
use Rattle.sync_command.specs.Changes.{Change}
use Rattle.sync_path.specs.Paths.{Node}
use Rattle.sync_command.specs.Maps.{Store, at}
use Rattle.sync_command.specs.Trees.{Holding, command_at}
use Rattle.canon_set.specs.Logs.{net}
use Rattle.canon_set.specs.Sets.{canonical}
use Rattle.canon_set.proofs.CallerLemmas.{command_at-canonical}
use Rattle.refluent.specs.CommonTrees.{IsCommonTree}
use Rattle.transition.proofs.CallerLemmas.{canonical_merger}
use Rattle.sync_round.specs.KnownRounds.{AreHeld, RoundsKnown}
use Rattle.sync_port.specs.States.{IfBoth}
use Rattle.sync_port.specs.Ports.{FilesState}
use Rattle.tree_port.specs.States.{NoneFell, TreeState}
use Rattle.resume_apply.specs.declared.faults.ApplyFault.TheVariants as apply
use Rattle.sync_round.specs.Rounding.{AtPlace, EachTree, Rounds}
use Rattle.sync_round.specs.Rounds.{OfRound, transitions}
use Rattle.sync_round.specs.declared.faults.RoundFault.{RoundFault}
use Rattle.sync_round.specs.declared.faults.RoundFault.TheVariants as fault
use Rattle.tool_words.specs.Jobs.{job_of}
use Rattle.tool_words.specs.Words.{Operand, Text}
use Rattle.tool_words.specs.declared.job.Job.TheVariants.{Sync}
use Rattle.treesync.specs.Answering.{output_of}
use Rattle.treesync.specs.Checks.{Answers, FilesCounted, IsJudged, IsOfJob, Limits, ReadsFiles, Unless, seen}
use Rattle.treesync.specs.Ends.{Prints, Says, line_of}
use Rattle.treesync.specs.Jobs.{Keeps, NoTreeFell, Outside, inputs_of, limits_of_words}
use Rattle.treesync.specs.Joining.{commands_of, log_limits}
use Rattle.treesync.specs.Merging.{Asked, IsMergedOf}
use Rattle.treesync.specs.Messages.{message_of}
use Rattle.treesync.specs.Outputs.{Output, status_in}
use Rattle.treesync.specs.Preferences.{preference_limits}
use Rattle.treesync.specs.Runs.{EndsRight, RanRound, Runs, RunsJob}
use Rattle.treesync.specs.Sync.{AreMergedLogs, CanLead, CarriesRound, FindsRound, IsMergedBy, IsOfTrees, LeadsTrees, Merged, StandsForMerged, merged_of, round_answer}
use Rattle.treesync.specs.declared.answer.Answer.{Answer}
use Rattle.treesync.specs.declared.refusal.Refusal.{Refusal}
use Rattle.treesync.specs.declared.refusal.Refusal.TheVariants.{InvalidArguments, OutOfMemory, CallFailed, Found}
use Rattle.treesync.specs.declared.merging.MergedLogs.{MergedLogs}
use Rattle.treesync.proofs.CheckLemmas.{memory_allowed, reads_nothing}
use Rattle.treesync.proofs.HeldLogs.{ok_no_err}
use Rattle.treesync.proofs.MergeLemmas.{first_for}
use Rattle.treesync.proofs.OutputLemmas.{Three, low_status, three, whole_status}
use Rattle.treesync.proofs.TransitionLemmas.{merger_drawn, merger_fits}
use Rattle.treesync.proofs.Words.{failure_above, finding_above}

-- ---- the logs and their merger

module _ (found : MergedLogs) (asked : Asked) (of : IsMergedOf found asked) where
  pub first_merged : IsJudged StandsForMerged (IsMergedBy asked.0 asked.1) (Ok found)
  first_merged = (
    merged_of (commands_of asked.1) found.merger,
    record { joint = of.joined.joint; merger = refl },
    (found.merger, first_for found.logs asked.0 found.merger of.first asked.1 of.joined, refl),
  )

  pub can_lead : CanLead (length found.logs.joint.sets) found
  can_lead = record {
    joint = record { logs = commands_of asked.1; stands = of.joined.joint };
    many = refl;
    drawn = merger_drawn found.logs asked.1 of.joined asked.0 found.merger of.first;
    fits = merger_fits found.logs asked.1 of.joined asked.0 found.merger of.first;
  }

-- ---- the tree that is named

-- there are as many as are counted
pub as_long : {X : Type 0} (v : Vec X Global) → vec_len v ≡ length v.items
as_long v = let many = v.ok.0 in omega arith

at_place : (P : List Change → TreeState → TreeState → Type 0) (place : ℕ) (sets : List (List Change)) (trees later : List TreeState) → AtPlace P place sets trees later → place < length trees
at_place P zero (set ∷ sets) (tree ∷ trees) (now ∷ later) h = omega arith
at_place P (suc place) (set ∷ sets) (tree ∷ trees) (now ∷ later) h = let low = at_place P place sets trees later h.1 in omega (arith, low)
at_place P zero [] trees later h = absurd h
at_place P (suc place) [] trees later h = absurd h
at_place P zero (set ∷ sets) [] later h = absurd h
at_place P (suc place) (set ∷ sets) [] later h = absurd h
at_place P zero (set ∷ sets) (tree ∷ trees) [] h = absurd h
at_place P (suc place) (set ∷ sets) (tree ∷ trees) [] h = absurd h

of_trees : (why : RoundFault) (sets : List (List Change)) (trees later : List TreeState) → Rounds sets (Err why) trees later → IsOfTrees (length trees) why
of_trees (fault.Tree number why) sets trees later h = let low = at_place _ (number - 1) sets trees later h.ends.here in (h.ends.counted, omega (arith, low, h.ends.counted))
of_trees fault.Memory sets trees later h = tt

pub named_tree : (number : ℕ) (found : MergedLogs) (why : RoundFault) (trees later : List TreeState) → CanLead number found → length trees ≡ number →
    OfRound found.logs.joint found.merger (λ sets. Rounds sets (Err why) trees later) → IsOfTrees number why
named_tree number found why trees later can many h =
    subst (λ n. IsOfTrees n why) many (of_trees why (transitions (at can.joint.stands.common.map) can.joint.logs found.merger) trees later (h can.joint.logs can.joint.stands.common.map can.joint.stands can.joint.stands.common.common))

-- ---- the trees

-- the transitions by a merger are those by its canonical list
pub same_transitions : (t : Holding) (ms ls : List Change) → ((p : Node) → command_at ms p ≡ command_at ls p) → (logs : List (List Change)) → transitions t logs ms ≡ transitions t logs ls
same_transitions t ms ls same [] = refl
same_transitions t ms ls same (log ∷ logs) = let here = canonical_merger t (net log) ms ls same in let rest = same_transitions t ms ls same logs in λ i. here i ∷ rest i

pub led_trees : (number : ℕ) (found : MergedLogs) (folders : List Operand) (result : Result ℕ RoundFault) (answer : Result Output Refusal) (trees later : List TreeState) → CanLead number found →
    OfRound found.logs.joint found.merger (λ sets. Rounds sets result trees later) → OfRound found.logs.joint found.merger (λ sets. (maps : List Store) → AreHeld trees maps → RoundsKnown sets maps result later) →
    (answer ≡ round_answer folders result) ⊎ (answer ≡ Err OutOfMemory) → (merged : Merged) → StandsForMerged found merged → LeadsTrees folders merged answer trees later
led_trees number found folders result answer trees later can leaves of_known answers merged stands = record {
  result = result;
  leads = record {
    common = stands.joint.common;
    leaves = λ m common. subst (λ sets. Rounds sets result trees later) (same m common) (leaves merged.logs m stands.joint common);
    of_known = λ m common. subst (λ sets. (maps : List Store) → AreHeld trees maps → RoundsKnown sets maps result later) (same m common) (of_known merged.logs m stands.joint common);
  };
  answers = answers;
}
  where
    same : (m : Store) → IsCommonTree m merged.logs → transitions (at m) merged.logs found.merger ≡ transitions (at m) merged.logs merged.merger
    same m common =
        same_transitions (at m) found.merger (canonical found.merger) (λ p. sym (command_at-canonical found.merger (can.fits merged.logs m stands.joint common).one p)) merged.logs
        ∙ ap (transitions (at m) merged.logs) (sym stands.merger)

-- what a `?` hands on
pub handed_seen : (r : Refusal) (result : Result Answer Refusal) → IsErrAnd result (λ e. e ≡ r) → seen output_of result ≡ Err r
handed_seen r result e = let p = err_from_is_err_and result e in ap (seen output_of) (p.1 ∙ ap Err p.2)

-- ---- the whole

module _ (prefs : Option Operand) (folders files : List Operand) (before now : FilesState) (trees : List TreeState) where
  abbrev MergesLogs : Result MergedLogs Refusal → Type 0
  MergesLogs found = Answers StandsForMerged (AreMergedLogs prefs files) (preference_limits prefs ++ log_limits files) before now found

  quiet_refused : (r : Refusal) (P : Type 0) → Unless {X = MergedLogs} (Err r) P → Unless {X = Merged} (Err r) P
  quiet_refused InvalidArguments P h = h
  quiet_refused OutOfMemory P h = h
  quiet_refused (CallFailed failure) P h = h
  quiet_refused (Found finding) P h = h

  job_refused : (r : Refusal) → IsOfJob {X = MergedLogs} (Err r) → IsOfJob {X = Merged} (Err r)
  job_refused InvalidArguments h = h
  job_refused OutOfMemory h = h
  job_refused (CallFailed failure) h = h
  job_refused (Found finding) h = h

  -- the logs were refused, which a `?` hands on
  pub logs_refused : (r : Refusal) (result : Result Answer Refusal) → IsErrAnd result (λ e. e ≡ r) → MergesLogs (Err r) → FindsRound prefs folders files before now trees trees (seen output_of result)
  logs_refused r result e a = record {
    later = a.later;
    reads = a.reads;
    merged = Err r;
    of_job = job_refused r a.job;
    quiet = quiet_refused r (now.faults ≡ before.faults) a.quiet;
    allowed = a.allowed;
    carries = (refl, handed_seen r result e);
  }

  -- the trees were led
  pub trees_led : (found : MergedLogs) (later : List TreeState) (answer : Result Output Refusal) → MergesLogs (Ok found) → ((merged : Merged) → StandsForMerged found merged → LeadsTrees folders merged answer trees later) →
      FindsRound prefs folders files before now trees later answer
  trees_led found later answer a led = record {
    later = a.later;
    reads = a.reads;
    merged = Ok a.allowed.0;
    of_job = tt;
    quiet = a.quiet;
    allowed = a.allowed.2;
    carries = led a.allowed.0 a.allowed.1;
  }

-- ---- a run

abbrev limits : Option Operand → List Operand → Limits
limits prefs files = preference_limits prefs ++ log_limits files

module _ (prefs : Option Operand) (folders files : List Operand) (words : List Text) (before now : Outside) (status : ℕ) where
  -- memory ran out before it was known that the words ask for a round
  pub unread_round : {r : Refusal} → r ≡ OutOfMemory → inputs_of now ≡ inputs_of before → Prints (Err r) status before.out now.out → Says (message_of words r) before.err now.err → RanRound prefs folders files words before now status
  unread_round {r} is same prints says = record {
    answer = Err r;
    finds = record {
      later = omega (arith, ap (λ s. s.files.faults) same);
      reads = subst (λ s. IfBoth before.files.contents s.files.contents (ReadsFiles (limits prefs files))) (sym same) (reads_nothing (limits prefs files) before.files.contents);
      merged = Err OutOfMemory;
      of_job = tt;
      quiet = tt;
      allowed = memory_allowed (AreMergedLogs prefs files) (FilesCounted before.files now.files) before.files.contents;
      carries = (ap (λ s. s.trees) same, ap Err is);
    };
    prints = prints;
    says = says;
  }

  -- its answer was found and printed
  pub round_ran : (found : Result Answer Refusal) → FindsRound prefs folders files before.files now.files before.trees now.trees (seen output_of found) → Prints (seen output_of found) status before.out now.out →
      Says (line_of words (seen output_of found) status) before.err now.err → RanRound prefs folders files words before now status
  round_ran found finds prints says = record { answer = seen output_of found; finds = finds; prints = prints; says = says }

  pub round_runs : job_of words ≡ Some (Sync prefs folders files) → RanRound prefs folders files words before now status → Runs words before now status
  round_runs e ran = record { does = subst (λ j. RunsJob j words before now status) (sym e) ran }

  -- ---- what it keeps

  round_fell : (sets : List (List Change)) (trees later : List TreeState) → EachTree (λ set tree next. NoneFell tree.counts next.counts) sets trees later → NoTreeFell trees later
  round_fell [] [] [] h = tt
  round_fell [] [] (now ∷ later) h = absurd h
  round_fell [] (tree ∷ trees) later h = absurd h
  round_fell (set ∷ sets) [] later h = absurd h
  round_fell (set ∷ sets) (tree ∷ trees) [] h = absurd h
  round_fell (set ∷ sets) (tree ∷ trees) (now ∷ later) h = (h.0, round_fell sets trees later h.1)

  none_fell : (trees : List TreeState) → NoTreeFell trees trees
  none_fell [] = tt
  none_fell (tree ∷ trees) = (record { faults = omega arith; denials = omega arith; out_of_memory = omega arith; changes = omega arith }, none_fell trees)

  kept_trees : (merged : Result Merged Refusal) (answer : Result Output Refusal) (trees later : List TreeState) → CarriesRound folders merged answer trees later → NoTreeFell trees later
  kept_trees (Ok merged) answer trees later led =
      round_fell (transitions (at led.leads.common.map) merged.logs merged.merger) trees later (led.leads.leaves led.leads.common.map led.leads.common.common).later
  kept_trees (Err r) answer trees later does = subst (NoTreeFell trees) (sym does.0) (none_fell trees)

  pub round_keeps : job_of words ≡ Some (Sync prefs folders files) → RanRound prefs folders files words before now status → before.out.faults ≤ now.out.faults → before.err.faults ≤ now.err.faults → Keeps words before now
  round_keeps e ran out err = record {
    files = ran.finds.later;
    trees = kept_trees ran.finds.merged ran.answer before.trees now.trees ran.finds.carries;
    out = out;
    err = err;
    reads = subst (λ j. IfBoth before.files.contents now.files.contents (ReadsFiles (limits_of_words j))) (sym e) ran.finds.reads;
  }

  -- ---- its status

  round_of_job : (result : Result ℕ RoundFault) → IsOfJob (round_answer folders result)
  round_of_job (Ok number) = tt
  round_of_job (Err (fault.Tree number (apply.Diverged p))) = tt
  round_of_job (Err (fault.Tree number (apply.Blocked p))) = tt
  round_of_job (Err (fault.Tree number apply.Failed)) = tt
  round_of_job (Err (fault.Tree number apply.Denied)) = tt
  round_of_job (Err (fault.Tree number apply.Memory)) = tt
  round_of_job (Err fault.Memory) = tt

  answer_of_job : (merged : Result Merged Refusal) (answer : Result Output Refusal) → IsOfJob merged → CarriesRound folders merged answer before.trees now.trees → IsOfJob answer
  answer_of_job (Ok merged) answer job led = by led.answers
    where
      by : (answer ≡ round_answer folders led.result) ⊎ (answer ≡ Err OutOfMemory) → IsOfJob answer
      by (inl e) = subst IsOfJob (sym e) (round_of_job led.result)
      by (inr e) = subst IsOfJob (sym e) tt
  answer_of_job (Err r) answer job does = subst IsOfJob (sym does.1) (other r job)
    where
      other : (r : Refusal) → IsOfJob {X = Merged} (Err r) → IsOfJob {X = Output} (Err r)
      other InvalidArguments h = h
      other OutOfMemory h = h
      other (CallFailed failure) h = h
      other (Found finding) h = h

  not_two : (answer : Result Output Refusal) → IsOfJob answer → Prints answer status before.out now.out → status ≡ 2 → ⊥
  not_two (Ok output) h p e = by (three output status before.out now.out p.0) (low_status output)
    where
      by : Three output status before.out now.out → status_in output ≤ 1 → ⊥
      by (inl z) low = omega (arith, z.0, e)
      by (inr (inl z)) low = omega (arith, z.0, e)
      by (inr (inr z)) low = omega (arith, z.0, e)
  not_two (Err InvalidArguments) h p e = h
  not_two (Err OutOfMemory) h p e = omega (arith, p.0, e)
  not_two (Err (CallFailed failure)) h p e = omega (arith, p.0, e, failure_above failure)
  not_two (Err (Found finding)) h p e = omega (arith, p.0, e, finding_above finding)

  -- with the status of a whole output one was printed, and no call failed
  done_answer : (answer : Result Output Refusal) → Prints answer status before.out now.out → status ≤ 1 → ((output : Output) × (answer ≡ Ok output)) × (now.out.faults ≡ before.out.faults)
  done_answer (Ok output) p e = ((output, refl), (whole_status output status before.out now.out e p.0).1)
  done_answer (Err InvalidArguments) p e = absurd (omega (arith, p.0, e))
  done_answer (Err OutOfMemory) p e = absurd (omega (arith, p.0, e))
  done_answer (Err (CallFailed failure)) p e = absurd (omega (arith, p.0, e, failure_above failure))
  done_answer (Err (Found finding)) p e = absurd (omega (arith, p.0, e, finding_above finding))

  files_quiet : (merged : Result Merged Refusal) (answer : Result Output Refusal) (output : Output) → answer ≡ Ok output → Unless merged (now.files.faults ≡ before.files.faults) → CarriesRound folders merged answer before.trees now.trees → now.files.faults ≡ before.files.faults
  files_quiet (Ok merged) answer output e quiet led = quiet
  files_quiet (Err r) answer output e quiet does = absurd (ok_no_err (sym e ∙ does.1))

  pub round_ends : job_of words ≡ Some (Sync prefs folders files) → RanRound prefs folders files words before now status → EndsRight (job_of words) before now status
  round_ends e ran = record {
    refused = λ two. absurd (not_two ran.answer (answer_of_job ran.finds.merged ran.answer ran.finds.of_job ran.finds.carries) ran.prints two);
    invalid = λ none. absurd (cc (e, none));
    done = λ low. let d = done_answer ran.answer ran.prints low in (files_quiet ran.finds.merged ran.answer d.0.0 d.0.1 ran.finds.quiet ran.finds.carries, d.1);
  }
