-- The headline of sealing follows from what a run owes.
use Rattle.std.proofs.Common.{◌≡◌, ◌∙◌, ◌⊎◌, false, ℕ, List, [], ◌∷◌, Some, Result, Ok, Err, inl, inr, sym, ap, subst}
use Rattle.sync_command.specs.Changes.{Change}
use Rattle.sync_command.specs.Maps.{Store, at}
use Rattle.sync_port.specs.Ports.{FileContents}
use Rattle.log_text.specs.Logs.{log_text}
use Rattle.tree_port.specs.States.{TreeState}
use Rattle.canon_set.specs.Logs.{IsBrokenAt}
use Rattle.record_core.specs.Seals.{Diverges, FailsText, IsSealed, OpenLog}
use Rattle.record_core.specs.declared.faults.SealFault.{SealFault}
use Rattle.record_core.specs.declared.faults.SealFault.TheVariants as fault
use Rattle.record_core.proofs.CallerLemmas.{not_both}
use Rattle.tool_words.specs.Jobs.{job_of}
use Rattle.tool_words.specs.Words.{Operand, Text}
use Rattle.tool_words.specs.declared.job.Job.TheVariants.{Seal}
use Rattle.treesync.specs.Files.{file_answer}
use Rattle.treesync.specs.Headline.{CompletesOnTree, Gains, HoldsOpen, PrintsSealed, SealsHeld}
use Rattle.treesync.specs.Jobs.{InputsCounted, IsAnswer, LeavesTreesOf, Outside, Ran, held_tree, inputs_of}
use Rattle.treesync.specs.Outputs.{AsText, Output, status_in}
use Rattle.treesync.specs.Seal.{IsFinding, IsSeal, IsSealing, LooksAtOnly}
use Rattle.treesync.specs.declared.input.TheConstants.{FILE_LIMIT}
use Rattle.treesync.specs.declared.refusal.Refusal.{Refusal}
use Rattle.treesync.specs.declared.refusal.Failure.{Failure}
use Rattle.treesync.specs.declared.refusal.Failure.TheVariants.{ReadFailed, TreeFailed, TreeDenied}
use Rattle.treesync.proofs.BrokenLogs.{not_broken}
use Rattle.treesync.proofs.HeadlineLemmas.{completes_of, found_text, job_answer}
use Rattle.treesync.proofs.HeldLogs.{file_read, ok_is, ok_no_err}
use Rattle.treesync.proofs.OutputLemmas.{as_text}
use Rattle.treesync.proofs.SealedOnce.{one_open}

-- ---- the text that is held

module _ (folder file : Operand) (m : FileContents) (text : List ℕ) (log : OpenLog) (tree : Store) (holds : HoldsOpen m.held file text log) where
  abbrev Answers : Result (List ℕ) Refusal → Type 0
  Answers answer = IsSeal folder file (Some tree) m.held false answer

  read_is : file_answer FILE_LIMIT file.place (m.held file.text) ≡ Ok text
  read_is = sym (file_read m.held FILE_LIMIT file.place file.text text holds.there holds.bytes)

  -- what is answered for the text that is held
  over_text : (answer : Result (List ℕ) Refusal) → Answers answer → IsSealing folder.place file.place (Some tree) text false answer
  over_text answer (inl h) = absurd (ok_no_err (sym read_is ∙ sym h.1))
  over_text answer (inr h) = subst (λ t. IsSealing folder.place file.place (Some tree) t false answer) (ok_is (h.1 ∙ read_is)) h.2

  sealed_of : (printed : List ℕ) → Answers (Ok printed) → (sealed : List Change) × IsSealed log (at tree) sealed × (printed ≡ log_text log.version sealed)
  sealed_of printed h =
      let s = over_text (Ok printed) h in
      let same : s.2.log ≡ log = one_open text s.2.log log s.2.read holds.read in (
        s.1,
        subst (λ (l : OpenLog). IsSealed l (at tree) s.1) same s.2.answer.is_sealed,
        s.3 ∙ ap (λ v. log_text v s.1) (s.2.same_version ∙ ap (λ (l : OpenLog). l.version) same),
      )

  -- where there is a sealed list nothing is found
  not_found : (sealed : List Change) → IsSealed log (at tree) sealed → (e : SealFault) → FailsText text (Some tree) e → IsFinding e → ⊥
  not_found sealed is (fault.Text f) h found = holds.read.right f h
  not_found sealed is (fault.Broken number) h found =
      not_broken log.commands number (subst (λ (l : OpenLog). IsBrokenAt l.commands number) (one_open text h.0 log h.1.0 holds.read) h.1.1) holds.taken
  not_found sealed is (fault.Diverged p) h found =
      not_both log (at tree) sealed p is (subst (λ (l : OpenLog). Diverges l (at tree) p) (one_open text h.0 log h.1.0 holds.read) h.1.1.2)
  not_found sealed is fault.Failed h found = found
  not_found sealed is fault.Denied h found = found
  not_found sealed is fault.Memory h found = found

  no_refusal : (sealed : List Change) → IsSealed log (at tree) sealed → (r : Refusal) → AsText (IsSeal folder file (Some tree)) m.held false (Err r) → ⊥
  no_refusal sealed is r (inl h) = let e = over_text (Err h.0) h.1 in not_found sealed is e.0 e.2 e.3
  no_refusal sealed is r (inr h) = ok_no_err (sym h.2)

-- ---- a run

module _ (words : List Text) (before now : Outside) (status : ℕ) (ran : Ran words before now status) (folder file : Operand) (m : FileContents) (text : List ℕ) (log : OpenLog) (tree : Store)
    (e : job_of words ≡ Some (Seal folder file)) (known : before.files.contents ≡ Some m) (holds : HoldsOpen m.held file text log) (has : held_tree before.trees ≡ Some tree) where
  is_seal : (answer : Result Output Refusal) → IsAnswer words (held_tree before.trees) m.held false answer → AsText (IsSeal folder file (Some tree)) m.held false answer
  is_seal answer h = subst (λ t. AsText (IsSeal folder file t) m.held false answer) has (job_answer words (Seal folder file) (held_tree before.trees) m.held answer e h)

  gains_sealed : status ≡ 0 → (sealed : List Change) × IsSealed log (at tree) sealed × Gains (log_text log.version sealed) before.out now.out
  gains_sealed z =
      let found = found_text words before now status ran (Seal folder file) (IsSeal folder file (Some tree)) m (ap (λ t. AsText (IsSeal folder file t)) has) e known z in
      let s = sealed_of folder file m text log tree holds found.text found.right in
      (s.0, s.1, subst (λ t. Gains t before.out now.out) s.2 found.gains)

  completes_seal : (sealed : List Change) → IsSealed log (at tree) sealed → CompletesOnTree before now status
  completes_seal sealed is tree_quiet files_quiet out_quiet =
      by (completes_of words before now status ran m (AsText (IsSeal folder file (Some tree))) is_seal known (no_refusal folder file m text log tree holds sealed is) quiet out_quiet)
    where
      quiet : (failure : Failure) → InputsCounted (inputs_of before) (inputs_of now) failure → ⊥
      quiet (ReadFailed word) h = files_quiet h
      quiet (TreeFailed word) h = tree_quiet h
      quiet (TreeDenied word) h = absurd (cc (has, h.1))

      by : ((output : Output) × AsText (IsSeal folder file (Some tree)) m.held false (Ok output) × (status ≡ status_in output)) ⊎ (status ≡ 16) → (status ≡ 0) ⊎ (status ≡ 16)
      by (inl (output, a, z)) = let t = as_text (IsSeal folder file (Some tree)) m.held output a in inl (z ∙ ap status_in t.2)
      by (inr z) = inr z

  only_kept : (trees later : List TreeState) → LooksAtOnly ran.answer trees later → held_tree later ≡ held_tree trees
  only_kept [] later h = absurd h
  only_kept (tree ∷ []) [] h = absurd h
  only_kept (tree ∷ []) (next ∷ []) h = h.still.contents
  only_kept (tree ∷ []) (next ∷ (more ∷ later)) h = absurd h
  only_kept (tree ∷ (more ∷ trees)) later h = absurd h

  kept : held_tree now.trees ≡ Some tree
  kept = by (subst (λ j. LeavesTreesOf j before.files.contents ran.answer before.trees now.trees) e ran.trees)
    where
      by : (now.trees ≡ before.trees) ⊎ LooksAtOnly ran.answer before.trees now.trees → held_tree now.trees ≡ Some tree
      by (inl h) = ap held_tree h ∙ has
      by (inr h) = only_kept before.trees now.trees h ∙ has

  pub seals_held : SealsHeld log tree before now status
  seals_held = record { prints = gains_sealed; completes = completes_seal; kept = kept }

pub prints_sealed : (words : List Text) (before now : Outside) (status : ℕ) → Ran words before now status → PrintsSealed words before now status
prints_sealed words before now status ran folder file m text log tree e known holds has = seals_held words before now status ran folder file m text log tree e known holds has
