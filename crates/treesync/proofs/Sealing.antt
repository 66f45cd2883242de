-- What sealing a log over a tree owes, and what a job that is handed one owes.
use Rattle.std.proofs.Common.{◌≡◌, ◌⊎◌, ℕ, List, [], ◌∷◌, Option, Result, None, Some, Ok, Err, IsErrAnd, Vec, Global, Bool, inl, inr, refl, sym, subst}
use Rattle.sync_port.specs.Ports.{FileContents, FilesState}
use Rattle.sync_command.specs.declared.values.Version.{Version}
use Rattle.sync_command.specs.Changes.{Change}
use Rattle.sync_command.specs.Maps.{Store}
use Rattle.log_text.specs.Logs.{log_text}
use Rattle.tree_port.specs.States.{NoneRefused, TreeState}
use Rattle.record_core.specs.Seals.{FailsText, LooksOnly, SealsText}
use Rattle.record_core.specs.declared.faults.SealFault.{SealFault}
use Rattle.record_core.specs.declared.faults.SealFault.TheVariants as fault
use Rattle.tool_words.specs.Words.{Operand}
use Rattle.tool_words.specs.declared.job.Job.TheVariants.{Seal}
use Rattle.treesync.specs.Apply.{OfOnlyTree, TreeCounted}
use Rattle.treesync.specs.Checks.{Answers, Causes, Check, FilesCounted, HasItems, IsAllowed, IsAllowedOf, IsOfJob, Then, Unless}
use Rattle.treesync.specs.Files.{IsFile}
use Rattle.treesync.specs.Jobs.{FindsText, InputsCounted, NoTreeFell, held_tree}
use Rattle.treesync.specs.Seal.{IsRightSeal, IsSeal, IsSealedOver, IsSealing, LooksAt, LooksAtOnly, Seals, seal_refusal}
use Rattle.treesync.specs.declared.input.TheConstants.{FILE_LIMIT}
use Rattle.treesync.specs.declared.refusal.Refusal.{Refusal}
use Rattle.treesync.specs.declared.refusal.Refusal.TheVariants.{InvalidArguments, OutOfMemory, CallFailed, Found}
use Rattle.treesync.specs.declared.refusal.Failure.{Failure}
use Rattle.treesync.specs.declared.refusal.Failure.TheVariants.{ReadFailed, TreeFailed, TreeDenied}
use Rattle.treesync.proofs.Applying.{IsAlike, unknown}
use Rattle.treesync.proofs.CheckLemmas.{allowed_more, quietly, then_handed_on}

-- ---- what does not depend on the value of an answer

unless_alike : {X Y : Type 0} (P : Type 0) (found : Result X Refusal) (other : Result Y Refusal) → IsAlike found other → Unless found P → Unless other P
unless_alike P (Ok x) (Ok y) same h = h
unless_alike P (Ok x) (Err s) same h = absurd same
unless_alike P (Err r) (Ok y) same h = absurd same
unless_alike {X} {Y} P (Err r) (Err s) same h = subst (λ q. Unless {X = Y} (Err q) P) same (by r h)
  where
    by : (q : Refusal) → Unless {X = X} (Err q) P → Unless {X = Y} (Err q) P
    by InvalidArguments h = h
    by OutOfMemory h = tt
    by (CallFailed failure) h = tt
    by (Found finding) h = h

only_alike : {X Y : Type 0} (found : Result X Refusal) (other : Result Y Refusal) (trees later : List TreeState) → IsAlike found other → LooksAtOnly found trees later → LooksAtOnly other trees later
only_alike found other [] later same h = absurd h
only_alike found other (tree ∷ []) [] same h = absurd h
only_alike found other (tree ∷ []) (now ∷ []) same h = record { later = h.later; quiet = unless_alike (NoneRefused tree.counts now.counts) found other same h.quiet; still = h.still }
only_alike found other (tree ∷ []) (now ∷ (next ∷ later)) same h = absurd h
only_alike found other (tree ∷ (next ∷ trees)) later same h = absurd h

pub looked_alike : {X Y : Type 0} (found : Result X Refusal) (other : Result Y Refusal) (trees later : List TreeState) → IsAlike found other → (later ≡ trees) ⊎ LooksAtOnly found trees later → (later ≡ trees) ⊎ LooksAtOnly other trees later
looked_alike found other trees later same (inl h) = inl h
looked_alike found other trees later same (inr h) = inr (only_alike found other trees later same h)

pub looked_fell : {X : Type 0} (answer : Result X Refusal) (trees later : List TreeState) → LooksAtOnly answer trees later → NoTreeFell trees later
looked_fell answer [] later h = absurd h
looked_fell answer (tree ∷ []) [] h = absurd h
looked_fell answer (tree ∷ []) (now ∷ []) h = (h.later, tt)
looked_fell answer (tree ∷ []) (now ∷ (next ∷ later)) h = absurd h
looked_fell answer (tree ∷ (next ∷ trees)) later h = absurd h

-- ---- the look

module _ (folder word : ℕ) (text : List ℕ) (before now : TreeState) where
  abbrev Sealing : Result (Vec ℕ Global) Refusal → Type 0
  Sealing result = Seals HasItems folder word text before now result

  looked : {T : Type 0} (result : Result T SealFault) (answer : Result (Vec ℕ Global) Refusal) → LooksOnly result before now → Unless answer (NoneRefused before.counts now.counts) → LooksAt answer before now
  looked result answer o quiet = record { later = o.later; quiet = quiet; still = record { contents = o.contents; changes = o.changes } }

  pub was_sealed : {T : Type 0} (r : T) (version : Version) (sealed : List Change) (printed : Vec ℕ Global) → LooksOnly {T = T} (Ok r) before now → SealsText text before.contents version sealed → printed.items ≡ log_text version sealed → Sealing (Ok printed)
  was_sealed r version sealed printed o h e = record {
    right = (log_text version sealed, e, (version, sealed, h, refl));
    tree = looked (Ok r) (Ok printed) o o.answered;
  }

  pub sealed_without_text : {T : Type 0} (r : T) → LooksOnly {T = T} (Ok r) before now → Sealing (Err OutOfMemory)
  sealed_without_text r o = record { right = tt; tree = looked (Ok r) (Err OutOfMemory) o tt }

  refused : {T : Type 0} (e : SealFault) → LooksOnly {T = T} (Err e) before now → FailsText text before.contents e →
      IsRightSeal {X = Vec ℕ Global} HasItems (IsSealing folder word before.contents text) (TreeCounted before now) (Err (seal_refusal folder word e))
  refused (fault.Text f) o h = (fault.Text f, refl, h, tt)
  refused (fault.Broken number) o h = (fault.Broken number, refl, h, tt)
  refused (fault.Diverged p) o h = (fault.Diverged p, refl, h, tt)
  refused fault.Failed o h = (o.failed refl, (fault.Failed, refl, h, tt))
  refused fault.Denied o h = ((o.denied refl, unknown before.contents h.1.1.2), (fault.Denied, refl, h, tt))
  refused fault.Memory o h = tt

  quiet : {T : Type 0} (e : SealFault) → LooksOnly {T = T} (Err e) before now → Unless {X = Vec ℕ Global} (Err (seal_refusal folder word e)) (NoneRefused before.counts now.counts)
  quiet (fault.Text f) o = o.answered
  quiet (fault.Broken number) o = o.answered
  quiet (fault.Diverged p) o = o.answered
  quiet fault.Failed o = tt
  quiet fault.Denied o = tt
  quiet fault.Memory o = tt

  pub not_sealed : {T : Type 0} (e : SealFault) → LooksOnly {T = T} (Err e) before now → FailsText text before.contents e → Sealing (Err (seal_refusal folder word e))
  not_sealed e o h = record { right = refused e o h; tree = looked (Err e) (Err (seal_refusal folder word e)) o (quiet e o) }

-- ---- the job

right_more : (Q : Bool → Result (List ℕ) Refusal → Type 0) (counted counted' : Causes) (result : Result (Vec ℕ Global) Refusal) → ((failure : Failure) → counted failure → counted' failure) → IsRightSeal HasItems Q counted result → IsRightSeal HasItems Q counted' result
right_more Q counted counted' (Ok x) f h = h
right_more Q counted counted' (Err InvalidArguments) f h = h
right_more Q counted counted' (Err OutOfMemory) f h = h
right_more Q counted counted' (Err (CallFailed failure)) f h = (f failure h.0, h.1)
right_more Q counted counted' (Err (Found finding)) f h = h

of_job_of_right : (Q : Bool → Result (List ℕ) Refusal → Type 0) (counted : Causes) (result : Result (Vec ℕ Global) Refusal) → IsRightSeal HasItems Q counted result → IsOfJob result
of_job_of_right Q counted (Ok x) h = tt
of_job_of_right Q counted (Err InvalidArguments) h = h
of_job_of_right Q counted (Err OutOfMemory) h = tt
of_job_of_right Q counted (Err (CallFailed failure)) h = tt
of_job_of_right Q counted (Err (Found finding)) h = tt

on_text : (P : Check (List ℕ)) (folder word : ℕ) (tree : Option Store) (text : List ℕ) (counted counted' : Causes) (known : Option FileContents) (result : Result (Vec ℕ Global) Refusal) → IsAllowed P known counted (Ok text) →
    IsRightSeal HasItems (IsSealing folder word tree text) counted' result → IsAllowedOf HasItems (Then P (IsSealedOver folder word tree)) known counted' result
on_text P folder word tree text counted counted' None (Ok x) p q = (q.0, q.1, tt)
on_text P folder word tree text counted counted' None (Err InvalidArguments) p q = absurd q
on_text P folder word tree text counted counted' None (Err OutOfMemory) p q = tt
on_text P folder word tree text counted counted' None (Err (CallFailed failure)) p q = q.0
on_text P folder word tree text counted counted' None (Err (Found finding)) p q = tt
on_text P folder word tree text counted counted' (Some m) (Ok x) p q = (q.0, q.1, inr (text, p, q.2))
on_text P folder word tree text counted counted' (Some m) (Err InvalidArguments) p q = absurd q
on_text P folder word tree text counted counted' (Some m) (Err OutOfMemory) p q = tt
on_text P folder word tree text counted counted' (Some m) (Err (CallFailed failure)) p q = inr (q.0, inr (text, p, q.1))
on_text P folder word tree text counted counted' (Some m) (Err (Found finding)) p q = inr (text, p, q)

module _ (folder file : Operand) (before now : FilesState) where
  abbrev FindsSeal : List TreeState → List TreeState → Result (Vec ℕ Global) Refusal → Type 0
  FindsSeal trees later result = FindsText (IsSeal folder file (held_tree trees)) (Seal folder file) (record { files = before; trees = trees }) (record { files = now; trees = later }) result

  abbrev ReadsText : Result (Vec ℕ Global) Refusal → Type 0
  ReadsText found = Answers HasItems (IsFile FILE_LIMIT file.place file.text) ((file.text, FILE_LIMIT) ∷ []) before now found

  file_causes : (trees : List TreeState) (failure : Failure) → FilesCounted before now failure → InputsCounted (record { files = before; trees = trees }) (record { files = now; trees = trees }) failure
  file_causes trees (ReadFailed word) h = h
  file_causes trees (TreeFailed word) h = absurd h
  file_causes trees (TreeDenied word) h = absurd h

  tree_causes : (tree later : TreeState) (failure : Failure) → TreeCounted tree later failure → InputsCounted (record { files = before; trees = tree ∷ [] }) (record { files = now; trees = later ∷ [] }) failure
  tree_causes tree later (ReadFailed word) h = absurd h
  tree_causes tree later (TreeFailed word) h = h
  tree_causes tree later (TreeDenied word) h = h

  -- LOG was not read, and the tree was not asked
  pub not_read : (trees : List TreeState) (r : Refusal) (result : Result (Vec ℕ Global) Refusal) → IsErrAnd result (λ e. e ≡ r) → ReadsText (Err r) → FindsSeal trees trees result
  not_read trees r result e a =
      let b : Answers HasItems (IsSeal folder file (held_tree trees)) ((file.text, FILE_LIMIT) ∷ []) before now result =
      then_handed_on HasItems HasItems (IsFile FILE_LIMIT file.place file.text) (IsSealedOver folder.place file.place (held_tree trees)) ((file.text, FILE_LIMIT) ∷ []) before now r result e a in
      record {
        later = b.later;
        quiet = b.quiet;
        reads = b.reads;
        allowed = allowed_more HasItems (IsSeal folder file (held_tree trees)) (FilesCounted before now) _ before.contents result (file_causes trees) b.allowed;
        of_job = b.job;
        trees = inl refl;
      }

  looked_at : (text : Vec ℕ Global) (tree later : TreeState) (result : Result (Vec ℕ Global) Refusal) → ReadsText (Ok text) → Seals HasItems folder.place file.place text.items tree later result → FindsSeal (tree ∷ []) (later ∷ []) result
  looked_at text tree later result a b =
      let counted : Causes = InputsCounted (record { files = before; trees = tree ∷ [] }) (record { files = now; trees = later ∷ [] }) in
      let p : IsAllowed (IsFile FILE_LIMIT file.place file.text) before.contents (FilesCounted before now) (Ok text.items) =
      subst (λ t. IsAllowed (IsFile FILE_LIMIT file.place file.text) before.contents (FilesCounted before now) (Ok t)) (sym a.allowed.1) a.allowed.2 in
      record {
        later = a.later;
        quiet = quietly result (now.faults ≡ before.faults) a.quiet;
        reads = a.reads;
        allowed = on_text (IsFile FILE_LIMIT file.place file.text) folder.place file.place tree.contents text.items (FilesCounted before now) counted before.contents result p
            (right_more (IsSealing folder.place file.place tree.contents text.items) (TreeCounted tree later) counted result (tree_causes tree later) b.right);
        of_job = of_job_of_right (IsSealing folder.place file.place tree.contents text.items) (TreeCounted tree later) result b.right;
        trees = inr b.tree;
      }

  -- of the only tree of a list
  pub sealed_over_only : (text : Vec ℕ Global) (trees later : List TreeState) (result : Result (Vec ℕ Global) Refusal) → ReadsText (Ok text) → OfOnlyTree trees later (λ b n. Seals HasItems folder.place file.place text.items b n result) → FindsSeal trees later result
  sealed_over_only text [] later result a h = absurd h
  sealed_over_only text (tree ∷ []) [] result a h = absurd h
  sealed_over_only text (tree ∷ []) (next ∷ []) result a h = looked_at text tree next result a h
  sealed_over_only text (tree ∷ []) (next ∷ (more ∷ later)) result a h = absurd h
  sealed_over_only text (tree ∷ (more ∷ trees)) later result a h = absurd h
