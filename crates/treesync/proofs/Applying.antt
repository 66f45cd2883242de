-- What applying a set to a tree owes, and what a job that is handed one owes.
use Rattle.std.proofs.Common.{◌≡◌, ◌⊎◌, ◌≤◌, ℕ, List, [], ◌∷◌, length, Option, Result, None, Some, Ok, Err, IsErrAnd, IfOk, Vec, Global, inl, inr, refl, sym, ap, subst, ◌∙◌, arith}
use Rattle.std.specs.Prelude.{⊤}
use Rattle.sync_port.specs.States.{IfBoth, unknown_but}
use Rattle.sync_port.specs.Ports.{FileContents, FilesState}
use Rattle.sync_port.proofs.CallerLemmas.{both_more, counted_since}
use Rattle.sync_command.specs.Changes.{Change}
use Rattle.sync_command.specs.Maps.{Store, at}
use Rattle.sync_command.specs.Trees.{after}
use Rattle.tree_port.specs.States.{IfHeld, IsCounted, NoneRefused, TreeState, WhereKnown}
use Rattle.tree_port.specs.declared.faults.TreeFault.{TreeFault}
use Rattle.tree_port.specs.declared.faults.TreeFault.TheVariants as tree
use Rattle.resume_apply.specs.Faults.{of_tree}
use Rattle.resume_apply.specs.Finishing.{Finishes, IsPaid, counted_on}
use Rattle.resume_apply.specs.Preparing.{Finds, IsAsking}
use Rattle.resume_apply.specs.Ready.{IsOnItsWay, IsReady, work}
use Rattle.resume_apply.specs.declared.faults.ApplyFault.{ApplyFault}
use Rattle.resume_apply.specs.declared.faults.ApplyFault.TheVariants as fault
use Rattle.tool_words.specs.Words.{Operand}
use Rattle.tool_words.specs.declared.job.Job.TheVariants.{Apply}
use Rattle.treesync.specs.Apply.{Applies, AppliesSet, IsApplied, IsAppliedWhereKnown, IsApply, IsBeforeChanges, IsNumbered, IsRightOnTree, IsSetOf, OfOnlyTree, TreeCounted, applied_text, apply_refusal}
use Rattle.treesync.specs.Checks.{Answers, Causes, Check, FilesCounted, HasItems, IsAllowed, IsAllowedOf, IsOfJob, Then, Unless}
use Rattle.treesync.specs.Jobs.{AppliesFile, FindsText, Inputs, InputsCounted, IsRefused, IsSetHeld, NoTreeFell, held_tree}
use Rattle.treesync.specs.declared.input.TheConstants.{FILE_LIMIT}
use Rattle.treesync.specs.declared.refusal.Refusal.{Refusal}
use Rattle.treesync.specs.declared.refusal.Refusal.TheVariants.{InvalidArguments, OutOfMemory, CallFailed, Found}
use Rattle.treesync.specs.declared.refusal.Failure.{Failure}
use Rattle.treesync.specs.declared.refusal.Failure.TheVariants.{ReadFailed, TreeFailed, TreeDenied}
use Rattle.treesync.proofs.CheckLemmas.{allowed_more, quietly, then_handed_on}

-- ---- what does not depend on the value of an answer

-- the same refusal, or a value too
abbrev pub IsAlike : {X Y : Type 0} → Result X Refusal → Result Y Refusal → Type 0
IsAlike (Ok x) (Ok y) = ⊤
IsAlike (Err r) (Err s) = r ≡ s
IsAlike found other = ⊥

applies_refused : {X Y : Type 0} (set : List Change) (r : Refusal) (before now : TreeState) → Applies {X = X} set (Err r) before now → Applies {X = Y} set (Err r) before now
applies_refused set InvalidArguments before now a = record { later = a.later; quiet = a.quiet; still = a.still; way = a.way; paid = a.paid; target = a.target }
applies_refused set OutOfMemory before now a = record { later = a.later; quiet = a.quiet; still = a.still; way = a.way; paid = a.paid; target = a.target }
applies_refused set (CallFailed (ReadFailed word)) before now a = record { later = a.later; quiet = a.quiet; still = a.still; way = a.way; paid = a.paid; target = a.target }
applies_refused set (CallFailed (TreeFailed word)) before now a = record { later = a.later; quiet = a.quiet; still = a.still; way = a.way; paid = a.paid; target = a.target }
applies_refused set (CallFailed (TreeDenied word)) before now a = record { later = a.later; quiet = a.quiet; still = a.still; way = a.way; paid = a.paid; target = a.target }
applies_refused set (Found finding) before now a = record { later = a.later; quiet = a.quiet; still = a.still; way = a.way; paid = a.paid; target = a.target }

applies_alike : {X Y : Type 0} (set : List Change) (found : Result X Refusal) (other : Result Y Refusal) (before now : TreeState) → IsAlike found other → Applies set found before now → Applies set other before now
applies_alike set (Ok x) (Ok y) before now same a = record { later = a.later; quiet = a.quiet; still = a.still; way = a.way; paid = a.paid; target = a.target }
applies_alike set (Ok x) (Err s) before now same a = absurd same
applies_alike set (Err r) (Ok y) before now same a = absurd same
applies_alike {X} {Y} set (Err r) (Err s) before now same a = subst (λ q. Applies {X = Y} set (Err q) before now) same (applies_refused set r before now a)

refused_alike : {X Y : Type 0} (found : Result X Refusal) (other : Result Y Refusal) → IsAlike found other → IsRefused found → IsRefused other
refused_alike (Ok x) other same refused = absurd refused
refused_alike (Err r) (Ok y) same refused = absurd same
refused_alike (Err r) (Err s) same refused = tt

-- the other answer has each text that the first has
abbrev pub ShowsAlike : {X Y : Type 0} → (X → List ℕ → Type 0) → (Y → List ℕ → Type 0) → Result X Refusal → Result Y Refusal → Type 0
ShowsAlike shows other_shows (Ok x) (Ok y) = (text : List ℕ) → shows x text → other_shows y text
ShowsAlike shows other_shows found other = ⊤

number_alike : {X Y : Type 0} (shows : X → List ℕ → Type 0) (other_shows : Y → List ℕ → Type 0) (found : Result X Refusal) (other : Result Y Refusal) (before now : TreeState) →
    IsAlike found other → ShowsAlike shows other_shows found other → IsNumbered shows found before now → IsNumbered other_shows other before now
number_alike shows other_shows (Ok x) (Ok y) before now same texts (changes, text, counted) = (changes, texts (applied_text changes) text, counted)
number_alike shows other_shows (Ok x) (Err s) before now same texts h = absurd same
number_alike shows other_shows (Err r) (Ok y) before now same texts h = absurd same
number_alike shows other_shows (Err r) (Err s) before now same texts h = tt

module _ {X Y : Type 0} (shows : X → List ℕ → Type 0) (other_shows : Y → List ℕ → Type 0) (file : Operand) (files : Option FileContents) (found : Result X Refusal) (other : Result Y Refusal) (same : IsAlike found other)
    (texts : ShowsAlike shows other_shows found other) where
  file_alike : (trees later : List TreeState) → AppliesFile shows file files found trees later → AppliesFile other_shows file files other trees later
  file_alike [] later h = absurd h
  file_alike (tree ∷ []) [] h = absurd h
  file_alike (tree ∷ []) (now ∷ []) ((set, held, a), n) = ((set, held, applies_alike set found other tree now same a), number_alike shows other_shows found other tree now same texts n)
  file_alike (tree ∷ []) (now ∷ (next ∷ later)) h = absurd h
  file_alike (tree ∷ (next ∷ trees)) later h = absurd h

  pub applied_alike : (trees later : List TreeState) → ((later ≡ trees) × IsRefused found) ⊎ AppliesFile shows file files found trees later → ((later ≡ trees) × IsRefused other) ⊎ AppliesFile other_shows file files other trees later
  applied_alike trees later (inl h) = inl (h.0, refused_alike found other same h.1)
  applied_alike trees later (inr h) = inr (file_alike trees later h)

pub applied_fell : {X : Type 0} (shows : X → List ℕ → Type 0) (file : Operand) (files : Option FileContents) (answer : Result X Refusal) (trees later : List TreeState) → AppliesFile shows file files answer trees later → NoTreeFell trees later
applied_fell shows file files answer [] later h = absurd h
applied_fell shows file files answer (tree ∷ []) [] h = absurd h
applied_fell shows file files answer (tree ∷ []) (now ∷ []) ((set, held, a), n) = (a.later, tt)
applied_fell shows file files answer (tree ∷ []) (now ∷ (next ∷ later)) h = absurd h
applied_fell shows file files answer (tree ∷ (next ∷ trees)) later h = absurd h

-- ---- a refusal of the tree

pub unknown : (tree : Option Store) → IfHeld tree (λ m. ⊥) → tree ≡ None
unknown None h = refl
unknown (Some m) h = absurd h

if_held : {P Q : Store → Type 0} (tree : Option Store) → IfHeld tree P → ((m : Store) → P m → Q m) → IfHeld tree Q
if_held None h f = tt
if_held (Some m) h f = f m h

-- ---- the walk

-- a tree that was ready, and what holds of it and of the tree after
from_ready : {P Q : Store → Store → Type 0} (set : List Change) (a b : Option Store) → IfHeld a (λ m. IsReady (at m) set) → IfBoth a b P → ((m n : Store) → IsReady (at m) set → P m n → Q m n) → IfBoth a b Q
from_ready set None None ready h f = h
from_ready set None (Some n) ready h f = h
from_ready set (Some m) None ready h f = h
from_ready set (Some m) (Some n) ready h f = f m n ready h

module _ (word : ℕ) (set : List Change) (before now : TreeState) (ready : WhereKnown before (λ m. IsReady (at m) set)) where
  right_text : (k : ℕ) (a b : Option Store) → IfHeld a (λ m. IsReady (at m) set) → IfBoth a b (λ m n. (at n ≡ after set (at m)) × (k ≡ work set (at m))) → IsAppliedWhereKnown word set a (Ok (applied_text k))
  right_text k None b is h = (k, refl)
  right_text k (Some m) None is h = absurd h
  right_text k (Some m) (Some n) is h = (is, ap applied_text h.1)

  pub finished : (k : ℕ) (text : Vec ℕ Global) → text.items ≡ applied_text k → Finishes set (Ok k) before now → AppliesSet HasItems word set before now (Ok text)
  finished k text e f = record {
    right = (applied_text k, e, right_text k before.contents now.contents ready f.target);
    tree = record {
      later = f.counts.later;
      quiet = f.counts.done;
      still = λ h. absurd h;
      way = from_ready set before.contents now.contents ready f.way (λ m n is w. inr (is, w));
      paid = f.paid;
      target = from_ready set before.contents now.contents ready f.target (λ m n is t. (is, t.0));
    };
    number = (k, e, f.number);
  }

  pub finished_without_text : (k : ℕ) → Finishes set (Ok k) before now → AppliesSet {X = Vec ℕ Global} HasItems word set before now (Err OutOfMemory)
  finished_without_text k f = record {
    right = tt;
    tree = record {
      later = f.counts.later;
      quiet = tt;
      still = λ h. absurd h;
      way = from_ready set before.contents now.contents ready f.way (λ m n is w. inr (is, w));
      paid = f.paid;
      target = from_ready set before.contents now.contents ready f.paid (λ m n is p. tt);
    };
    number = tt;
  }

  stopped : (r : TreeFault) → Finishes set (Err r) before now → IsRightOnTree {X = Vec ℕ Global} HasItems word set before.contents (TreeCounted before now) (Err (apply_refusal word (of_tree r)))
  stopped tree.Failed f = (f.counts.failed refl, inl refl)
  stopped tree.Denied f = ((f.counts.denied refl, unknown before.contents (if_held before.contents f.never_denied (λ m never. never refl))), inr refl)
  stopped tree.Memory f = tt

  stopped_quietly : (r : TreeFault) → Unless {X = Vec ℕ Global} (Err (apply_refusal word (of_tree r))) (NoneRefused before.counts now.counts)
  stopped_quietly tree.Failed = tt
  stopped_quietly tree.Denied = tt
  stopped_quietly tree.Memory = tt

  changed : (r : TreeFault) → IsBeforeChanges {X = Vec ℕ Global} (Err (apply_refusal word (of_tree r))) → ⊥
  changed tree.Failed h = h
  changed tree.Denied h = h
  changed tree.Memory h = h

  pub not_finished : (r : TreeFault) → Finishes set (Err r) before now → AppliesSet {X = Vec ℕ Global} HasItems word set before now (Err (apply_refusal word (of_tree r)))
  not_finished r f = record {
    right = stopped r f;
    tree = record {
      later = f.counts.later;
      quiet = stopped_quietly r;
      still = λ h. absurd (changed r h);
      way = from_ready set before.contents now.contents ready f.way (λ m n is w. inr (is, w));
      paid = f.paid;
      target = from_ready set before.contents now.contents ready f.paid (λ m n is p. tt);
    };
    number = tt;
  }

-- ---- the look

module _ (word : ℕ) (set : List Change) (before now : TreeState) where
  looked : (r : ApplyFault) → IsAsking {T = ℕ} (Err r) before now → WhereKnown before (λ m. Finds set (at m) (Err r)) → IsRightOnTree {X = Vec ℕ Global} HasItems word set before.contents (TreeCounted before now) (Err (apply_refusal word r))
  looked (fault.Diverged p) a h = by before.contents h
    where
      by : (tree : Option Store) → IfHeld tree (λ m. Finds set (at m) (Err (fault.Diverged p))) → IsAppliedWhereKnown word set tree (Err (apply_refusal word (fault.Diverged p)))
      by None h = (p, inl refl)
      by (Some m) h = inl (p, refl, h)
  looked (fault.Blocked p) a h = by before.contents h
    where
      by : (tree : Option Store) → IfHeld tree (λ m. Finds set (at m) (Err (fault.Blocked p))) → IsAppliedWhereKnown word set tree (Err (apply_refusal word (fault.Blocked p)))
      by None h = (p, inr refl)
      by (Some m) h = inr (p, refl, h.0, h.1)
  looked fault.Failed a h = (a.failed refl, inl refl)
  looked fault.Denied a h = ((a.denied refl, unknown before.contents (if_held before.contents a.never_denied (λ m never. never refl))), inr refl)
  looked fault.Memory a h = tt

  looked_quietly : (r : ApplyFault) → IsAsking {T = ℕ} (Err r) before now → Unless {X = Vec ℕ Global} (Err (apply_refusal word r)) (NoneRefused before.counts now.counts)
  looked_quietly (fault.Diverged p) a = a.answered
  looked_quietly (fault.Blocked p) a = a.answered
  looked_quietly fault.Failed a = tt
  looked_quietly fault.Denied a = tt
  looked_quietly fault.Memory a = tt

  -- a tree that is as it was
  as_before : (P : Store → Store → Type 0) (a b : Option Store) → b ≡ a → ((m : Store) → P m m) → IfBoth a b P
  as_before P a b e f = subst (λ c. IfBoth a c P) (sym e) (alone a)
    where
      alone : (a : Option Store) → IfBoth a a P
      alone None = tt
      alone (Some m) = f m

  pub not_ready : (r : ApplyFault) → IsAsking {T = ℕ} (Err r) before now → WhereKnown before (λ m. Finds set (at m) (Err r)) → AppliesSet {X = Vec ℕ Global} HasItems word set before now (Err (apply_refusal word r))
  not_ready r a h = record {
    right = looked r a h;
    tree = record {
      later = a.later;
      quiet = looked_quietly r a;
      still = λ x. record { contents = a.contents; changes = a.changes };
      way = as_before (λ m n. (n ≡ m) ⊎ (IsReady (at m) set × IsOnItsWay set (at m) (at n))) before.contents now.contents a.contents (λ m. inl refl);
      paid = as_before (λ m n. IsPaid before.counts (work set (at m)) now.counts (work set (at n))) before.contents now.contents a.contents (λ m. omega (arith, a.changes));
      target = as_before (λ m n. ⊤) before.contents now.contents a.contents (λ m. tt);
    };
    number = tt;
  }

-- where the tree was found ready it is ready after the look
pub still_ready : (set : List Change) (k : ℕ) (before mid : TreeState) → IsAsking {T = ℕ} (Ok k) before mid → WhereKnown before (λ m. Finds set (at m) (Ok k)) → WhereKnown mid (λ m. IsReady (at m) set)
still_ready set k before mid a h = subst (λ c. IfHeld c (λ m. IsReady (at m) set)) (sym a.contents) (if_held before.contents h (λ m f. f.0))

-- what was counted after a call was counted
count_since : (a b c : ℕ) → a ≤ b → IsCounted b c → IsCounted a c
count_since a b c later h = counted_since {A = ℕ} (unknown_but a) (unknown_but b) (unknown_but c) later h

right_more : (word : ℕ) (set : List Change) (tree : Option Store) (counted counted' : Causes) (result : Result (Vec ℕ Global) Refusal) → ((failure : Failure) → counted failure → counted' failure) →
    IsRightOnTree HasItems word set tree counted result → IsRightOnTree HasItems word set tree counted' result
right_more word set tree counted counted' (Ok x) f h = h
right_more word set tree counted counted' (Err InvalidArguments) f h = h
right_more word set tree counted counted' (Err OutOfMemory) f h = h
right_more word set tree counted counted' (Err (CallFailed failure)) f h = (f failure h.0, h.1)
right_more word set tree counted counted' (Err (Found finding)) f h = h

quiet_more : (P Q : Type 0) (result : Result (Vec ℕ Global) Refusal) → (P → Q) → Unless result P → Unless result Q
quiet_more P Q (Ok x) f h = f h
quiet_more P Q (Err InvalidArguments) f h = f h
quiet_more P Q (Err OutOfMemory) f h = h
quiet_more P Q (Err (CallFailed failure)) f h = h
quiet_more P Q (Err (Found finding)) f h = f h

module _ (word : ℕ) (set : List Change) (k : ℕ) (before mid now : TreeState) (result : Result (Vec ℕ Global) Refusal) (asked : IsAsking {T = ℕ} (Ok k) before mid) where
  causes : (failure : Failure) → TreeCounted mid now failure → TreeCounted before now failure
  causes (ReadFailed w) h = h
  causes (TreeFailed w) h = count_since before.counts.faults mid.counts.faults now.counts.faults asked.later.faults h
  causes (TreeDenied w) h = (count_since before.counts.denials mid.counts.denials now.counts.denials asked.later.denials h.0, sym asked.contents ∙ h.1)

  quiet_before : NoneRefused mid.counts now.counts → NoneRefused before.counts now.counts
  quiet_before q = record { faults = q.faults ∙ asked.answered.faults; denials = q.denials ∙ asked.answered.denials; out_of_memory = q.out_of_memory ∙ asked.answered.out_of_memory }

  number_before : (answer : Result (Vec ℕ Global) Refusal) → IsNumbered HasItems answer mid now → IsNumbered HasItems answer before now
  number_before (Ok text) (changes, is, counted) = (changes, is, counted ∙ ap (λ n. counted_on n changes) asked.changes)
  number_before (Err r) n = tt

  pub after_look : AppliesSet HasItems word set mid now result → AppliesSet HasItems word set before now result
  after_look a = record {
    right = subst (λ c. IsRightOnTree HasItems word set c (TreeCounted before now) result) asked.contents (right_more word set mid.contents (TreeCounted mid now) (TreeCounted before now) result causes a.right);
    tree = record {
      later = record {
        faults = omega (arith, asked.later.faults, a.tree.later.faults);
        denials = omega (arith, asked.later.denials, a.tree.later.denials);
        out_of_memory = omega (arith, asked.later.out_of_memory, a.tree.later.out_of_memory);
        changes = omega (arith, asked.later.changes, a.tree.later.changes);
      };
      quiet = quiet_more (NoneRefused mid.counts now.counts) (NoneRefused before.counts now.counts) result quiet_before a.tree.quiet;
      still = λ h. let s = a.tree.still h in record { contents = s.contents ∙ asked.contents; changes = s.changes ∙ asked.changes };
      way = subst (λ c. IfBoth c now.contents (λ m n. (n ≡ m) ⊎ (IsReady (at m) set × IsOnItsWay set (at m) (at n)))) asked.contents a.tree.way;
      paid = subst (λ c. IfBoth c now.contents (λ m n. IsPaid before.counts (work set (at m)) now.counts (work set (at n)))) asked.contents
          (both_more mid.contents now.contents a.tree.paid (λ m n p. omega (arith, p, asked.changes)));
      target = subst (λ c. IfBoth c now.contents (λ m n. IfOk result (λ x. IsReady (at m) set × (at n ≡ after set (at m))))) asked.contents a.tree.target;
    };
    number = number_before result a.number;
  }

-- ---- the job

on_tree : (P : Check (List Change)) (word : ℕ) (set : List Change) (tree : Option Store) (counted counted' : Causes) (known : Option FileContents) (result : Result (Vec ℕ Global) Refusal) → IsAllowed P known counted (Ok set) →
    IsRightOnTree HasItems word set tree counted' result → IsAllowedOf HasItems (Then P (IsApplied word tree)) known counted' result
on_tree P word set tree counted counted' None (Ok x) p q = (q.0, q.1, tt)
on_tree P word set tree counted counted' None (Err InvalidArguments) p q = absurd q
on_tree P word set tree counted counted' None (Err OutOfMemory) p q = tt
on_tree P word set tree counted counted' None (Err (CallFailed failure)) p q = q.0
on_tree P word set tree counted counted' None (Err (Found finding)) p q = tt
on_tree P word set tree counted counted' (Some m) (Ok x) p q = (q.0, q.1, inr (set, p, q.2))
on_tree P word set tree counted counted' (Some m) (Err InvalidArguments) p q = absurd q
on_tree P word set tree counted counted' (Some m) (Err OutOfMemory) p q = tt
on_tree P word set tree counted counted' (Some m) (Err (CallFailed failure)) p q = inr (q.0, inr (set, p, q.1))
on_tree P word set tree counted counted' (Some m) (Err (Found finding)) p q = inr (set, p, q)

of_job_on_tree : (word : ℕ) (set : List Change) (tree : Option Store) (counted : Causes) (result : Result (Vec ℕ Global) Refusal) → IsRightOnTree HasItems word set tree counted result → IsOfJob result
of_job_on_tree word set tree counted (Ok x) h = tt
of_job_on_tree word set tree counted (Err InvalidArguments) h = h
of_job_on_tree word set tree counted (Err OutOfMemory) h = tt
of_job_on_tree word set tree counted (Err (CallFailed failure)) h = tt
of_job_on_tree word set tree counted (Err (Found finding)) h = tt

set_held : (file : Operand) (set : List Change) (counted : Causes) (known : Option FileContents) → IsAllowed (IsSetOf file) known counted (Ok set) → IsSetHeld known file set
set_held file set counted None h = tt
set_held file set counted (Some m) h = h

pub one_tree : TreeState → FilesState → Inputs
one_tree tree files = record { files = files; trees = tree ∷ [] }

module _ (folder file : Operand) (before now : FilesState) where
  -- SET was refused
  set_causes : (trees : List TreeState) (failure : Failure) → FilesCounted before now failure → InputsCounted (record { files = before; trees = trees }) (record { files = now; trees = trees }) failure
  set_causes trees (ReadFailed word) h = h
  set_causes trees (TreeFailed word) h = absurd h
  set_causes trees (TreeDenied word) h = absurd h

  is_refused : (result : Result (Vec ℕ Global) Refusal) (P : Refusal → Type 0) → IsErrAnd result P → IsRefused result
  is_refused (Ok x) P h = h
  is_refused (Err r) P h = tt

  pub set_refused : (r : Refusal) (result : Result (Vec ℕ Global) Refusal) (trees : List TreeState) → IsErrAnd result (λ e. e ≡ r) → Answers {X = List Change} (λ set cs. set ≡ cs) (IsSetOf file) ((file.text, FILE_LIMIT) ∷ []) before now (Err r) →
      (tree : Option Store) → Answers HasItems (IsApply folder file tree) ((file.text, FILE_LIMIT) ∷ []) before now result
  set_refused r result trees e a tree = then_handed_on (λ (set : List Change) cs. set ≡ cs) HasItems (IsSetOf file) (IsApplied folder.place tree) ((file.text, FILE_LIMIT) ∷ []) before now r result e a

  pub not_begun : (tree : TreeState) (result : Result (Vec ℕ Global) Refusal) → IsRefused result → Answers HasItems (IsApply folder file tree.contents) ((file.text, FILE_LIMIT) ∷ []) before now result →
      FindsText (IsApply folder file tree.contents) (Apply folder file) (record { files = before; trees = tree ∷ [] }) (record { files = now; trees = tree ∷ [] }) result
  not_begun tree result refused a = record {
    later = a.later;
    quiet = a.quiet;
    reads = a.reads;
    allowed = allowed_more HasItems (IsApply folder file tree.contents) (FilesCounted before now) _ before.contents result (set_causes (tree ∷ [])) a.allowed;
    of_job = a.job;
    trees = inl (refl, refused);
  }

  tree_causes : (tree later : TreeState) (failure : Failure) → TreeCounted tree later failure → InputsCounted (record { files = before; trees = tree ∷ [] }) (record { files = now; trees = later ∷ [] }) failure
  tree_causes tree later (ReadFailed word) h = absurd h
  tree_causes tree later (TreeFailed word) h = h
  tree_causes tree later (TreeDenied word) h = h

  pub applied : (set : List Change) (tree later : TreeState) (result : Result (Vec ℕ Global) Refusal) → Answers {X = List Change} (λ set cs. set ≡ cs) (IsSetOf file) ((file.text, FILE_LIMIT) ∷ []) before now (Ok set) →
      AppliesSet HasItems folder.place set tree later result → FindsText (IsApply folder file tree.contents) (Apply folder file) (record { files = before; trees = tree ∷ [] }) (record { files = now; trees = later ∷ [] }) result
  applied set tree later result a b =
      let p : IsAllowed (IsSetOf file) before.contents (FilesCounted before now) (Ok set) = subst (λ cs. IsAllowed (IsSetOf file) before.contents (FilesCounted before now) (Ok cs)) (sym a.allowed.1) a.allowed.2 in
      let counted : Causes = InputsCounted (record { files = before; trees = tree ∷ [] }) (record { files = now; trees = later ∷ [] }) in
      record {
        later = a.later;
        quiet = quietly result (now.faults ≡ before.faults) a.quiet;
        reads = a.reads;
        allowed = on_tree (IsSetOf file) folder.place set tree.contents (FilesCounted before now) counted before.contents result p
            (right_more folder.place set tree.contents (TreeCounted tree later) counted result (tree_causes tree later) b.right);
        of_job = of_job_on_tree folder.place set tree.contents (TreeCounted tree later) result b.right;
        trees = inr ((set, set_held file set (FilesCounted before now) before.contents p, b.tree), b.number);
      }

  -- the same, of the only tree of a list
  pub applied_to_only : (set : List Change) (trees later : List TreeState) (result : Result (Vec ℕ Global) Refusal) → Answers {X = List Change} (λ set cs. set ≡ cs) (IsSetOf file) ((file.text, FILE_LIMIT) ∷ []) before now (Ok set) →
      OfOnlyTree trees later (λ b n. AppliesSet HasItems folder.place set b n result) → FindsText (IsApply folder file (held_tree trees)) (Apply folder file) (record { files = before; trees = trees }) (record { files = now; trees = later }) result
  applied_to_only set [] later result a h = absurd h
  applied_to_only set (tree ∷ []) [] result a h = absurd h
  applied_to_only set (tree ∷ []) (next ∷ []) result a h = applied set tree next result a h
  applied_to_only set (tree ∷ []) (next ∷ (more ∷ later)) result a h = absurd h
  applied_to_only set (tree ∷ (more ∷ trees)) later result a h = absurd h

  -- SET was refused, and the trees were not asked
  pub not_begun_on : (trees : List TreeState) (r : Refusal) (result : Result (Vec ℕ Global) Refusal) → length trees ≡ 1 → IsErrAnd result (λ e. e ≡ r) → Answers {X = List Change} (λ set cs. set ≡ cs) (IsSetOf file) ((file.text, FILE_LIMIT) ∷ []) before now (Err r) →
      FindsText (IsApply folder file (held_tree trees)) (Apply folder file) (record { files = before; trees = trees }) (record { files = now; trees = trees }) result
  not_begun_on [] r result one e a = absurd (omega (arith, one))
  not_begun_on (tree ∷ []) r result one e a = not_begun tree result (is_refused result (λ e. e ≡ r) e) (set_refused r result (tree ∷ []) e a tree.contents)
  not_begun_on (tree ∷ (more ∷ trees)) r result one e a = absurd (omega (arith, one))
