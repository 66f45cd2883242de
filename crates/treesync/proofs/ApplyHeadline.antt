-- The headline of applying follows from what a run owes.
use Rattle.std.proofs.Common.{false, ◌≡◌, ◌⊎◌, ◌≤◌, ℕ, List, [], ◌∷◌, length, Option, None, Some, Result, Ok, Err, IfOk, inl, inr, refl, sym, ap, subst, ◌∙◌, arith}
use Rattle.std.proofs.lemmas.List.Sums.{sum_by-cons}
use Rattle.sync_command.specs.Changes.{Change}
use Rattle.sync_command.specs.Maps.{Store, at}
use Rattle.sync_command.specs.Trees.{after}
use Rattle.sync_port.specs.Ports.{FileContents, Names, SinkState}
use Rattle.sync_port.specs.States.{IfBoth}
use Rattle.tree_port.specs.States.{TreeState}
use Rattle.resume_apply.specs.Finishing.{IsPaid, counted_on}
use Rattle.resume_apply.specs.Ready.{IsOnItsWay, IsReady, work}
use Rattle.tool_words.specs.Jobs.{job_of}
use Rattle.tool_words.specs.Words.{Operand, Text}
use Rattle.tool_words.specs.declared.job.Job.TheVariants.{Apply}
use Rattle.treesync.specs.Apply.{Applies, IsApply, IsNumbered, IsSetOf, applied_text}
use Rattle.treesync.specs.Ends.{Prints}
use Rattle.treesync.specs.Headline.{CompletesOnTree, Gains, GainsApplied, GoesOn, HoldsSet, IsChangedBy, KeepsUnready, Paid, PrintsApplied, PrintsChanges, Recorded, ResumesApply, text_of}
use Rattle.treesync.specs.Jobs.{AppliesFile, IsSetHeld, InputsCounted, IsAnswer, IsRefused, LeavesTreesOf, Outside, Ran, held_tree, inputs_of, shows_output}
use Rattle.treesync.specs.Messages.{failure_status}
use Rattle.treesync.specs.Outputs.{AsText, Output, text_in}
use Rattle.treesync.specs.declared.input.TheConstants.{FILE_LIMIT}
use Rattle.treesync.specs.declared.logs.TheConstants.{FULL_ALLOWANCE, MAX_COMMANDS}
use Rattle.treesync.specs.declared.refusal.Refusal.{Refusal}
use Rattle.treesync.specs.declared.refusal.Refusal.TheVariants.{InvalidArguments, OutOfMemory, CallFailed, Found}
use Rattle.treesync.specs.declared.refusal.Failure.{Failure}
use Rattle.treesync.specs.declared.refusal.Failure.TheVariants.{ReadFailed, TreeFailed, TreeDenied}
use Rattle.treesync.proofs.HeadlineLemmas.{found_text, gained, job_answer, text_completes}
use Rattle.treesync.proofs.HeldLogs.{log_read, read_of}
use Rattle.treesync.proofs.Unique.{apply_one, set_one}
use Rattle.treesync.proofs.Words.{failure_above, finding_above}

-- ---- the set that is held

held_set : (held : Names) (file : Operand) (set : List Change) → HoldsSet held file set → IsSetOf file held false (Ok set)
held_set held file set h = inr (read_of h.log, log_read held FULL_ALLOWANCE file h.log h.hold.texts.0 h.hold.texts.1 bytes commands, (h.taken, h.net))
  where
    bytes : length (text_of h.log) ≤ FILE_LIMIT
    bytes = let e = sum_by-cons (λ (l : Recorded). length (text_of l)) h.log [] in omega (arith, e, h.hold.bytes)

    commands : length h.log.commands ≤ MAX_COMMANDS
    commands = let e = sum_by-cons (λ (l : Recorded). length l.commands) h.log [] in omega (arith, e, h.hold.commands)

ok_same : {A : Type 0} {a b : A} → ◌≡◌ {A = Result A Refusal} (Ok a) (Ok b) → a ≡ b
ok_same e = cc

same_set : (held : Names) (file : Operand) (set other : List Change) → HoldsSet held file set → IsSetOf file held false (Ok other) → other ≡ set
same_set held file set other h g = ok_same (set_one file held (Ok other) (Ok set) g (held_set held file set h))

-- ---- what becomes of the tree

-- a tree that is known, and what the answer leaves of it
pub record Left (set : List Change) (m : Store) (answer : Result Output Refusal) (trees later : List TreeState) : Type 0 where
  pub tree : Store
  pub held : held_tree later ≡ Some tree
  pub way : (tree ≡ m) ⊎ (IsReady (at m) set × IsOnItsWay set (at m) (at tree))
  pub paid : Paid set trees m later tree
  pub target : (output : Output) → answer ≡ Ok output → IsReady (at m) set × (at tree ≡ after set (at m))

module _ (held : Names) (file : Operand) (set : List Change) (holds : HoldsSet held file set) (m : Store) where
  no_text : (answer : Result Output Refusal) → IsRefused answer → (output : Output) → answer ≡ Ok output → ⊥
  no_text (Ok x) refused text e = refused
  no_text (Err r) refused text e = absurd (cc)

  paid_still : (trees : List TreeState) → held_tree trees ≡ Some m → Paid set trees m trees m
  paid_still [] e = absurd (cc)
  paid_still (tree ∷ trees) e = omega arith

  untouched : (answer : Result Output Refusal) (trees : List TreeState) → held_tree trees ≡ Some m → IsRefused answer → Left set m answer trees trees
  untouched answer trees e refused = record { tree = m; held = e; way = inl refl; paid = paid_still trees e; target = λ text f. absurd (no_text answer refused text f) }

  text_target : (answer : Result Output Refusal) (output : Output) → answer ≡ Ok output → (P : Type 0) → IfOk answer (λ t. P) → P
  text_target (Ok x) text g P h = h
  text_target (Err r) text g P h = absurd (cc)

  left_by : (answer : Result Output Refusal) (tree now : TreeState) (x y : Option Store) → x ≡ Some m → now.contents ≡ y →
      IfBoth x y (λ a b. (b ≡ a) ⊎ (IsReady (at a) set × IsOnItsWay set (at a) (at b))) → IfBoth x y (λ a b. IsPaid tree.counts (work set (at a)) now.counts (work set (at b))) →
      IfBoth x y (λ a b. IfOk answer (λ t. IsReady (at a) set × (at b ≡ after set (at a)))) → Left set m answer (tree ∷ []) (now ∷ [])
  left_by answer tree now None y e f w p t = absurd (cc)
  left_by answer tree now (Some a) None e f w p t = absurd w
  left_by answer tree now (Some a) (Some b) e f w p t =
      let same : a ≡ m = cc in
      record {
        tree = b;
        held = f;
        way = subst (λ z. (b ≡ z) ⊎ (IsReady (at z) set × IsOnItsWay set (at z) (at b))) same w;
        paid = subst (λ z. IsPaid tree.counts (work set (at z)) now.counts (work set (at b))) same p;
        target = λ text g. subst (λ z. IsReady (at z) set × (at b ≡ after set (at z))) same (text_target answer text g (IsReady (at a) set × (at b ≡ after set (at a))) t);
      }

  applied_left : (answer : Result Output Refusal) (tree now : TreeState) → tree.contents ≡ Some m → Applies set answer tree now → Left set m answer (tree ∷ []) (now ∷ [])
  applied_left answer tree now e a = left_by answer tree now tree.contents now.contents e refl a.way a.paid a.target

  set_held_is : (files : Option FileContents) (k : FileContents) (other : List Change) → files ≡ Some k → k.held ≡ held → IsSetHeld files file other → other ≡ set
  set_held_is None k other e f h = absurd (cc)
  set_held_is (Some x) k other e f h =
      let same : x ≡ k = cc in
      same_set held file set other holds (subst (λ (y : Names). IsSetOf file y false (Ok other)) (ap (λ (c : FileContents). c.held) same ∙ f) h)

  file_left : (files : Option FileContents) (k : FileContents) (answer : Result Output Refusal) (trees later : List TreeState) → files ≡ Some k → k.held ≡ held → held_tree trees ≡ Some m →
      AppliesFile shows_output file files answer trees later → Left set m answer trees later
  file_left files k answer [] later e f g h = absurd h
  file_left files k answer (tree ∷ []) [] e f g h = absurd h
  file_left files k answer (tree ∷ []) (now ∷ []) e f g ((other, is, a), n) = applied_left answer tree now g (subst (λ s. Applies s answer tree now) (set_held_is files k other e f is) a)
  file_left files k answer (tree ∷ []) (now ∷ (next ∷ later)) e f g h = absurd h
  file_left files k answer (tree ∷ (next ∷ trees)) later e f g h = absurd h

-- ---- statuses

no_four : (failure : Failure) → failure_status failure ≡ 4 → ⊥
no_four (ReadFailed word) e = absurd (omega (arith, e))
no_four (TreeFailed word) e = absurd (omega (arith, e))
no_four (TreeDenied word) e = absurd (omega (arith, e))

-- statuses 0 and 4 are those of an output
pub text_status : (answer : Result Output Refusal) (status : ℕ) (a b : SinkState) → Prints answer status a b → (status ≡ 0) ⊎ (status ≡ 4) → (output : Output) × (answer ≡ Ok output)
text_status (Ok text) status a b p z = (text, refl)
text_status (Err InvalidArguments) status a b p (inl z) = absurd (omega (arith, p.0, z))
text_status (Err InvalidArguments) status a b p (inr z) = absurd (omega (arith, p.0, z))
text_status (Err OutOfMemory) status a b p (inl z) = absurd (omega (arith, p.0, z))
text_status (Err OutOfMemory) status a b p (inr z) = absurd (omega (arith, p.0, z))
text_status (Err (CallFailed failure)) status a b p (inl z) = absurd (omega (arith, p.0, z, failure_above failure))
text_status (Err (CallFailed failure)) status a b p (inr z) = absurd (no_four failure (sym p.0 ∙ z))
text_status (Err (Found finding)) status a b p (inl z) = absurd (omega (arith, p.0, z, finding_above finding))
text_status (Err (Found finding)) status a b p (inr z) = absurd (omega (arith, p.0, z, finding_above finding))

on_the_way : (set : List Change) (a b c : Store) → IsOnItsWay set (at a) (at b) → IsOnItsWay set (at b) (at c) → IsOnItsWay set (at a) (at c)
on_the_way set a b c first next = record { ready = next.ready; target = next.target ∙ first.target; elsewhere = λ p none. next.elsewhere p none ∙ first.elsewhere p none }

-- ---- a run

module _ (words : List Text) (before now : Outside) (status : ℕ) (ran : Ran words before now status) (folder file : Operand) (m : FileContents) (set : List Change) (tree : Store)
    (e : job_of words ≡ Some (Apply folder file)) (known : before.files.contents ≡ Some m) (holds : HoldsSet m.held file set) (has : held_tree before.trees ≡ Some tree) where
  left : Left set tree ran.answer before.trees now.trees
  left = by (subst (λ j. LeavesTreesOf j before.files.contents ran.answer before.trees now.trees) e ran.trees)
    where
      by : ((now.trees ≡ before.trees) × IsRefused ran.answer) ⊎ AppliesFile shows_output file before.files.contents ran.answer before.trees now.trees → Left set tree ran.answer before.trees now.trees
      by (inl h) = subst (Left set tree ran.answer before.trees) (sym h.0) (untouched m.held file set holds tree ran.answer before.trees has h.1)
      by (inr h) = file_left m.held file set holds tree before.files.contents m ran.answer before.trees now.trees known refl has h

  right : IsReady (at tree) set → IsApply folder file (Some tree) m.held false (Ok (applied_text (work set (at tree))))
  right ready = inr (set, held_set m.held file set holds, (ready, refl))

  is_apply : (answer : Result Output Refusal) → IsAnswer words (held_tree before.trees) m.held false answer → AsText (IsApply folder file (Some tree)) m.held false answer
  is_apply answer h = subst (λ t. AsText (IsApply folder file t) m.held false answer) has (job_answer words (Apply folder file) (held_tree before.trees) m.held answer e h)

  pub completes_apply : IsReady (at tree) set → CompletesOnTree before now status
  completes_apply ready tree_quiet files_quiet out_quiet =
      text_completes words before now status ran m (IsApply folder file (Some tree)) (apply_one folder file tree) is_apply known (applied_text (work set (at tree))) (right ready) quiet out_quiet
    where
      quiet : (failure : Failure) → InputsCounted (inputs_of before) (inputs_of now) failure → ⊥
      quiet (ReadFailed word) h = files_quiet h
      quiet (TreeFailed word) h = tree_quiet h
      quiet (TreeDenied word) h = absurd (cc (has, h.1))

  pub goes_on : (start : Store) → IsOnItsWay set (at start) (at tree) → GoesOn set start tree before now status
  goes_on start way = record {
    tree = left.tree;
    held = left.held;
    way = by left.way;
    paid = left.paid;
    target = λ z. let t = text_status ran.answer status before.out now.out ran.prints z in (left.target t.0 t.1).1 ∙ way.target;
    completes = completes_apply way.ready;
  }
    where
      by : (left.tree ≡ tree) ⊎ (IsReady (at tree) set × IsOnItsWay set (at tree) (at left.tree)) → IsOnItsWay set (at start) (at left.tree)
      by (inl same) = subst (λ n. IsOnItsWay set (at start) (at n)) (sym same) way
      by (inr h) = on_the_way set start tree left.tree way h.1

  pub stays_unready : (IsReady (at tree) set → ⊥) → held_tree now.trees ≡ Some tree
  stays_unready unready = by left.way
    where
      by : (left.tree ≡ tree) ⊎ (IsReady (at tree) set × IsOnItsWay set (at tree) (at left.tree)) → held_tree now.trees ≡ Some tree
      by (inl same) = left.held ∙ ap Some same
      by (inr h) = absurd (unready h.0)

  pub gains_applied : status ≡ 0 → GainsApplied set tree before now
  gains_applied z =
      let t = text_status ran.answer status before.out now.out ran.prints (inl z) in
      let is = left.target t.0 t.1 in
      let found = found_text words before now status ran (Apply folder file) (IsApply folder file (Some tree)) m (ap (λ t. AsText (IsApply folder file t)) has) e known z in
      let same = apply_one folder file tree m.held (Ok found.text) (Ok (applied_text (work set (at tree)))) found.right (right is.0) in
      record { ready = is.0; tree = left.tree; held = left.held; target = is.1; gains = subst (λ text. Gains text before.out now.out) (ok_same same) found.gains }

module _ (words : List Text) (before now : Outside) (status : ℕ) (ran : Ran words before now status) where
  pub prints_applied : PrintsApplied words before now status
  prints_applied folder file m set tree e known holds has z = gains_applied words before now status ran folder file m set tree e known holds has z

  pub prints_changes : PrintsChanges words before now status
  prints_changes folder file e z = by (subst (λ j. LeavesTreesOf j before.files.contents ran.answer before.trees now.trees) e ran.trees)
    where
      t : (output : Output) × (ran.answer ≡ Ok output)
      t = text_status ran.answer status before.out now.out ran.prints (inl z)

      gains : Gains (text_in t.0) before.out now.out
      gains = gained status t.0 before.out now.out (omega (arith, z)) (subst (λ a. Prints a status before.out now.out) t.1 ran.prints)

      counted : (trees later : List TreeState) → AppliesFile shows_output file before.files.contents ran.answer trees later → (changes : ℕ) × IsChangedBy trees changes later × Gains (applied_text changes) before.out now.out
      counted [] later h = absurd h
      counted (tree ∷ []) [] h = absurd h
      counted (tree ∷ []) (next ∷ []) (applied, n) =
          let k : (changes : ℕ) × shows_output t.0 (applied_text changes) × (next.counts.changes ≡ counted_on tree.counts.changes changes) = subst (λ a. IsNumbered shows_output a tree next) t.1 n in
          (k.0, k.2, subst (λ o. Gains (text_in o) before.out now.out) k.1 gains)
      counted (tree ∷ []) (next ∷ (more ∷ later)) h = absurd h
      counted (tree ∷ (next ∷ trees)) later h = absurd h

      by : ((now.trees ≡ before.trees) × IsRefused ran.answer) ⊎ AppliesFile shows_output file before.files.contents ran.answer before.trees now.trees → (changes : ℕ) × IsChangedBy before.trees changes now.trees × Gains (applied_text changes) before.out now.out
      by (inl h) = absurd (subst IsRefused t.1 h.1)
      by (inr h) = counted before.trees now.trees h

  pub resumes_apply : ResumesApply words before now status
  resumes_apply folder file m set start tree e known holds has way = goes_on words before now status ran folder file m set tree e known holds has start way

  pub keeps_unready : KeepsUnready words before now
  keeps_unready folder file m set tree e known holds has unready = stays_unready words before now status ran folder file m set tree e known holds has unready
