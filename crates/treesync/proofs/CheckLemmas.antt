-- One check after another keeps what a function that makes them owes.
use Rattle.std.proofs.Common.{◌≡◌, ◌+◌, ◌++◌, ◌≤◌, ℕ, List, [], ◌∷◌, max, None, Some, Ok, Err, IsErrAnd, inl, inr, refl, sym, ap, subst, ◌∙◌, arith, length-append}
use Rattle.std.proofs.lemmas.List.Sums.{sum_by-append}
use Rattle.std.proofs.lemmas.Result.{err_from_is_err_and}
use Rattle.std.specs.declared.option.Option.{Option}
use Rattle.std.specs.declared.result.Result.{Result}
use Rattle.sync_port.specs.States.{IfBoth}
use Rattle.sync_port.specs.Ports.{FileContents, FilesState}
use Rattle.sync_port.proofs.CallerLemmas.{both_more, both_then, both_alone, counted_since}
use Rattle.treesync.specs.Checks.{Answers, Causes, Check, FilesCounted, IsAllowed, IsAllowedOf, IsRight, IsJudged, IsOfJob, Judged, Limits, Next, ReadsFiles, Then, Unless, past_limit}
use Rattle.treesync.specs.declared.refusal.Refusal.{Refusal}
use Rattle.treesync.specs.declared.refusal.Failure.{Failure}
use Rattle.treesync.specs.declared.refusal.Failure.TheVariants.{ReadFailed, TreeFailed, TreeDenied}
use Rattle.treesync.specs.declared.refusal.Refusal.TheVariants.{InvalidArguments, OutOfMemory, CallFailed, Found}

-- an answer that a judgement gives: what follows from what was read
abbrev IsFindingOrOk : {A : Type 0} → Result A Refusal → Type 0
IsFindingOrOk (Ok a) = Unit {0}
IsFindingOrOk (Err (Found finding)) = Unit {0}
IsFindingOrOk (Err r) = ⊥

-- ---- a refusal of the first check is the answer of both

pub refused : {A B : Type 0} (P : Check A) (Q : A → Check B) (counted : Causes) (known : Option FileContents) (r : Refusal) →
    IsAllowed P known counted (Err r) → IsAllowed (Then P Q) known counted (Err r)
refused P Q counted None InvalidArguments h = h
refused P Q counted None OutOfMemory h = h
refused P Q counted None (CallFailed failure) h = h
refused P Q counted None (Found finding) h = h
refused P Q counted (Some m) InvalidArguments h = inl (InvalidArguments, h, refl)
refused P Q counted (Some m) OutOfMemory h = h
refused P Q counted (Some m) (CallFailed failure) (inl h) = inl (inl (CallFailed failure, h, refl))
refused P Q counted (Some m) (CallFailed failure) (inr h) = inr (h.0, inl (CallFailed failure, h.1, refl))
refused P Q counted (Some m) (Found finding) h = inl (Found finding, h, refl)

quiet_refused : (X Y : Type 0) (r : Refusal) (P : Type 0) → Unless {X = X} (Err r) P → Unless {X = Y} (Err r) P
quiet_refused X Y InvalidArguments P h = h
quiet_refused X Y OutOfMemory P h = h
quiet_refused X Y (CallFailed failure) P h = h
quiet_refused X Y (Found finding) P h = h

of_job_refused : (X Y : Type 0) (r : Refusal) → IsOfJob {X = X} (Err r) → IsOfJob {X = Y} (Err r)
of_job_refused X Y InvalidArguments h = h
of_job_refused X Y OutOfMemory h = h
of_job_refused X Y (CallFailed failure) h = h
of_job_refused X Y (Found finding) h = h

module _ {X Y A B : Type 0} (stands : X → A → Type 0) (stands' : Y → B → Type 0) (P : Check A) (Q : A → Check B) (limits : Limits) (before now : FilesState) where
  pub then_refused : (r : Refusal) → Answers stands P limits before now (Err r) → Answers stands' (Then P Q) limits before now (Err r)
  then_refused r a = record {
    later = a.later;
    quiet = quiet_refused X Y r (now.faults ≡ before.faults) a.quiet;
    reads = a.reads;
    allowed = refused P Q (FilesCounted before now) before.contents r a.allowed;
    job = of_job_refused X Y r a.job;
  }

  -- a `?` hands a refusal on
  pub then_handed_on : (r : Refusal) (result : Result Y Refusal) → IsErrAnd result (λ e. e ≡ r) → Answers stands P limits before now (Err r) → Answers stands' (Then P Q) limits before now result
  then_handed_on r result e a =
      let p = err_from_is_err_and result e in
      subst (Answers stands' (Then P Q) limits before now) (sym (p.1 ∙ ap Err p.2)) (then_refused r a)

-- ---- what the first check gave is judged

judged_of : {A B : Type 0} (P : Check A) (Q : A → Result B Refusal → Type 0) (counted : Causes) (a : A) (known : Option FileContents) (answer : Result B Refusal) →
    IsAllowed P known counted (Ok a) → Q a answer → IsFindingOrOk answer → IsAllowed (Then P (λ x. Judged (Q x))) known counted answer
judged_of P Q counted a None (Ok x) h q f = tt
judged_of P Q counted a None (Err InvalidArguments) h q f = tt
judged_of P Q counted a None (Err OutOfMemory) h q f = tt
judged_of P Q counted a None (Err (CallFailed failure)) h q f = absurd f
judged_of P Q counted a None (Err (Found finding)) h q f = tt
judged_of P Q counted a (Some m) (Ok x) h q f = inr (a, h, q)
judged_of P Q counted a (Some m) (Err InvalidArguments) h q f = absurd f
judged_of P Q counted a (Some m) (Err OutOfMemory) h q f = tt
judged_of P Q counted a (Some m) (Err (CallFailed failure)) h q f = absurd f
judged_of P Q counted a (Some m) (Err (Found finding)) h q f = inr (a, h, q)

pub memory_allowed : {A : Type 0} (P : Check A) (counted : Causes) (known : Option FileContents) → IsAllowed P known counted (Err OutOfMemory)
memory_allowed P counted None = tt
memory_allowed P counted (Some m) = tt

judged : {X A B : Type 0} (stands : X → B → Type 0) (P : Check A) (Q : A → Result B Refusal → Type 0) (counted : Causes) (a : A) (known : Option FileContents) (result : Result X Refusal) →
    IsAllowed P known counted (Ok a) → IsJudged stands (Q a) result → IsAllowedOf stands (Then P (λ x. Judged (Q x))) known counted result
judged stands P Q counted a known (Ok x) h q = (q.0, q.1, judged_of P Q counted a known (Ok q.0) h q.2 tt)
judged stands P Q counted a known (Err InvalidArguments) h q = absurd q
judged stands P Q counted a known (Err OutOfMemory) h q = memory_allowed (Then P (λ x. Judged (Q x))) counted known
judged stands P Q counted a known (Err (CallFailed failure)) h q = absurd q
judged stands P Q counted a known (Err (Found finding)) h q = judged_of P Q counted a known (Err (Found finding)) h q tt

of_judged : {X B : Type 0} (stands : X → B → Type 0) (Q : Result B Refusal → Type 0) (result : Result X Refusal) → IsJudged stands Q result → IsOfJob result
of_judged stands Q (Ok x) q = tt
of_judged stands Q (Err InvalidArguments) q = q
of_judged stands Q (Err OutOfMemory) q = tt
of_judged stands Q (Err (CallFailed failure)) q = tt
of_judged stands Q (Err (Found finding)) q = tt

pub quietly : {X : Type 0} (result : Result X Refusal) (P : Type 0) → P → Unless result P
quietly (Ok x) P h = h
quietly (Err InvalidArguments) P h = h
quietly (Err OutOfMemory) P h = tt
quietly (Err (CallFailed failure)) P h = tt
quietly (Err (Found finding)) P h = h

pub then_judged : {X Y A B : Type 0} (stands : X → A → Type 0) (stands' : Y → B → Type 0) (P : Check A) (Q : A → Result B Refusal → Type 0) (limits : Limits) (before now : FilesState) (x : X) (result : Result Y Refusal) →
    Answers stands P limits before now (Ok x) → ((a : A) → stands x a → IsJudged stands' (Q a) result) → Answers stands' (Then P (λ a. Judged (Q a))) limits before now result
then_judged stands stands' P Q limits before now x result a q =
    let judgement = q a.allowed.0 a.allowed.1 in
    record {
      later = a.later;
      quiet = quietly result (now.faults ≡ before.faults) a.quiet;
      reads = a.reads;
      allowed = judged stands' P Q (FilesCounted before now) a.allowed.0 before.contents result a.allowed.2 judgement;
      job = of_judged stands' (Q a.allowed.0) result judgement;
    }

-- a refusal is one whatever would have stood for what the check gives
pub alike_refused : {X Y A : Type 0} (stands : X → A → Type 0) (stands' : Y → A → Type 0) (P : Check A) (limits : Limits) (before now : FilesState) (r : Refusal) →
    Answers stands P limits before now (Err r) → Answers stands' P limits before now (Err r)
alike_refused {X} {Y} stands stands' P limits before now r a = record {
  later = a.later;
  quiet = quiet_refused X Y r (now.faults ≡ before.faults) a.quiet;
  reads = a.reads;
  allowed = a.allowed;
  job = of_job_refused X Y r a.job;
}

-- ---- what the first check gave goes to a check of other files

files_counted_since : (before mid now : FilesState) → before.faults ≤ mid.faults → (failure : Failure) → FilesCounted mid now failure → FilesCounted before now failure
files_counted_since before mid now later (ReadFailed word) h = counted_since before mid now later h
files_counted_since before mid now later (TreeFailed word) h = h
files_counted_since before mid now later (TreeDenied word) h = h

-- a fault that was counted later was counted
next : {B : Type 0} (Q : Check B) (counted counted' : Causes) (known : Option FileContents) (answer : Result B Refusal) → ((failure : Failure) → counted failure → counted' failure) →
    IsAllowed Q known counted answer → IsAllowed Q known counted' answer
next Q counted counted' None (Ok x) f h = h
next Q counted counted' None (Err InvalidArguments) f h = h
next Q counted counted' None (Err OutOfMemory) f h = h
next Q counted counted' None (Err (CallFailed failure)) f h = f failure h
next Q counted counted' None (Err (Found finding)) f h = h
next Q counted counted' (Some m) (Ok x) f h = h
next Q counted counted' (Some m) (Err InvalidArguments) f h = h
next Q counted counted' (Some m) (Err OutOfMemory) f h = h
next Q counted counted' (Some m) (Err (CallFailed failure)) f (inl h) = inl h
next Q counted counted' (Some m) (Err (CallFailed failure)) f (inr h) = inr (f failure h.0, h.1)
next Q counted counted' (Some m) (Err (Found finding)) f h = h

pub allowed_more : {X B : Type 0} (stands : X → B → Type 0) (Q : Check B) (counted counted' : Causes) (known : Option FileContents) (result : Result X Refusal) → ((failure : Failure) → counted failure → counted' failure) →
    IsAllowedOf stands Q known counted result → IsAllowedOf stands Q known counted' result
allowed_more stands Q counted counted' known (Ok x) f h = (h.0, h.1, next Q counted counted' known (Ok h.0) f h.2)
allowed_more stands Q counted counted' known (Err r) f h = next Q counted counted' known (Err r) f h

pub second : {A B : Type 0} (P : Check A) (Q : A → Check B) (counted counted' : Causes) (a : A) (known : Option FileContents) (answer : Result B Refusal) →
    IsAllowed P known counted' (Ok a) → IsAllowed (Q a) known counted answer → IsAllowed (Then P Q) known counted answer
second P Q counted counted' a None (Ok x) h q = q
second P Q counted counted' a None (Err InvalidArguments) h q = q
second P Q counted counted' a None (Err OutOfMemory) h q = q
second P Q counted counted' a None (Err (CallFailed failure)) h q = q
second P Q counted counted' a None (Err (Found finding)) h q = q
second P Q counted counted' a (Some m) (Ok x) h q = inr (a, h, q)
second P Q counted counted' a (Some m) (Err InvalidArguments) h q = inr (a, h, q)
second P Q counted counted' a (Some m) (Err OutOfMemory) h q = q
second P Q counted counted' a (Some m) (Err (CallFailed failure)) h (inl q) = inl (inr (a, h, q))
second P Q counted counted' a (Some m) (Err (CallFailed failure)) h (inr q) = inr (q.0, inr (a, h, q.1))
second P Q counted counted' a (Some m) (Err (Found finding)) h q = inr (a, h, q)

-- what was held stays for the second check
still_held : {B : Type 0} (Q : Check B) (counted : Causes) (limits : Limits) (known mid : Option FileContents) (answer : Result B Refusal) → IfBoth known mid (ReadsFiles limits) →
    IsAllowed Q mid counted answer → IsAllowed Q known counted answer
still_held Q counted limits None None answer kept h = h
still_held Q counted limits None (Some k) answer kept h = absurd kept
still_held Q counted limits (Some m) None answer kept h = absurd kept
still_held Q counted limits (Some m) (Some k) answer kept h = subst (λ held. IsRight Q held counted answer) kept.held h

past_both : (xs ys : Limits) (name : List ℕ) → past_limit (xs ++ ys) name ≡ max (past_limit xs name) (past_limit ys name)
past_both [] ys name = omega arith
past_both (x ∷ xs) ys name = omega (arith, past_both xs ys name)

reads_both : (limits more all : Limits) (a b c : Option FileContents) → limits ++ more ≡ all → IfBoth a b (ReadsFiles limits) → IfBoth b c (ReadsFiles more) → IfBoth a c (ReadsFiles all)
reads_both limits more all a b c e h g = both_then a b c h g (λ m k j p q. subst (λ l. ReadsFiles l m j) e (record {
  held = q.held ∙ p.held;
  opened = omega (arith, p.opened, q.opened, length-append limits more);
  taken = omega (arith, p.taken, q.taken, length-append limits more, sum_by-append (λ (file : List ℕ × ℕ). file.1 + 1) limits more);
  most = λ name. omega (arith, p.most name, q.most name, past_both limits more name);
}))

quiet_both : {X : Type 0} (result : Result X Refusal) (a b c : ℕ) → b ≡ a → Unless result (c ≡ b) → Unless result (c ≡ a)
quiet_both (Ok x) a b c e h = h ∙ e
quiet_both (Err InvalidArguments) a b c e h = h ∙ e
quiet_both (Err OutOfMemory) a b c e h = h
quiet_both (Err (CallFailed failure)) a b c e h = h
quiet_both (Err (Found finding)) a b c e h = h ∙ e

module _ {A B : Type 0} (P : Check A) (Q : A → Check B) (limits more : Limits) (before mid now : FilesState) (a : A) (later : before.faults ≤ mid.faults)
    (reads : IfBoth before.contents mid.contents (ReadsFiles limits)) (first : IsAllowed P before.contents (FilesCounted before mid) (Ok a)) where
  allowed_next : (answer : Result B Refusal) → IsAllowed (Q a) mid.contents (FilesCounted mid now) answer → IsAllowed (Then P Q) before.contents (FilesCounted before now) answer
  allowed_next answer h =
      second P Q (FilesCounted before now) (FilesCounted before mid) a before.contents answer first
      (next (Q a) (FilesCounted mid now) (FilesCounted before now) before.contents answer (files_counted_since before mid now later)
      (still_held (Q a) (FilesCounted mid now) limits before.contents mid.contents answer reads h))

  allowed_of_next : {Y : Type 0} (stands : Y → B → Type 0) (result : Result Y Refusal) → IsAllowedOf stands (Q a) mid.contents (FilesCounted mid now) result →
      IsAllowedOf stands (Then P Q) before.contents (FilesCounted before now) result
  allowed_of_next stands (Ok y) h = (h.0, h.1, allowed_next (Ok h.0) h.2)
  allowed_of_next stands (Err r) h = allowed_next (Err r) h

pub then_next : {X Y A B : Type 0} (stands : X → A → Type 0) (stands' : Y → B → Type 0) (P : Check A) (Q : A → Check B) (limits more all : Limits) (before mid now : FilesState) (x : X) (result : Result Y Refusal) →
    limits ++ more ≡ all → Answers stands P limits before mid (Ok x) → ((a : A) → stands x a → Answers stands' (Q a) more mid now result) → Answers stands' (Then P Q) all before now result
then_next stands stands' P Q limits more all before mid now x result e a q =
    let b = q a.allowed.0 a.allowed.1 in
    record {
      later = omega (arith, a.later, b.later);
      quiet = quiet_both result before.faults mid.faults now.faults a.quiet b.quiet;
      reads = reads_both limits more all before.contents mid.contents now.contents e a.reads b.reads;
      allowed = allowed_of_next P Q limits more before mid now a.allowed.0 a.later a.reads a.allowed.2 stands' result b.allowed;
      job = b.job;
    }

-- the limits of files that are not reached
pub fewer_files : {X A : Type 0} (stands : X → A → Type 0) (P : Check A) (limits more all : Limits) (before now : FilesState) (result : Result X Refusal) →
    limits ++ more ≡ all → Answers stands P limits before now result → Answers stands P all before now result
fewer_files stands P limits more all before now result e a = record {
  later = a.later;
  quiet = a.quiet;
  reads = both_more before.contents now.contents a.reads (λ m k p. subst (λ l. ReadsFiles l m k) e (record {
    held = p.held;
    opened = omega (arith, p.opened, length-append limits more);
    taken = omega (arith, p.taken, length-append limits more, sum_by-append (λ (file : List ℕ × ℕ). file.1 + 1) limits more);
    most = λ name. omega (arith, p.most name, past_both limits more name);
  }));
  allowed = a.allowed;
  job = a.job;
}

-- ---- a judgement that stands alone

alone_of : {A : Type 0} (Q : Result A Refusal → Type 0) (counted : Causes) (known : Option FileContents) (answer : Result A Refusal) → Q answer → IsFindingOrOk answer → IsAllowed (Judged Q) known counted answer
alone_of Q counted None (Ok x) q f = tt
alone_of Q counted None (Err InvalidArguments) q f = tt
alone_of Q counted None (Err OutOfMemory) q f = tt
alone_of Q counted None (Err (CallFailed failure)) q f = absurd f
alone_of Q counted None (Err (Found finding)) q f = tt
alone_of Q counted (Some m) (Ok x) q f = q
alone_of Q counted (Some m) (Err InvalidArguments) q f = q
alone_of Q counted (Some m) (Err OutOfMemory) q f = tt
alone_of Q counted (Some m) (Err (CallFailed failure)) q f = absurd f
alone_of Q counted (Some m) (Err (Found finding)) q f = q

alone : {X A : Type 0} (stands : X → A → Type 0) (Q : Result A Refusal → Type 0) (counted : Causes) (known : Option FileContents) (result : Result X Refusal) →
    IsJudged stands Q result → IsAllowedOf stands (Judged Q) known counted result
alone stands Q counted known (Ok x) q = (q.0, q.1, alone_of Q counted known (Ok q.0) q.2 tt)
alone stands Q counted known (Err InvalidArguments) q = absurd q
alone stands Q counted known (Err OutOfMemory) q = memory_allowed (Judged Q) counted known
alone stands Q counted known (Err (CallFailed failure)) q = absurd q
alone stands Q counted known (Err (Found finding)) q = alone_of Q counted known (Err (Found finding)) q tt

-- nothing was read
pub reads_nothing : (limits : Limits) (known : Option FileContents) → IfBoth known known (ReadsFiles limits)
reads_nothing limits known = both_alone (ReadsFiles limits) known (λ m. record { held = refl; opened = omega arith; taken = omega arith; most = λ name. omega arith })

pub judged_alone : {X A : Type 0} (stands : X → A → Type 0) (Q : Result A Refusal → Type 0) (state : FilesState) (result : Result X Refusal) → IsJudged stands Q result → Answers stands (Judged Q) [] state state result
judged_alone stands Q state result q = record {
  later = omega arith;
  quiet = quietly result (state.faults ≡ state.faults) refl;
  reads = reads_nothing [] state.contents;
  allowed = alone stands Q (FilesCounted state state) state.contents result q;
  job = of_judged stands Q result q;
}

pub memory_alone : {X A : Type 0} (stands : X → A → Type 0) (P : Check A) (limits : Limits) (state : FilesState) → Answers {X = X} stands P limits state state (Err OutOfMemory)
memory_alone stands P limits state = record {
  later = omega arith;
  quiet = tt;
  reads = reads_nothing limits state.contents;
  allowed = memory_allowed P (FilesCounted state state) state.contents;
  job = tt;
}

-- ---- two judgements one after another

module _ {X Y A B : Type 0} (stands : X → A → Type 0) (stands' : Y → B → Type 0) (P : Result A Refusal → Type 0) (Q : A → Result B Refusal → Type 0) where
  next_of : (a : A) (result : Result Y Refusal) → P (Ok a) → IsJudged stands' (Q a) result → IsJudged stands' (Next P Q) result
  next_of a (Ok y) p q = (q.0, q.1, inr (a, p, q.2))
  next_of a (Err InvalidArguments) p q = q
  next_of a (Err OutOfMemory) p q = tt
  next_of a (Err (CallFailed failure)) p q = q
  next_of a (Err (Found finding)) p q = inr (a, p, q)

  pub judged_next : (x : X) (result : Result Y Refusal) → IsJudged stands P (Ok x) → ((a : A) → stands x a → P (Ok a) → IsJudged stands' (Q a) result) → IsJudged stands' (Next P Q) result
  judged_next x result j q = next_of j.0 result j.2 (q j.0 j.1 j.2)

  next_refused : (r : Refusal) → IsJudged stands P (Err r) → IsJudged stands' (Next P Q) (Err r)
  next_refused InvalidArguments j = j
  next_refused OutOfMemory j = tt
  next_refused (CallFailed failure) j = j
  next_refused (Found finding) j = inl (Found finding, j, refl)

  pub judged_handed_on : (r : Refusal) (result : Result Y Refusal) → IsErrAnd result (λ e. e ≡ r) → IsJudged stands P (Err r) → IsJudged stands' (Next P Q) result
  judged_handed_on r result e j =
      let p = err_from_is_err_and result e in
      subst (IsJudged stands' (Next P Q)) (sym (p.1 ∙ ap Err p.2)) (next_refused r j)
