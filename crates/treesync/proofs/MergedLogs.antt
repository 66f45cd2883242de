-- What is made of rules and logs, from the merging of the logs.
use Rattle.std.proofs.Common.{◌≡◌, Bool, true, false, List, Option, None, Some, Result, Ok, Err, IsErrAnd, inl, inr, sym, ap, subst}
use Rattle.pref_list.specs.declared.rules.Rule.{Rule}
use Rattle.sync_port.specs.Ports.{FileContents, FilesState, Names}
use Rattle.tool_words.specs.Words.{Operand}
use Rattle.treesync.specs.Checks.{Answers, Causes, Check, FilesCounted, IsAllowed, IsAllowedOf, IsJudged, IsRight, Judged, Limits, Then}
use Rattle.treesync.specs.Logs.{ReadLog}
use Rattle.treesync.specs.Merging.{AreAsked, Asked, IsMergedOf, OfMerging}
use Rattle.treesync.specs.declared.merging.MergedLogs.{MergedLogs}
use Rattle.treesync.specs.declared.refusal.Refusal.{Refusal}
use Rattle.treesync.specs.declared.refusal.Refusal.TheVariants.{InvalidArguments, OutOfMemory, CallFailed, Found}
use Rattle.treesync.proofs.CheckLemmas.{then_handed_on, then_judged}

-- ---- what one check allows another one allows

module _ {A : Type 0} (P Q : Check A) (wider : (held : Names) (failed : Bool) (answer : Result A Refusal) → P held failed answer → Q held failed answer) (counted : Causes) where
  right_as : (held : Names) (answer : Result A Refusal) → IsRight P held counted answer → IsRight Q held counted answer
  right_as held (Ok a) h = wider held false (Ok a) h
  right_as held (Err InvalidArguments) h = wider held false (Err InvalidArguments) h
  right_as held (Err OutOfMemory) h = h
  right_as held (Err (CallFailed failure)) (inl h) = inl (wider held false (Err (CallFailed failure)) h)
  right_as held (Err (CallFailed failure)) (inr h) = inr (h.0, wider held true (Err (CallFailed failure)) h.1)
  right_as held (Err (Found finding)) h = wider held false (Err (Found finding)) h

  allowed_as : (known : Option FileContents) (answer : Result A Refusal) → IsAllowed P known counted answer → IsAllowed Q known counted answer
  allowed_as None answer h = h
  allowed_as (Some m) answer h = right_as m.held answer h

  allowed_of_as : {X : Type 0} (stands : X → A → Type 0) (known : Option FileContents) (result : Result X Refusal) → IsAllowedOf stands P known counted result → IsAllowedOf stands Q known counted result
  allowed_of_as stands known (Ok x) h = (h.0, h.1, allowed_as known (Ok h.0) h.2)
  allowed_of_as stands known (Err r) h = allowed_as known (Err r) h

answers_as : {X A : Type 0} (stands : X → A → Type 0) (P Q : Check A) (limits : Limits) (before now : FilesState) (result : Result X Refusal) →
    ((held : Names) (failed : Bool) (answer : Result A Refusal) → P held failed answer → Q held failed answer) → Answers stands P limits before now result → Answers stands Q limits before now result
answers_as stands P Q limits before now result wider a = record {
  later = a.later;
  quiet = a.quiet;
  reads = a.reads;
  allowed = allowed_of_as P Q wider (FilesCounted before now) stands before.contents result a.allowed;
  job = a.job;
}

-- ---- refusals do not depend on what is made

err_is : {A : Type 0} {r s : Refusal} → ◌≡◌ {A = Result A Refusal} (Err r) (Err s) → r ≡ s
err_is e = cc

err_as : {A B : Type 0} {r s : Refusal} → ◌≡◌ {A = Result A Refusal} (Err r) (Err s) → ◌≡◌ {A = Result B Refusal} (Err r) (Err s)
err_as e = let same = err_is e in ap Err same

ok_is : {A : Type 0} {a b : A} → ◌≡◌ {A = Result A Refusal} (Ok a) (Ok b) → a ≡ b
ok_is e = cc

ok_not_err : {A : Type 0} {a : A} {r : Refusal} → ◌≡◌ {A = Result A Refusal} (Ok a) (Err r) → ⊥
ok_not_err e = cc

-- where one of the two things that are made is never refused
pub refused_as : {A B : Type 0} (made : List Rule → List ReadLog → Result A Refusal → Type 0) (other : List Rule → List ReadLog → Result B Refusal → Type 0) (prefs : Option Operand) (files : List Operand) (held : Names) (failed : Bool) (r : Refusal) →
    ((rules : List Rule) (reads : List ReadLog) → made rules reads (Err r) → ⊥) → OfMerging made prefs files held failed (Err r) → OfMerging other prefs files held failed (Err r)
refused_as made other prefs files held failed r never (inl h) = inl (h.0, h.1, err_as h.2)
refused_as made other prefs files held failed r never (inr (rules, p, inl h)) = inr (rules, p, inl (h.0, h.1, err_as h.2))
refused_as made other prefs files held failed r never (inr (rules, p, inr (reads, l, inl h))) = inr (rules, p, inr (reads, l, inl (h.0, h.1, err_as h.2)))
refused_as made other prefs files held failed r never (inr (rules, p, inr (reads, l, inr (joined, j, inl h)))) = inr (rules, p, inr (reads, l, inr (joined, j, inl (h.0, h.1, err_as h.2))))
refused_as made other prefs files held failed r never (inr (rules, p, inr (reads, l, inr (joined, j, inr (same, s, m))))) = absurd (never rules same m)

-- ---- what is made of the merged logs

module _ {B : Type 0} (made : List Rule → List ReadLog → Result B Refusal → Type 0) (prefs : Option Operand) (files : List Operand) where
  done_on : (held : Names) (failed : Bool) (asked : Asked) (answer : Result B Refusal) → OfMerging AreAsked prefs files held false (Ok asked) → made asked.0 asked.1 answer → OfMerging made prefs files held failed answer
  done_on held failed asked answer (inl h) m = absurd (ok_not_err h.2)
  done_on held failed asked answer (inr (rules, p, inl h)) m = absurd (ok_not_err h.2)
  done_on held failed asked answer (inr (rules, p, inr (reads, l, inl h))) m = absurd (ok_not_err h.2)
  done_on held failed asked answer (inr (rules, p, inr (reads, l, inr (joined, j, inl h)))) m = absurd (ok_not_err h.2)
  done_on held failed asked answer (inr (rules, p, inr (reads, l, inr (joined, j, inr (same, s, e))))) m =
      let is : asked ≡ (rules, same) = ok_is e in inr (rules, p, inr (reads, l, inr (joined, j, inr (same, s, subst (λ (a : Asked). made a.0 a.1 answer) is m))))

  as_one : (held : Names) (failed : Bool) (answer : Result B Refusal) → Then (OfMerging AreAsked prefs files) (λ asked. Judged (made asked.0 asked.1)) held failed answer → OfMerging made prefs files held failed answer
  as_one held failed answer (inl (r, p, e)) = subst (OfMerging made prefs files held failed) (sym e) (refused_as AreAsked made prefs files held failed r (λ rules reads h. ok_not_err (sym h)) p)
  as_one held failed answer (inr (asked, p, m)) = done_on held failed asked answer p m

  module _ {Y : Type 0} (stands : Y → B → Type 0) (limits : Limits) (before now : FilesState) where
    -- what is made of them, where they were merged
    pub made_of : (found : MergedLogs) (result : Result Y Refusal) → Answers IsMergedOf (OfMerging AreAsked prefs files) limits before now (Ok found) →
        ((asked : Asked) → IsMergedOf found asked → IsJudged stands (made asked.0 asked.1) result) → Answers stands (OfMerging made prefs files) limits before now result
    made_of found result a judged =
        answers_as stands (Then (OfMerging AreAsked prefs files) (λ asked. Judged (made asked.0 asked.1))) (OfMerging made prefs files) limits before now result as_one
        (then_judged IsMergedOf stands (OfMerging AreAsked prefs files) (λ asked. made asked.0 asked.1) limits before now found result a judged)

    -- and a refusal, which a `?` hands on
    pub handed_on : (r : Refusal) (result : Result Y Refusal) → IsErrAnd result (λ e. e ≡ r) → Answers IsMergedOf (OfMerging AreAsked prefs files) limits before now (Err r) → Answers stands (OfMerging made prefs files) limits before now result
    handed_on r result e a =
        answers_as stands (Then (OfMerging AreAsked prefs files) (λ asked. Judged (made asked.0 asked.1))) (OfMerging made prefs files) limits before now result as_one
        (then_handed_on IsMergedOf stands (OfMerging AreAsked prefs files) (λ asked. Judged (made asked.0 asked.1)) limits before now r result e a)
