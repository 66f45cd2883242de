-- What is known of reader and form after a line, a piece and the end of the text.
use Rattle.std.proofs.lemmas.Bool.{cases_Bool}
use Rattle.std.proofs.Common.{Option, Some, None, ◌||◌, true, false, ◌≡◌, ℕ, ◌<◌, ◌⊎◌, List, [], ◌∷◌, ◌++◌, length, MatchResult, IsErr, sym, refl, ap, ◌∙◌, subst, arith, Ok, Err, Result, inl, inr, ⊎_elim, append_assoc, append-nil}
use Rattle.sync_path.specs.Paths.{parts}
use Rattle.log_text.specs.declared.faults.TextFault.{TextFault}
use Rattle.log_text.specs.declared.faults.TextKind.TheVariants as kind
use Rattle.log_text.specs.declared.faults.LogFault.{LogFault}
use Rattle.log_text.specs.declared.faults.LogFault.TheVariants as fault
use Rattle.log_text.specs.declared.pieces.Stage.{Stage}
use Rattle.log_text.specs.declared.pieces.Stage.TheVariants as stage
use Rattle.log_text.specs.declared.pieces.LineReader.{LineReader}
use Rattle.log_text.specs.Frame.{Judge, fault_at, header_fault, framed_of, complete_items, head_of}
use Rattle.log_text.specs.Reading.{FailsText}
use Rattle.log_text.specs.Pieces.{HasOpened, IsCutOff, is_inside, refused, after_line, ReadsLine, IsStateOf, Knows, IsBetween, Feeds, Keeps, Finishes, EndsOpen, IsGoing, IsShown, IsSettled, IsExact, line_feeds}
use Rattle.log_text.proofs.Fields.{IsClear}
use Rattle.log_text.proofs.States.{or_false, opened_on, opened_kept, opened_after_end, opened_refused, head_later, no_head_now, state_on, state_kept, state_after_end, state_refused, complete_now, complete_later, end_at_start, end_inside, end_right, read_now}

complete : {S P H X : Type 0} (first : List ℕ → Option H) (judge : H → Judge X) (holds : S → P → H × List X → Type 0) (lines : LineReader) (form : S) (past : P) (text : List ℕ) → (k : Knows first judge holds lines form past text)
    → complete_items first judge (parts 10 text) ≡ k.found.1
complete first judge holds lines form past text k = complete_now first judge lines.stage lines.line.items k.found text k.state

-- what was complete once, and what is complete whatever comes
between : {S P H X : Type 0} (first : List ℕ → Option H) (judge : H → Judge X) (holds : S → P → H × List X → Type 0) (before lines : LineReader) (given form : S) (past : P) (text done rest : List ℕ)
    → Knows first judge holds before given past text → (k : Knows first judge holds lines form past (text ++ done))
    → IsBetween (complete_items first judge (parts 10 text)) k.found.1 (complete_items first judge (parts 10 (text ++ (done ++ rest))))
between first judge holds before lines given form past text done rest e k =
    let begun = complete_later first judge before.stage before.line.items e.found text done e.state in
    let later = complete_later first judge lines.stage lines.line.items k.found (text ++ done) rest k.state in
    record {
      part = begun.0;
      rest = later.0;
      begins = sym (complete first judge holds lines form past (text ++ done) k) ∙ begun.1 ∙ ap (λ ys. ys ++ begun.0) (sym (complete first judge holds before given past text e));
      within = ap (λ t. complete_items first judge (parts 10 t)) (sym (append_assoc text done rest)) ∙ later.1;
    }

both_heads : {H : Type 0} (head : H) (o : Option H) → o ≡ Some head → o ≡ None → ⊥
both_heads head o e h = let h = sym e ∙ h in cc

-- where the first line was not read right later, it was not before
none_before : {S P H X : Type 0} (first : List ℕ → Option H) (judge : H → Judge X) (holds : S → P → H × List X → Type 0) (before lines : LineReader) (given form : S) (past : P) (text done : List ℕ)
    → Knows first judge holds before given past text → Knows first judge holds lines form past (text ++ done) → lines.opened ≡ false
    → head_of first (parts 10 text) ≡ None
none_before first judge holds before lines given form past text done e k shut =
    ⊎_elim
    (λ (t : before.opened ≡ true).
    absurd (both_heads e.found.0 (head_of first (parts 10 (text ++ done))) (head_later first before.stage before.opened before.line.items e.found.0 text e.head t done)
    (no_head_now first lines.stage lines.opened lines.line.items k.found.0 (text ++ done) k.state.clear k.head shut)))
    (λ (f : before.opened ≡ false). no_head_now first before.stage before.opened before.line.items e.found.0 text e.state.clear e.head f)
    (cases_Bool before.opened)

-- memory ran out after what was done of a piece
cut_off : {S P H X : Type 0} (first : List ℕ → Option H) (judge : H → Judge X) (holds : S → P → H × List X → Type 0) (before lines next : LineReader) (given form new : S) (past : P) (text done rest : List ℕ)
    → Knows first judge holds before given past text → (k : Knows first judge holds lines form past (text ++ done)) → next.opened ≡ lines.opened → holds new past k.found
    → IsCutOff first judge holds next new past text (done ++ rest)
cut_off first judge holds before lines next given form new past text done rest e k same held = record {
  found = k.found;
  held = held;
  items = between first judge holds before lines given form past text done rest e k;
  opened = λ is_open.
      ap (λ t. head_of first (parts 10 t)) (sym (append_assoc text done rest))
      ∙ head_later first lines.stage lines.opened lines.line.items k.found.0 (text ++ done) k.head (sym same ∙ is_open) rest;
  closed = λ shut. none_before first judge holds before lines given form past text done e k (sym same ∙ shut);
}

-- a line was ended, or memory ran out
moved : {S P H X : Type 0} (first : List ℕ → Option H) (judge : H → Judge X) (holds : S → P → H × List X → Type 0) (lines next : LineReader) (form new : S) (past : P) (text tail : List ℕ)
    → IsClear 10 tail → (k : Knows first judge holds lines form past text) → ReadsLine first judge holds lines.stage new past k.found (lines.line.items ++ tail) next.stage → next.line.items ≡ []
    → next.opened ≡ (lines.opened || is_inside next.stage)
    → (Knows first judge holds next new past (text ++ (tail ++ 10 ∷ []))) ⊎ ((next.stage ≡ stage.Refused fault.Memory) × holds new past k.found)
moved first judge holds lines next form new past text tail clear k (inl (at, held)) empty is_open =
    let to = after_line first judge lines.stage k.found (lines.line.items ++ tail) in
    inl (record {
      found = to.1;
      state = subst (λ l. IsStateOf first judge next.stage l to.1 (text ++ (tail ++ 10 ∷ []))) (sym empty)
          (subst (λ s. IsStateOf first judge s [] to.1 (text ++ (tail ++ 10 ∷ []))) (sym at) (state_on first judge lines.stage lines.line.items tail k.found text clear k.state));
      head = subst (λ l. HasOpened first next.stage next.opened l to.1.0 (text ++ (tail ++ 10 ∷ []))) (sym empty)
          (subst (λ s. HasOpened first s next.opened [] to.1.0 (text ++ (tail ++ 10 ∷ []))) (sym at)
          (opened_on first judge lines.stage lines.opened next.opened lines.line.items tail k.found text k.state.clear clear k.head (is_open ∙ ap (λ s. lines.opened || is_inside s) at)));
      held = held;
    })
moved first judge holds lines next form new past text tail clear k (inr h) empty is_open = inr h

pub whole_piece : (done tail after : List ℕ) → done ++ (tail ++ 10 ∷ after) ≡ (done ++ (tail ++ 10 ∷ [])) ++ after
whole_piece done tail after = sym (append_assoc done (tail ++ 10 ∷ []) after ∙ ap (λ t. done ++ t) (append_assoc tail (10 ∷ []) after))

not_text : (f : TextFault) → ◌≡◌ {A = Stage} (stage.Refused (fault.Text f)) (stage.Refused fault.Memory) → ⊥
not_text f e = cc

-- a line was ended, and memory did not run out
pub goes_on : {S P H X : Type 0} (first : List ℕ → Option H) (judge : H → Judge X) (holds : S → P → H × List X → Type 0) (lines next : LineReader) (form new : S) (past : P) (text done tail : List ℕ)
    → IsClear 10 tail → (k : Knows first judge holds lines form past (text ++ done)) → ReadsLine first judge holds lines.stage new past k.found (lines.line.items ++ tail) next.stage → next.line.items ≡ []
    → next.opened ≡ (lines.opened || is_inside next.stage) → (next.stage ≡ stage.Refused fault.Memory → ⊥)
    → Knows first judge holds next new past (text ++ (done ++ (tail ++ 10 ∷ [])))
goes_on first judge holds lines next form new past text done tail clear k reads empty is_open other =
    elim (moved first judge holds lines next form new past (text ++ done) tail clear k reads empty is_open) [
      | inl m ↦ subst (Knows first judge holds next new past) (append_assoc text done (tail ++ 10 ∷ [])) m
      | inr m ↦ absurd (other m.0)
    ]

known_on : {S P H X : Type 0} (first : List ℕ → Option H) (judge : H → Judge X) (holds : S → P → H × List X → Type 0) (lines : LineReader) (form : S) (past : P) (f : TextFault) (text piece : List ℕ) → lines.stage ≡ refused f
    → Knows first judge holds lines form past text → Knows first judge holds lines form past (text ++ piece)
known_on first judge holds lines form past f text piece at k =
    let here = subst (λ s. IsStateOf first judge s lines.line.items k.found text) at k.state in
    record {
      found = k.found;
      state = subst (λ s. IsStateOf first judge s lines.line.items k.found (text ++ piece)) (sym at) (state_refused first judge f lines.line.items k.found text piece here);
      head = subst (λ s. HasOpened first s lines.opened lines.line.items k.found.0 (text ++ piece)) (sym at)
          (opened_refused first f lines.opened lines.line.items k.found.0 text piece (subst (λ s. HasOpened first s lines.opened lines.line.items k.found.0 text) at k.head));
      held = k.held;
    }

-- a reader that was refused before
pub feeds_again : {S P H X : Type 0} (first : List ℕ → Option H) (judge : H → Judge X) (holds : S → P → H × List X → Type 0) (lines : LineReader) (form : S) (past : P) (text piece : List ℕ) (f : LogFault) → lines.stage ≡ stage.Refused f
    → Knows first judge holds lines form past text → Feeds first judge holds lines form past text piece (Err f)
feeds_again first judge holds lines form past text piece (fault.Text f) at k = known_on first judge holds lines form past f text piece at k
feeds_again first judge holds lines form past text piece fault.Memory at k =
    let k' = subst (Knows first judge holds lines form past) (sym (append-nil text)) k in
    cut_off first judge holds lines lines lines form form form past text [] piece k k' refl k'.held

-- a line that is refused
pub feeds_refused : {S P H X : Type 0} (first : List ℕ → Option H) (judge : H → Judge X) (holds : S → P → H × List X → Type 0) (before lines next : LineReader) (given form new : S) (past : P) (text done tail after piece : List ℕ) (f : LogFault)
    → piece ≡ done ++ (tail ++ 10 ∷ after) → IsClear 10 tail → Knows first judge holds before given past text → (k : Knows first judge holds lines form past (text ++ done))
    → ReadsLine first judge holds lines.stage new past k.found (lines.line.items ++ tail) next.stage → next.line.items ≡ []
    → next.opened ≡ (lines.opened || is_inside next.stage) → next.stage ≡ stage.Refused f
    → Feeds first judge holds next new past text piece (Err f)
feeds_refused first judge holds before lines next given form new past text done tail after piece (fault.Text f) cut clear e k reads empty is_open at =
    let m = goes_on first judge holds lines next form new past text done tail clear k reads empty is_open (λ h. not_text f (sym at ∙ h)) in
    subst (Knows first judge holds next new past) (append_assoc text (done ++ (tail ++ 10 ∷ [])) after ∙ ap (λ t. text ++ t) (sym (cut ∙ whole_piece done tail after)))
    (known_on first judge holds next new past f (text ++ (done ++ (tail ++ 10 ∷ []))) after at m)
feeds_refused first judge holds before lines next given form new past text done tail after piece fault.Memory cut clear e k reads empty is_open at =
    elim (moved first judge holds lines next form new past (text ++ done) tail clear k reads empty is_open) [
      | inl m ↦
          let m' = subst (Knows first judge holds next new past) (append_assoc text done (tail ++ 10 ∷ [])) m in
          subst (IsCutOff first judge holds next new past text) (sym (cut ∙ whole_piece done tail after))
          (cut_off first judge holds before next next given new new past text (done ++ (tail ++ 10 ∷ [])) after e m' refl m'.held)
      | inr m ↦
          subst (IsCutOff first judge holds next new past text) (sym cut)
          (cut_off first judge holds before lines next given form new past text done (tail ++ 10 ∷ after) e k
          (is_open ∙ ap (λ s. lines.opened || is_inside s) m.0 ∙ or_false lines.opened) m.1)
    ]

-- the bytes after the last line feed of a piece
pub feeds_kept : {S P H X : Type 0} (first : List ℕ → Option H) (judge : H → Judge X) (holds : S → P → H × List X → Type 0) (before lines next : LineReader) (given form : S) (past : P) (text done unended piece : List ℕ) (r : Result (Unit {0}) LogFault)
    → piece ≡ done ++ unended → IsClear 10 unended → Knows first judge holds before given past text → (k : Knows first judge holds lines form past (text ++ done))
    → Keeps lines next (length k.found.1) unended r → next.opened ≡ lines.opened
    → Feeds first judge holds next form past text piece r
feeds_kept first judge holds before lines next given form past text done unended piece (Ok u) cut clear e k (at, line, none) is_open =
    let there = state_kept first judge lines.stage lines.line.items unended k.found (text ++ done) clear none k.state in
    record {
      found = k.found;
      state =
          subst (IsStateOf first judge next.stage next.line.items k.found) (append_assoc text done unended ∙ ap (λ t. text ++ t) (sym cut))
          (subst (λ l. IsStateOf first judge next.stage l k.found ((text ++ done) ++ unended)) (sym line)
          (subst (λ s. IsStateOf first judge s (lines.line.items ++ unended) k.found ((text ++ done) ++ unended)) (sym at) there));
      head =
          subst (HasOpened first next.stage next.opened next.line.items k.found.0) (append_assoc text done unended ∙ ap (λ t. text ++ t) (sym cut))
          (subst (λ l. HasOpened first next.stage next.opened l k.found.0 ((text ++ done) ++ unended)) (sym line)
          (subst (λ b. HasOpened first next.stage b (lines.line.items ++ unended) k.found.0 ((text ++ done) ++ unended)) (sym is_open)
          (subst (λ s. HasOpened first s lines.opened (lines.line.items ++ unended) k.found.0 ((text ++ done) ++ unended)) (sym at)
          (opened_kept first lines.stage lines.opened lines.line.items unended k.found.0 (text ++ done) k.head))));
      held = k.held;
    }
feeds_kept first judge holds before lines next given form past text done unended piece (Err (fault.Text f)) cut clear e k (at, some, is, to, line) is_open =
    let here = subst (λ s. IsStateOf first judge s lines.line.items k.found (text ++ done)) at k.state in
    let there = state_after_end first judge lines.line.items unended k.found (text ++ done) some here in
    record {
      found = k.found;
      state =
          subst (IsStateOf first judge next.stage next.line.items k.found) (append_assoc text done unended ∙ ap (λ t. text ++ t) (sym cut))
          (subst (λ l. IsStateOf first judge next.stage l k.found ((text ++ done) ++ unended)) (sym line)
          (subst (λ s. IsStateOf first judge s lines.line.items k.found ((text ++ done) ++ unended)) (sym (to ∙ ap refused is)) there));
      head =
          subst (HasOpened first next.stage next.opened next.line.items k.found.0) (append_assoc text done unended ∙ ap (λ t. text ++ t) (sym cut))
          (subst (λ b. HasOpened first next.stage b next.line.items k.found.0 ((text ++ done) ++ unended)) (sym is_open)
          (subst (λ s. HasOpened first s lines.opened next.line.items k.found.0 ((text ++ done) ++ unended)) (sym to)
          (opened_after_end first lines.opened f lines.line.items next.line.items unended k.found.0 (text ++ done)
          (subst (λ s. HasOpened first s lines.opened lines.line.items k.found.0 (text ++ done)) at k.head))));
      held = k.held;
    }
feeds_kept first judge holds before lines next given form past text done unended piece (Err fault.Memory) cut clear e k h is_open =
    subst (IsCutOff first judge holds next form past text) (sym cut) (cut_off first judge holds before lines next given form form past text done unended e k is_open k.held)

ended_head : {S P H X : Type 0} (first : List ℕ → Option H) (judge : H → Judge X) (holds : S → P → H × List X → Type 0) (lines : LineReader) (form : S) (past : P) (text : List ℕ) → lines.stage ≡ stage.Ended → (k : Knows first judge holds lines form past text)
    → head_of first (parts 10 text) ≡ Some k.found.0
ended_head first judge holds lines form past text at k =
    let here : HasOpened first stage.Ended lines.opened lines.line.items k.found.0 text = subst (λ s. HasOpened first s lines.opened lines.line.items k.found.0 text) at k.head in
    ap (λ t. head_of first (parts 10 t)) (sym (append-nil text)) ∙ here.1 []

-- the end
pub finishes : {S P H X : Type 0} (first : List ℕ → Option H) (judge : H → Judge X) (holds : S → P → H × List X → Type 0) (lines : LineReader) (form : S) (past : P) (text : List ℕ) → lines.stage ≡ stage.Ended → Knows first judge holds lines form past text
    → Finishes first judge holds form past text (Ok tt)
finishes first judge holds lines form past text at k = (
  k.found,
  k.held,
  end_right first judge lines.line.items k.found text (subst (λ s. IsStateOf first judge s lines.line.items k.found text) at k.state),
  complete first judge holds lines form past text k,
  ended_head first judge holds lines form past text at k,
)

pub finishes_start : {S P H X : Type 0} (first : List ℕ → Option H) (judge : H → Judge X) (holds : S → P → H × List X → Type 0) (lines : LineReader) (form : S) (past : P) (text : List ℕ) → lines.stage ≡ stage.Start → (k : Knows first judge holds lines form past text)
    → framed_of first judge (parts 10 text) ≡ Err (record { line = 1; kind = kind.Header })
finishes_start first judge holds lines form past text at k = end_at_start first judge lines.line.items k.found text (subst (λ s. IsStateOf first judge s lines.line.items k.found text) at k.state)

pub finishes_inside : {S P H X : Type 0} (first : List ℕ → Option H) (judge : H → Judge X) (holds : S → P → H × List X → Type 0) (lines : LineReader) (form : S) (past : P) (text : List ℕ) → lines.stage ≡ stage.Inside → (k : Knows first judge holds lines form past text)
    → framed_of first judge (parts 10 text) ≡ Err (fault_at (length k.found.1) kind.End)
finishes_inside first judge holds lines form past text at k = end_inside first judge lines.line.items k.found text (subst (λ s. IsStateOf first judge s lines.line.items k.found text) at k.state)

pub finishes_refused : {S P H X : Type 0} (first : List ℕ → Option H) (judge : H → Judge X) (holds : S → P → H × List X → Type 0) (lines : LineReader) (form : S) (past : P) (text : List ℕ) (f : LogFault) → lines.stage ≡ stage.Refused f → Knows first judge holds lines form past text
    → FailsText f (framed_of first judge (parts 10 text))
finishes_refused first judge holds lines form past text f at k =
    read_now first judge (stage.Refused f) lines.line.items k.found text (subst (λ s. IsStateOf first judge s lines.line.items k.found text) at k.state)

pub not_going : (at : Stage) (f : LogFault) → at ≡ stage.Refused f → IsGoing at → ⊥
not_going at f e h = subst IsGoing e h

-- ---- a whole text

pub begins : {S P H X : Type 0} (first : List ℕ → Option H) (judge : H → Judge X) (holds : S → P → H × List X → Type 0) (lines : LineReader) (form : S) (past : P) → lines.stage ≡ stage.Start → lines.opened ≡ false → lines.line.items ≡ [] → (head : H) → holds form past (head, [])
    → Knows first judge holds lines form past []
begins {H = H} {X = X} first judge holds lines form past at closed empty head held =
    let none : H × List X = (head, []) in
    let here : IsStateOf first judge stage.Start [] none [] = record { clear = tt; reads = λ more. refl; items = λ more. refl; fed = (refl, refl) } in
    record {
      found = none;
      state = subst (λ l. IsStateOf first judge lines.stage l none []) (sym empty) (subst (λ s. IsStateOf first judge s [] none []) (sym at) here);
      head = subst (λ l. HasOpened first lines.stage lines.opened l head []) (sym empty) (subst (λ s. HasOpened first s lines.opened [] head []) (sym at) (closed, refl));
      held = held;
    }

-- a fault of `feed` is one of the text so far
pub feeds_fails : {S P H X : Type 0} (first : List ℕ → Option H) (judge : H → Judge X) (holds : S → P → H × List X → Type 0) (lines : LineReader) (form : S) (past : P) (text piece : List ℕ) (f : LogFault) → lines.stage ≡ stage.Refused f
    → Feeds first judge holds lines form past text piece (Err f) → FailsText f (framed_of first judge (parts 10 (text ++ piece)))
feeds_fails first judge holds lines form past text piece (fault.Text f) at k = finishes_refused first judge holds lines form past (text ++ piece) (fault.Text f) at k
feeds_fails first judge holds lines form past text piece fault.Memory at k = tt

-- ---- where a fault is answered

err_same : {H X : Type 0} (f g : TextFault) (read : Result (H × List X) TextFault) → read ≡ Err f → read ≡ Err g → f ≡ g
err_same f g read d e = let h = sym d ∙ e in cc

ok_not_err : {H X : Type 0} (f : TextFault) (xs : H × List X) (read : Result (H × List X) TextFault) → read ≡ Ok xs → read ≡ Err f → ⊥
ok_not_err f xs read d e = let h = sym d ∙ e in cc

unsettled : (text : List ℕ) (f g : TextFault) → f ≡ g → (f.kind ≡ kind.After → ⊥) → line_feeds text < f.line → IsSettled text g → ⊥
unsettled text f g e other late (inl h) = other (ap (λ f. f.kind) e ∙ h)
unsettled text f g e other late (inr h) = let l = ap (λ f. f.line) e in absurd (omega arith)

header_not_after : kind.Header ≡ kind.After → ⊥
header_not_after e = cc

end_not_after : kind.End ≡ kind.After → ⊥
end_not_after e = cc

-- where no line was refused, the text shows no fault
unshown : {H X : Type 0} (first : List ℕ → Option H) (judge : H → Judge X) (at : Stage) (line : List ℕ) (xs : H × List X) (text : List ℕ) (f : TextFault) → IsStateOf first judge at line xs text → IsGoing at → IsShown first judge text f → ⊥
unshown first judge stage.Start line xs text f h going (is, settled) =
    unsettled text header_fault f (err_same header_fault f (framed_of first judge (parts 10 text)) (end_at_start first judge line xs text h) is) header_not_after (let none = h.fed.1 in omega arith) settled
unshown first judge stage.Inside line xs text f h going (is, settled) =
    unsettled text (fault_at (length xs.1) kind.End) f (err_same (fault_at (length xs.1) kind.End) f (framed_of first judge (parts 10 text)) (end_inside first judge line xs text h) is) end_not_after
    (let some = h.fed in omega arith) settled
unshown first judge stage.Ended line xs text f h going (is, settled) = ok_not_err f xs (framed_of first judge (parts 10 text)) (end_right first judge line xs text h) is
unshown first judge (stage.Refused g) line xs text f h going shown = going

-- `feed` answers a fault exactly where the text shows it
pub exact : {S P H X : Type 0} (first : List ℕ → Option H) (judge : H → Judge X) (holds : S → P → H × List X → Type 0) (lines : LineReader) (form : S) (past : P) (text piece : List ℕ) (r : Result (Unit {0}) LogFault)
    → MatchResult r (λ _. IsGoing lines.stage) (λ f. lines.stage ≡ stage.Refused f) → Feeds first judge holds lines form past text piece r → IsExact first judge (text ++ piece) r
exact first judge holds lines form past text piece (Ok u) going k = λ f shown. unshown first judge lines.stage lines.line.items k.found (text ++ piece) f k.state going shown
exact first judge holds lines form past text piece (Err (fault.Text f)) at k =
    let here = subst (λ s. IsStateOf first judge s lines.line.items k.found (text ++ piece)) at k.state in
    ((read_now first judge (refused f) lines.line.items k.found (text ++ piece) here, here.fed), here.reads)
exact first judge holds lines form past text piece (Err fault.Memory) at k = tt

-- ---- a text that may have lost its end

is_err : {A E : Type 0} (e : E) (r : Result A E) → r ≡ Err e → IsErr r
is_err {A = A} e r is = subst IsErr (sym is) refl

ends_open_at : {S P H X : Type 0} (first : List ℕ → Option H) (judge : H → Judge X) (holds : S → P → H × List X → Type 0) (at : Stage) (line : List ℕ) (form : S) (past : P) (xs : H × List X) (text : List ℕ) → (at ≡ stage.Start) ⊎ (at ≡ stage.Inside)
    → IsStateOf first judge at line xs text → holds form past xs → EndsOpen first judge holds form past text (Ok false)
ends_open_at first judge holds at line form past xs text (inl e) h held =
    let here = subst (λ s. IsStateOf first judge s line xs text) e h in
    record {
      found = xs;
      held = held;
      items = complete_now first judge at line xs text h;
      right = λ f shown. unshown first judge stage.Start line xs text f here tt shown;
      end = is_err header_fault (framed_of first judge (parts 10 text)) (end_at_start first judge line xs text here);
    }
ends_open_at first judge holds at line form past xs text (inr e) h held =
    let here = subst (λ s. IsStateOf first judge s line xs text) e h in
    record {
      found = xs;
      held = held;
      items = complete_now first judge at line xs text h;
      right = λ f shown. unshown first judge stage.Inside line xs text f here tt shown;
      end = is_err (fault_at (length xs.1) kind.End) (framed_of first judge (parts 10 text)) (end_inside first judge line xs text here);
    }

pub ends_open_lost : {S P H X : Type 0} (first : List ℕ → Option H) (judge : H → Judge X) (holds : S → P → H × List X → Type 0) (lines : LineReader) (form : S) (past : P) (text : List ℕ) → (lines.stage ≡ stage.Start) ⊎ (lines.stage ≡ stage.Inside)
    → Knows first judge holds lines form past text → EndsOpen first judge holds form past text (Ok false)
ends_open_lost first judge holds lines form past text e k = ends_open_at first judge holds lines.stage lines.line.items form past k.found text e k.state k.held

pub ends_open_right : {S P H X : Type 0} (first : List ℕ → Option H) (judge : H → Judge X) (holds : S → P → H × List X → Type 0) (lines : LineReader) (form : S) (past : P) (text : List ℕ) → lines.stage ≡ stage.Ended
    → Knows first judge holds lines form past text → EndsOpen first judge holds form past text (Ok true)
ends_open_right first judge holds lines form past text e k =
    let here = subst (λ s. IsStateOf first judge s lines.line.items k.found text) e k.state in
    record {
      found = k.found;
      held = k.held;
      items = complete first judge holds lines form past text k;
      right = λ f shown. unshown first judge stage.Ended lines.line.items k.found text f here tt shown;
      end = end_right first judge lines.line.items k.found text here;
    }

pub ends_open_refused : {S P H X : Type 0} (first : List ℕ → Option H) (judge : H → Judge X) (holds : S → P → H × List X → Type 0) (lines : LineReader) (form : S) (past : P) (text : List ℕ) (f : LogFault) → lines.stage ≡ stage.Refused f
    → Knows first judge holds lines form past text → EndsOpen first judge holds form past text (Err f)
ends_open_refused first judge holds lines form past text (fault.Text f) e k =
    let here = subst (λ s. IsStateOf first judge s lines.line.items k.found text) e k.state in
    (read_now first judge (refused f) lines.line.items k.found text here, here.fed)
ends_open_refused first judge holds lines form past text fault.Memory e k = tt
