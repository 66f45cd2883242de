-- A reader of lines over the pieces of a text: one line, one piece, the end.
use Rattle.std.proofs.Common.{Bool, true, false, ◌||◌, ◌≡◌, ℕ, ◌+◌, ◌<◌, ◌≤◌, List, [], ◌∷◌, ◌++◌, length, sym, refl, ap, ◌∙◌, subst, arith, Some, None, Ok, Err, Option, Result, cond, nat_eq, decimal, ⊎_elim, inl, inr, append_assoc, append-nil, length-append}
use Rattle.std.specs.List.{onto_first}
use Rattle.std.specs.Str.{bytes_eq}
use Rattle.std.proofs.lemmas.Bool.{cases_Bool, both_ways}
use Rattle.std.proofs.lemmas.List.{nil_from_length}
use Rattle.std.proofs.lemmas.List.Sums.{sum_by-append}
use Rattle.sync_path.specs.Paths.{parts}
use Rattle.sync_path.proofs.CallerLemmas.{parts-some}
use Rattle.log_text.specs.declared.faults.TextFault.{TextFault}
use Rattle.log_text.specs.declared.faults.TextKind.{TextKind}
use Rattle.log_text.specs.declared.faults.TextKind.TheVariants as kind
use Rattle.log_text.specs.declared.faults.LogFault.TheVariants as fault
use Rattle.log_text.specs.declared.pieces.Stage.{Stage}
use Rattle.log_text.specs.declared.pieces.Stage.TheVariants as stage
use Rattle.log_text.specs.Frame.{Judge, body_of, at_line, unless, after_end, end_number, fault_at, header_fault, items_at, body_items, complete_items, items_after_first, after_first, framed_of, with_head, head_of}
use Rattle.log_text.specs.Pieces.{after_first_line, line_feeds, IsSettled, refused, after_body_line, after_line, StageReads, stage_items, StageFed, IsStateOf, IsHead, HasOpened, head_if, is_inside}
use Rattle.log_text.proofs.LineSteps.{something_after}
use Rattle.log_text.proofs.Fields.{IsClear, clear_both, parts_clear, parts_only}

-- ---- line feeds

pub line_feeds-append : (a b : List ℕ) → line_feeds (a ++ b) ≡ line_feeds a + line_feeds b
line_feeds-append a b = sum_by-append (λ x. cond (nat_eq x 10) 1 0) a b

pub line_feeds_clear : (a : List ℕ) → IsClear 10 a → line_feeds a ≡ 0
line_feeds_clear [] h = refl
line_feeds_clear (x ∷ a) (f, h) = rw f (line_feeds_clear a h)

abbrev FirstClear : List (List ℕ) → Type 0
FirstClear [] = Unit {0}
FirstClear (part ∷ rest) = IsClear 10 part

onto_clear : (x : ℕ) (ps : List (List ℕ)) → nat_eq x 10 ≡ false → FirstClear ps → FirstClear (onto_first x ps)
onto_clear x [] f h = (f, tt)
onto_clear x (p ∷ ps) f h = (f, h)

all_clear : (bytes : List ℕ) → FirstClear (parts 10 bytes)
unfolding parts
all_clear [] = tt
all_clear (x ∷ bytes) =
    ⊎_elim
    (λ (t : nat_eq x 10 ≡ true). rw t tt)
    (λ (f : nat_eq x 10 ≡ false). rw f (onto_clear x (parts 10 bytes) f (all_clear bytes)))
    (cases_Bool (nat_eq x 10))

-- what is cut off has no line feed
pub unended_clear : (bytes unended : List ℕ) (rest : List (List ℕ)) → parts 10 bytes ≡ unended ∷ rest → IsClear 10 unended
unended_clear bytes unended rest e = subst FirstClear e (all_clear bytes)

-- ---- one line

body_line_reads : {H X : Type 0} (first : List ℕ → Option H) (judge : H → Judge X) (xs : H × List X) (o : Option (List ℕ)) (j : Result X TextKind) (ps : List (List ℕ)) (read : Result (H × List X) TextFault)
    → read ≡ with_head xs.0 (at_line xs.1 o j ps (λ x. body_of (judge xs.0) (xs.1 ++ x ∷ []) ps))
    → StageReads first judge (after_body_line xs o j).0 (after_body_line xs o j).1 ps read
body_line_reads first judge xs (Some number) j ps read h =
    ⊎_elim
    (λ (t : bytes_eq number (decimal (length xs.1)) ≡ true). rw t (rw t at h))
    (λ (f : bytes_eq number (decimal (length xs.1)) ≡ false). rw f (rw f at h))
    (cases_Bool (bytes_eq number (decimal (length xs.1))))
body_line_reads first judge xs None (Ok x) ps read h = h
body_line_reads first judge xs None (Err k) ps read h = h

first_line_reads : {H X : Type 0} (first : List ℕ → Option H) (judge : H → Judge X) (o : Option H) (xs : H × List X) (ps : List (List ℕ)) (read : Result (H × List X) TextFault) → xs.1 ≡ []
    → read ≡ after_first o (λ head. with_head head (body_of (judge head) [] ps))
    → StageReads first judge (after_first_line o xs).0 (after_first_line o xs).1 ps read
first_line_reads first judge None xs ps read start h = h
first_line_reads first judge (Some head) xs ps read start h = h ∙ ap (λ ys. with_head head (body_of (judge head) ys ps)) (sym start)

first_line_items : {H X : Type 0} (first : List ℕ → Option H) (judge : H → Judge X) (o : Option H) (xs : H × List X) (ps : List (List ℕ)) → xs.1 ≡ []
    → items_after_first o (λ head. body_items (judge head) [] ps) ≡ stage_items first judge (after_first_line o xs).0 (after_first_line o xs).1 ps
first_line_items first judge None xs ps start = sym start
first_line_items first judge (Some head) xs ps start = ap (λ ys. body_items (judge head) ys ps) (sym start)

first_line_fed : {H X : Type 0} (o : Option H) (xs : H × List X) (later : List ℕ) → length xs.1 ≡ 0 → line_feeds later ≡ 1 → StageFed (after_first_line o xs).0 (length (after_first_line o xs).1.1) [] later
first_line_fed None xs later none h = inr (omega arith)
first_line_fed (Some head) xs later none h = omega arith

-- the reading from a line on is that after it
line_reads : {H X : Type 0} (first : List ℕ → Option H) (judge : H → Judge X) (at : Stage) (xs : H × List X) (line next : List ℕ) (ps : List (List ℕ)) (read : Result (H × List X) TextFault)
    → (at ≡ stage.Start → xs.1 ≡ []) → StageReads first judge at xs (line ∷ next ∷ ps) read
    → StageReads first judge (after_line first judge at xs line).0 (after_line first judge at xs line).1 (next ∷ ps) read
unfolding body_of framed_of
line_reads first judge stage.Start xs line next ps read start h = first_line_reads first judge (first line) xs (next ∷ ps) read (start refl) h
line_reads first judge stage.Inside xs line next ps read start h = body_line_reads first judge xs (end_number (parts 32 line)) (judge xs.0 xs.1 (parts 32 line)) (next ∷ ps) read h
line_reads first judge stage.Ended xs [] next ps read start h = h
line_reads first judge stage.Ended xs (b ∷ line) next ps read start h = h
line_reads first judge (stage.Refused f) xs line next ps read start h = h

body_line_items : {H X : Type 0} (first : List ℕ → Option H) (judge : H → Judge X) (xs : H × List X) (o : Option (List ℕ)) (j : Result X TextKind) (ps : List (List ℕ))
    → items_at xs.1 o j (λ x. body_items (judge xs.0) (xs.1 ++ x ∷ []) ps) ≡ stage_items first judge (after_body_line xs o j).0 (after_body_line xs o j).1 ps
body_line_items first judge xs (Some number) j ps =
    ⊎_elim
    (λ (t : bytes_eq number (decimal (length xs.1)) ≡ true). rw t refl)
    (λ (f : bytes_eq number (decimal (length xs.1)) ≡ false). rw f refl)
    (cases_Bool (bytes_eq number (decimal (length xs.1))))
body_line_items first judge xs None (Ok x) ps = refl
body_line_items first judge xs None (Err k) ps = refl

line_items : {H X : Type 0} (first : List ℕ → Option H) (judge : H → Judge X) (at : Stage) (xs : H × List X) (line next : List ℕ) (ps : List (List ℕ)) → (at ≡ stage.Start → xs.1 ≡ [])
    → stage_items first judge at xs (line ∷ next ∷ ps) ≡ stage_items first judge (after_line first judge at xs line).0 (after_line first judge at xs line).1 (next ∷ ps)
unfolding body_items complete_items
line_items first judge stage.Start xs line next ps start = first_line_items first judge (first line) xs (next ∷ ps) (start refl)
line_items first judge stage.Inside xs line next ps start = body_line_items first judge xs (end_number (parts 32 line)) (judge xs.0 xs.1 (parts 32 line)) (next ∷ ps)
line_items first judge stage.Ended xs line next ps start = refl
line_items first judge (stage.Refused f) xs line next ps start = refl

body_line_fed : {H X : Type 0} (xs : H × List X) (o : Option (List ℕ)) (j : Result X TextKind) (text : List ℕ) → line_feeds text ≡ length xs.1 + 2
    → StageFed (after_body_line xs o j).0 (length (after_body_line xs o j).1.1) [] text
body_line_fed xs (Some number) j text h =
    ⊎_elim
    (λ (t : bytes_eq number (decimal (length xs.1)) ≡ true). rw t (h, refl))
    (λ (f : bytes_eq number (decimal (length xs.1)) ≡ false). rw f (inr (omega arith)))
    (cases_Bool (bytes_eq number (decimal (length xs.1))))
body_line_fed xs None (Ok x) text h = let l = length-append xs.1 (x ∷ []) in omega arith
body_line_fed xs None (Err k) text h = inr (omega arith)

settled_on : (text later : List ℕ) (f : TextFault) → line_feeds text ≤ line_feeds later → IsSettled text f → IsSettled later f
settled_on text later f h (inl e) = inl e
settled_on text later f h (inr e) = inr (omega arith)

line_fed : {H X : Type 0} (first : List ℕ → Option H) (judge : H → Judge X) (at : Stage) (xs : H × List X) (line kept text later : List ℕ) → line_feeds later ≡ line_feeds text + 1 → StageFed at (length xs.1) kept text
    → StageFed (after_line first judge at xs line).0 (length (after_line first judge at xs line).1.1) [] later
line_fed first judge stage.Start xs line kept text later e (none, h) = first_line_fed (first line) xs later none (omega arith)
line_fed first judge stage.Inside xs line kept text later e h = body_line_fed xs (end_number (parts 32 line)) (judge xs.0 xs.1 (parts 32 line)) later (omega arith)
line_fed first judge stage.Ended xs line kept text later e h = inl refl
line_fed first judge (stage.Refused (fault.Text f)) xs line kept text later e h = settled_on text later f (omega arith) h
line_fed first judge (stage.Refused fault.Memory) xs line kept text later e h = tt

-- in unended of the first line there is no item
pub fresh : {H X : Type 0} (first : List ℕ → Option H) (judge : H → Judge X) (at : Stage) (line : List ℕ) (xs : H × List X) (text : List ℕ) → IsStateOf first judge at line xs text → at ≡ stage.Start → xs.1 ≡ []
fresh first judge at line xs text h e =
    let fed : StageFed stage.Start (length xs.1) line text = subst (λ s. StageFed s (length xs.1) line text) e h.fed in
    nil_from_length xs.1 fed.0

split_at : (line tail more : List ℕ) → IsClear 10 line → IsClear 10 tail → parts 10 (line ++ (tail ++ 10 ∷ more)) ≡ (line ++ tail) ∷ parts 10 more
split_at line tail more h g = ap (parts 10) (sym (append_assoc line tail (10 ∷ more))) ∙ parts_clear 10 (line ++ tail) more (clear_both 10 line tail h g)

ended_more : (text tail more : List ℕ) → (text ++ (tail ++ 10 ∷ [])) ++ more ≡ text ++ (tail ++ 10 ∷ more)
ended_more text tail more = append_assoc text (tail ++ 10 ∷ []) more ∙ ap (λ t. text ++ t) (append_assoc tail (10 ∷ []) more)

step_reads : {H X : Type 0} (first : List ℕ → Option H) (judge : H → Judge X) (at : Stage) (xs : H × List X) (line : List ℕ) (ps : List (List ℕ)) (read : Result (H × List X) TextFault) → 0 < length ps
    → (at ≡ stage.Start → xs.1 ≡ []) → StageReads first judge at xs (line ∷ ps) read
    → StageReads first judge (after_line first judge at xs line).0 (after_line first judge at xs line).1 ps read
step_reads first judge at xs line [] read some start h = absurd (omega arith)
step_reads first judge at xs line (next ∷ ps) read some start h = line_reads first judge at xs line next ps read start h

step_items : {H X : Type 0} (first : List ℕ → Option H) (judge : H → Judge X) (at : Stage) (xs : H × List X) (line : List ℕ) (ps : List (List ℕ)) → 0 < length ps → (at ≡ stage.Start → xs.1 ≡ [])
    → stage_items first judge at xs (line ∷ ps) ≡ stage_items first judge (after_line first judge at xs line).0 (after_line first judge at xs line).1 ps
step_items first judge at xs line [] some start = absurd (omega arith)
step_items first judge at xs line (next ∷ ps) some start = line_items first judge at xs line next ps start

-- a line is ended
pub state_on : {H X : Type 0} (first : List ℕ → Option H) (judge : H → Judge X) (at : Stage) (line tail : List ℕ) (xs : H × List X) (text : List ℕ) → IsClear 10 tail → IsStateOf first judge at line xs text
    → IsStateOf first judge (after_line first judge at xs (line ++ tail)).0 [] (after_line first judge at xs (line ++ tail)).1 (text ++ (tail ++ 10 ∷ []))
state_on first judge at line tail xs text clear h =
    let next = after_line first judge at xs (line ++ tail) in
    let start = fresh first judge at line xs text h in
    record {
      clear = tt;
      reads = λ more.
          let whole : StageReads first judge at xs (parts 10 (line ++ (tail ++ 10 ∷ more))) (framed_of first judge (parts 10 (text ++ (tail ++ 10 ∷ more)))) = h.reads (tail ++ 10 ∷ more) in
          let cut : StageReads first judge at xs ((line ++ tail) ∷ parts 10 more) (framed_of first judge (parts 10 (text ++ (tail ++ 10 ∷ more)))) =
          subst (λ ps. StageReads first judge at xs ps (framed_of first judge (parts 10 (text ++ (tail ++ 10 ∷ more))))) (split_at line tail more h.clear clear) whole in
          subst (λ t. StageReads first judge next.0 next.1 (parts 10 more) (framed_of first judge (parts 10 t))) (sym (ended_more text tail more))
          (step_reads first judge at xs (line ++ tail) (parts 10 more) (framed_of first judge (parts 10 (text ++ (tail ++ 10 ∷ more)))) (parts-some 10 more) start cut);
      items = λ more.
          ap (λ t. complete_items first judge (parts 10 t)) (ended_more text tail more) ∙ h.items (tail ++ 10 ∷ more)
          ∙ ap (stage_items first judge at xs) (split_at line tail more h.clear clear)
          ∙ step_items first judge at xs (line ++ tail) (parts 10 more) (parts-some 10 more) start;
      fed = line_fed first judge at xs (line ++ tail) line text (text ++ (tail ++ 10 ∷ []))
          (line_feeds-append text (tail ++ 10 ∷ []) ∙ ap (λ n. line_feeds text + n) (line_feeds-append tail (10 ∷ []) ∙ ap (λ n. n + 1) (line_feeds_clear tail clear))) h.fed;
    }

-- ---- what is complete

at_begin : {X : Type 0} (xs : List X) (o : Option (List ℕ)) (j : Result X TextKind) (later : X → List X) → ((x : X) → (rest : List X) × (later x ≡ (xs ++ x ∷ []) ++ rest))
    → (rest : List X) × (items_at xs o j later ≡ xs ++ rest)
at_begin xs (Some number) j later h = ([], sym (append-nil xs))
at_begin xs None (Ok x) later h = (x ∷ (h x).0, (h x).1 ∙ append_assoc xs (x ∷ []) (h x).0)
at_begin xs None (Err k) later h = ([], sym (append-nil xs))

body_begin : {X : Type 0} (judge : Judge X) (xs : List X) (ps : List (List ℕ)) → (rest : List X) × (body_items judge xs ps ≡ xs ++ rest)
unfolding body_items
body_begin judge xs [] = ([], sym (append-nil xs))
body_begin judge xs (line ∷ []) = ([], sym (append-nil xs))
body_begin judge xs (line ∷ next ∷ ps) =
    at_begin xs (end_number (parts 32 line)) (judge xs (parts 32 line)) (λ x. body_items judge (xs ++ x ∷ []) (next ∷ ps)) (λ x. body_begin judge (xs ++ x ∷ []) (next ∷ ps))

-- what is complete stays
pub stage_begin : {H X : Type 0} (first : List ℕ → Option H) (judge : H → Judge X) (at : Stage) (xs : H × List X) (ps : List (List ℕ)) → (at ≡ stage.Start → xs.1 ≡ [])
    → (rest : List X) × (stage_items first judge at xs ps ≡ xs.1 ++ rest)
stage_begin first judge stage.Start xs ps start = (complete_items first judge ps, sym (ap (λ ys. ys ++ complete_items first judge ps) (start refl)))
stage_begin first judge stage.Inside xs ps start = body_begin (judge xs.0) xs.1 ps
stage_begin first judge stage.Ended xs ps start = ([], sym (append-nil xs.1))
stage_begin first judge (stage.Refused f) xs ps start = ([], sym (append-nil xs.1))

stage_last : {H X : Type 0} (first : List ℕ → Option H) (judge : H → Judge X) (at : Stage) (xs : H × List X) (line : List ℕ) → (at ≡ stage.Start → xs.1 ≡ []) → stage_items first judge at xs (line ∷ []) ≡ xs.1
unfolding body_items complete_items
stage_last first judge stage.Start xs line start = sym (start refl)
stage_last first judge stage.Inside xs line start = refl
stage_last first judge stage.Ended xs line start = refl
stage_last first judge (stage.Refused f) xs line start = refl

last_line : (line : List ℕ) → IsClear 10 line → parts 10 (line ++ []) ≡ line ∷ []
last_line line h = ap (parts 10) (append-nil line) ∙ parts_only 10 line h

-- the items found are those that are complete
pub complete_now : {H X : Type 0} (first : List ℕ → Option H) (judge : H → Judge X) (at : Stage) (line : List ℕ) (xs : H × List X) (text : List ℕ) → IsStateOf first judge at line xs text
    → complete_items first judge (parts 10 text) ≡ xs.1
complete_now first judge at line xs text h =
    ap (λ t. complete_items first judge (parts 10 t)) (sym (append-nil text)) ∙ h.items [] ∙ ap (stage_items first judge at xs) (last_line line h.clear)
    ∙ stage_last first judge at xs line (fresh first judge at line xs text h)

-- whatever follows, they stay
pub complete_later : {H X : Type 0} (first : List ℕ → Option H) (judge : H → Judge X) (at : Stage) (line : List ℕ) (xs : H × List X) (text more : List ℕ) → IsStateOf first judge at line xs text
    → (rest : List X) × (complete_items first judge (parts 10 (text ++ more)) ≡ xs.1 ++ rest)
complete_later first judge at line xs text more h =
    let begin = stage_begin first judge at xs (parts 10 (line ++ more)) (fresh first judge at line xs text h) in
    (begin.0, h.items more ∙ begin.1)

pub read_now : {H X : Type 0} (first : List ℕ → Option H) (judge : H → Judge X) (at : Stage) (line : List ℕ) (xs : H × List X) (text : List ℕ) → IsStateOf first judge at line xs text
    → StageReads first judge at xs (line ∷ []) (framed_of first judge (parts 10 text))
read_now first judge at line xs text h =
    subst (λ t. StageReads first judge at xs (line ∷ []) (framed_of first judge (parts 10 t))) (append-nil text)
    (subst (λ ps. StageReads first judge at xs ps (framed_of first judge (parts 10 (text ++ [])))) (last_line line h.clear) (h.reads []))

-- ---- bytes after the last line feed

fed_on : (at : Stage) (k : ℕ) (line unended text later : List ℕ) → line_feeds later ≡ line_feeds text → (at ≡ stage.Ended → unended ≡ []) → StageFed at k line text → StageFed at k (line ++ unended) later
fed_on stage.Start k line unended text later e none h = (h.0, e ∙ h.1)
fed_on stage.Inside k line unended text later e none h = e ∙ h
fed_on stage.Ended k line unended text later e none h = (e ∙ h.0, ap (λ l. l ++ unended) h.1 ∙ none refl)
fed_on (stage.Refused (fault.Text f)) k line unended text later e none h = settled_on text later f (omega arith) h
fed_on (stage.Refused fault.Memory) k line unended text later e none h = tt

-- they are kept
pub state_kept : {H X : Type 0} (first : List ℕ → Option H) (judge : H → Judge X) (at : Stage) (line unended : List ℕ) (xs : H × List X) (text : List ℕ) → IsClear 10 unended → (at ≡ stage.Ended → unended ≡ [])
    → IsStateOf first judge at line xs text → IsStateOf first judge at (line ++ unended) xs (text ++ unended)
state_kept first judge at line unended xs text clear none h = record {
  clear = clear_both 10 line unended h.clear clear;
  reads = λ more.
      subst (λ t. StageReads first judge at xs (parts 10 ((line ++ unended) ++ more)) (framed_of first judge (parts 10 t))) (sym (append_assoc text unended more))
      (subst (λ l. StageReads first judge at xs (parts 10 l) (framed_of first judge (parts 10 (text ++ (unended ++ more))))) (sym (append_assoc line unended more)) (h.reads (unended ++ more)));
  items = λ more.
      ap (λ t. complete_items first judge (parts 10 t)) (append_assoc text unended more) ∙ h.items (unended ++ more)
      ∙ ap (λ l. stage_items first judge at xs (parts 10 l)) (sym (append_assoc line unended more));
  fed = fed_on at (length xs.1) line unended text (text ++ unended) (line_feeds-append text unended ∙ (ap (λ n. line_feeds text + n) (line_feeds_clear unended clear) ∙ omega arith)) none h.fed;
}

-- after the right end line they are refused
pub state_after_end : {H X : Type 0} (first : List ℕ → Option H) (judge : H → Judge X) (line unended : List ℕ) (xs : H × List X) (text : List ℕ) → 0 < length unended
    → IsStateOf first judge stage.Ended line xs text → IsStateOf first judge (refused (fault_at (length xs.1 + 1) kind.After)) line xs (text ++ unended)
state_after_end first judge line unended xs text some h = record {
  clear = h.clear;
  reads = λ more.
      let long : 0 < length (unended ++ more) = omega (arith, length-append unended more) in
      ap (λ t. framed_of first judge (parts 10 t)) (append_assoc text unended more) ∙ h.reads (unended ++ more)
      ∙ ap (λ l. with_head xs.0 (unless (after_end (length xs.1) (parts 10 (l ++ (unended ++ more)))) xs.1)) h.fed.1
      ∙ ap (λ o. with_head xs.0 (unless o xs.1)) (sym (something_after (length xs.1) (unended ++ more) long));
  items = λ more. ap (λ t. complete_items first judge (parts 10 t)) (append_assoc text unended more) ∙ h.items (unended ++ more);
  fed = inl refl;
}

-- a fault of the text stays, whatever follows
pub state_refused : {H X : Type 0} (first : List ℕ → Option H) (judge : H → Judge X) (f : TextFault) (line : List ℕ) (xs : H × List X) (text piece : List ℕ)
    → IsStateOf first judge (refused f) line xs text → IsStateOf first judge (refused f) line xs (text ++ piece)
state_refused first judge f line xs text piece h = record {
  clear = h.clear;
  reads = λ more. ap (λ t. framed_of first judge (parts 10 t)) (append_assoc text piece more) ∙ h.reads (piece ++ more);
  items = λ more. ap (λ t. complete_items first judge (parts 10 t)) (append_assoc text piece more) ∙ h.items (piece ++ more);
  fed = settled_on text (text ++ piece) f (omega (arith, line_feeds-append text piece)) h.fed;
}

-- ---- the first line

is_head_more : {H : Type 0} (first : List ℕ → Option H) (text piece : List ℕ) (head : Option H) → IsHead first text head → IsHead first (text ++ piece) head
is_head_more first text piece head h = λ more. ap (λ t. head_of first (parts 10 t)) (append_assoc text piece more) ∙ h (piece ++ more)

head_at : {H : Type 0} (first : List ℕ → Option H) (line : List ℕ) (ps : List (List ℕ)) → 0 < length ps → head_of first (line ∷ ps) ≡ first line
unfolding head_of
head_at first line [] some = absurd (omega arith)
head_at first line (next ∷ ps) some = refl

pub or_false : (b : Bool) → (b || false) ≡ b
or_false true = refl
or_false false = refl

first_line_opened : {H X : Type 0} (first : List ℕ → Option H) (o : Option H) (xs : H × List X) (opened next : Bool) (text : List ℕ) → opened ≡ false → IsHead first text o
    → next ≡ (opened || is_inside (after_first_line o xs).0) → HasOpened first (after_first_line o xs).0 next [] (after_first_line o xs).1.0 text
first_line_opened first None xs opened next text closed h e = subst (λ b. IsHead first text (head_if b xs.0)) (sym (e ∙ or_false opened ∙ closed)) h
first_line_opened first (Some head) xs opened next text closed h e = (e ∙ ap (λ b. b || true) closed, h)

body_line_opened : {H X : Type 0} (first : List ℕ → Option H) (xs : H × List X) (o : Option (List ℕ)) (j : Result X TextKind) (next : Bool) (text : List ℕ) → next ≡ true → IsHead first text (Some xs.0)
    → HasOpened first (after_body_line xs o j).0 next [] (after_body_line xs o j).1.0 text
body_line_opened first xs (Some number) j next text is_open h =
    ⊎_elim
    (λ (t : bytes_eq number (decimal (length xs.1)) ≡ true). rw t (is_open, h))
    (λ (f : bytes_eq number (decimal (length xs.1)) ≡ false). rw f (subst (λ b. IsHead first text (head_if b xs.0)) (sym is_open) h))
    (cases_Bool (bytes_eq number (decimal (length xs.1))))
body_line_opened first xs None (Ok x) next text is_open h = (is_open, h)
body_line_opened first xs None (Err k) next text is_open h = subst (λ b. IsHead first text (head_if b xs.0)) (sym is_open) h

-- a line is ended
pub opened_on : {H X : Type 0} (first : List ℕ → Option H) (judge : H → Judge X) (at : Stage) (opened next : Bool) (line tail : List ℕ) (xs : H × List X) (text : List ℕ) → IsClear 10 line → IsClear 10 tail
    → HasOpened first at opened line xs.0 text → next ≡ (opened || is_inside (after_line first judge at xs (line ++ tail)).0)
    → HasOpened first (after_line first judge at xs (line ++ tail)).0 next [] (after_line first judge at xs (line ++ tail)).1.0 (text ++ (tail ++ 10 ∷ []))
opened_on first judge stage.Start opened next line tail xs text clear last (closed, same) e =
    first_line_opened first (first (line ++ tail)) xs opened next (text ++ (tail ++ 10 ∷ [])) closed
    (λ more.
    ap (λ t. head_of first (parts 10 t)) (ended_more text tail more ∙ ap (λ t. t ++ (tail ++ 10 ∷ more)) same) ∙ ap (head_of first) (split_at line tail more clear last)
    ∙ head_at first (line ++ tail) (parts 10 more) (parts-some 10 more)) e
opened_on first judge stage.Inside opened next line tail xs text clear last (is_open, h) e =
    body_line_opened first xs (end_number (parts 32 (line ++ tail))) (judge xs.0 xs.1 (parts 32 (line ++ tail))) next (text ++ (tail ++ 10 ∷ []))
    (e ∙ ap (λ b. b || is_inside (after_line first judge stage.Inside xs (line ++ tail)).0) is_open) (is_head_more first text (tail ++ 10 ∷ []) (Some xs.0) h)
opened_on first judge stage.Ended opened next line tail xs text clear last (is_open, h) e =
    subst (λ b. IsHead first (text ++ (tail ++ 10 ∷ [])) (head_if b xs.0)) (sym (e ∙ or_false opened ∙ is_open)) (is_head_more first text (tail ++ 10 ∷ []) (Some xs.0) h)
opened_on first judge (stage.Refused f) opened next line tail xs text clear last h e =
    subst (λ b. IsHead first (text ++ (tail ++ 10 ∷ [])) (head_if b xs.0)) (sym (e ∙ or_false opened)) (is_head_more first text (tail ++ 10 ∷ []) (head_if opened xs.0) h)

-- bytes after the last line feed are kept
pub opened_kept : {H : Type 0} (first : List ℕ → Option H) (at : Stage) (opened : Bool) (line unended : List ℕ) (head : H) (text : List ℕ) → HasOpened first at opened line head text → HasOpened first at opened (line ++ unended) head (text ++ unended)
opened_kept first stage.Start opened line unended head text (closed, same) = (closed, ap (λ t. t ++ unended) same)
opened_kept first stage.Inside opened line unended head text (is_open, h) = (is_open, is_head_more first text unended (Some head) h)
opened_kept first stage.Ended opened line unended head text (is_open, h) = (is_open, is_head_more first text unended (Some head) h)
opened_kept first (stage.Refused f) opened line unended head text h = is_head_more first text unended (head_if opened head) h

-- bytes after the right end line are refused
pub opened_after_end : {H : Type 0} (first : List ℕ → Option H) (opened : Bool) (f : TextFault) (line next unended : List ℕ) (head : H) (text : List ℕ) → HasOpened first stage.Ended opened line head text
    → HasOpened first (refused f) opened next head (text ++ unended)
opened_after_end first opened f line next unended head text (is_open, h) = subst (λ b. IsHead first (text ++ unended) (head_if b head)) (sym is_open) (is_head_more first text unended (Some head) h)

pub opened_refused : {H : Type 0} (first : List ℕ → Option H) (f : TextFault) (opened : Bool) (line : List ℕ) (head : H) (text piece : List ℕ) → HasOpened first (refused f) opened line head text → HasOpened first (refused f) opened line head (text ++ piece)
opened_refused first f opened line head text piece h = is_head_more first text piece (head_if opened head) h

-- where it was read right, it has this head, whatever follows
pub head_later : {H : Type 0} (first : List ℕ → Option H) (at : Stage) (opened : Bool) (line : List ℕ) (head : H) (text : List ℕ) → HasOpened first at opened line head text → opened ≡ true → IsHead first text (Some head)
head_later first stage.Start opened line head text (closed, same) is_open = absurd (both_ways opened closed is_open)
head_later first stage.Inside opened line head text (e, h) is_open = h
head_later first stage.Ended opened line head text (e, h) is_open = h
head_later first (stage.Refused f) opened line head text h is_open = subst (λ b. IsHead first text (head_if b head)) is_open h

-- where it was not, the text so far has none
pub no_head_now : {H : Type 0} (first : List ℕ → Option H) (at : Stage) (opened : Bool) (line : List ℕ) (head : H) (text : List ℕ) → IsClear 10 line → HasOpened first at opened line head text → opened ≡ false → head_of first (parts 10 text) ≡ None
unfolding head_of
no_head_now first stage.Start opened line head text clear (closed, same) shut = ap (head_of first) (ap (parts 10) same ∙ parts_only 10 line clear)
no_head_now first stage.Inside opened line head text clear (is_open, h) shut = absurd (both_ways opened shut is_open)
no_head_now first stage.Ended opened line head text clear (is_open, h) shut = absurd (both_ways opened shut is_open)
no_head_now first (stage.Refused f) opened line head text clear h shut =
    ap (λ t. head_of first (parts 10 t)) (sym (append-nil text)) ∙ subst (λ b. IsHead first text (head_if b head)) shut h []

pub head_now : {H : Type 0} (first : List ℕ → Option H) (at : Stage) (opened : Bool) (line : List ℕ) (head : H) (text : List ℕ) → IsClear 10 line → HasOpened first at opened line head text → head_if opened head ≡ head_of first (parts 10 text)
head_now first at true line head text clear h = sym (ap (λ t. head_of first (parts 10 t)) (sym (append-nil text)) ∙ head_later first at true line head text h refl [])
head_now first at false line head text clear h = sym (no_head_now first at false line head text clear h refl)

-- ---- the end

pub end_at_start : {H X : Type 0} (first : List ℕ → Option H) (judge : H → Judge X) (line : List ℕ) (xs : H × List X) (text : List ℕ) → IsStateOf first judge stage.Start line xs text
    → framed_of first judge (parts 10 text) ≡ Err header_fault
unfolding framed_of
end_at_start first judge line xs text h = read_now first judge stage.Start line xs text h

pub end_inside : {H X : Type 0} (first : List ℕ → Option H) (judge : H → Judge X) (line : List ℕ) (xs : H × List X) (text : List ℕ) → IsStateOf first judge stage.Inside line xs text
    → framed_of first judge (parts 10 text) ≡ Err (fault_at (length xs.1) kind.End)
unfolding body_of
end_inside first judge line xs text h = read_now first judge stage.Inside line xs text h

pub end_right : {H X : Type 0} (first : List ℕ → Option H) (judge : H → Judge X) (line : List ℕ) (xs : H × List X) (text : List ℕ) → IsStateOf first judge stage.Ended line xs text
    → framed_of first judge (parts 10 text) ≡ Ok xs
end_right first judge line xs text h = read_now first judge stage.Ended line xs text h ∙ ap (λ l. with_head xs.0 (unless (after_end (length xs.1) (l ∷ [])) xs.1)) h.fed.1
