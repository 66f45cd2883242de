-- A text that comes in pieces: what is known of it after the bytes so far, whatever follows.
-- It holds for every form: one is its first lines, its items and its judge.
use Rattle.std.specs.Prelude.{MatchBool, IsErr, ◌≡◌, ◌≤◌, ◌<◌, ℕ, ◌+◌, Bool, true, false, ◌==◌, nat_eq, ◌⊎◌, List, [], ◌∷◌, ◌++◌, length, count_by, decimal, if◌then◌else◌, Option, None, Some, Result, Ok, Err}
use Rattle.std.specs.List.{AllByRecursion}
use Rattle.std.specs.Str.{bytes_eq}
use Rattle.sync_path.specs.Paths.{parts}
use Rattle.log_text.specs.declared.faults.TextFault.{TextFault}
use Rattle.log_text.specs.declared.faults.TextKind.{TextKind}
use Rattle.log_text.specs.declared.faults.TextKind.TheVariants as kind
use Rattle.log_text.specs.declared.faults.LogFault.{LogFault}
use Rattle.log_text.specs.declared.faults.LogFault.TheVariants as fault
use Rattle.log_text.specs.declared.faults.LineFault.{LineFault}
use Rattle.log_text.specs.declared.faults.LineFault.TheVariants as line_fault
use Rattle.log_text.specs.declared.pieces.Stage.{Stage}
use Rattle.log_text.specs.declared.pieces.Stage.TheVariants as stage
use Rattle.log_text.specs.declared.pieces.LineReader.{LineReader}
use Rattle.log_text.specs.Frame.{Judge, fault_at, header_fault, end_number, unless, after_end, body_of, with_head, framed_of, head_of, body_items, complete_items}
use Rattle.log_text.specs.Reading.{FailsText}

-- ---- which faults no continuation mends

-- how many line feeds there are
abbrev pub line_feeds : List ℕ → ℕ
line_feeds text = count_by (λ b. b == 10) text

-- the fault is at a line that has its line feed, or after the right end line
abbrev pub IsSettled : List ℕ → TextFault → Type 0
IsSettled text f = (f.kind ≡ kind.After) ⊎ (f.line ≤ line_feeds text)

-- the text so far shows the fault
abbrev pub IsShown : {H X : Type 0} → (List ℕ → Option H) → (H → Judge X) → List ℕ → TextFault → Type 0
IsShown first judge text f = (framed_of first judge (parts 10 text) ≡ Err f) × IsSettled text f

-- The answer after a text, where memory did not run out: a fault exactly where the text shows it. Then
-- every continuation has it.
abbrev pub IsExact : {H X : Type 0} → (List ℕ → Option H) → (H → Judge X) → List ℕ → Result (Unit {0}) LogFault → Type 0
IsExact first judge text (Ok u) = (f : TextFault) → IsShown first judge text f → ⊥
IsExact first judge text (Err (fault.Text f)) = IsShown first judge text f × ((more : List ℕ) → framed_of first judge (parts 10 (text ++ more)) ≡ Err f)
IsExact first judge text (Err fault.Memory) = Unit {0}

-- ---- what a form does

-- what a form makes of its first line
abbrev pub Opens : {S P H X : Type 0} → (S → P → H × List X → Type 0) → S → P → H × List X → Option H → Bool → Type 0
Opens holds new past xs None right = (right ≡ false) × holds new past xs
Opens holds new past xs (Some head) right = (right ≡ true) × holds new past (head, xs.1)

-- what a form makes of the fields of a line
abbrev pub Adds : {S P H X : Type 0} → (H → Judge X) → (S → P → H × List X → Type 0) → S → P → H × List X → List (List ℕ) → Result (Unit {0}) LineFault → Type 0
Adds {H = H} {X = X} judge holds new past xs ps (Ok u) = (x : X) × (judge xs.0 xs.1 ps ≡ Ok x) × holds new past (xs.0, xs.1 ++ x ∷ [])
Adds judge holds new past xs ps (Err (line_fault.Kind k)) = (judge xs.0 xs.1 ps ≡ Err k) × holds new past xs
Adds judge holds new past xs ps (Err line_fault.Memory) = holds new past xs

-- ---- one line

abbrev pub refused : TextFault → Stage
refused f = stage.Refused (fault.Text f)

-- no line was refused
abbrev pub IsGoing : Stage → Type 0
IsGoing (stage.Refused f) = ⊥
IsGoing _ = Unit {0}

-- a right first line was read last, or a line of the form after one
abbrev pub is_inside : Stage → Bool
is_inside stage.Inside = true
is_inside _ = false

-- the stage after a line that follows those of the items in `xs`, and the items then
abbrev pub after_body_line : {H X : Type 0} → H × List X → Option (List ℕ) → Result X TextKind → Stage × (H × List X)
after_body_line xs (Some number) judged = (if bytes_eq number (decimal (length xs.1)) then stage.Ended else refused (fault_at (length xs.1) kind.Count), xs)
after_body_line xs None (Ok x) = (stage.Inside, (xs.0, xs.1 ++ x ∷ []))
after_body_line xs None (Err k) = (refused (fault_at (length xs.1) k), xs)

abbrev pub after_first_line : {H X : Type 0} → Option H → H × List X → Stage × (H × List X)
after_first_line None xs = (refused header_fault, xs)
after_first_line (Some head) xs = (stage.Inside, (head, xs.1))

abbrev pub after_line : {H X : Type 0} → (List ℕ → Option H) → (H → Judge X) → Stage → H × List X → List ℕ → Stage × (H × List X)
after_line first judge stage.Start xs line = after_first_line (first line) xs
after_line first judge stage.Inside xs line = after_body_line xs (end_number (parts 32 line)) (judge xs.0 xs.1 (parts 32 line))
after_line first judge stage.Ended xs line = (refused (fault_at (length xs.1 + 1) kind.After), xs)
after_line first judge (stage.Refused f) xs line = (stage.Refused f, xs)

-- the stage after a line, or memory ran out; the form holds the items
abbrev pub ReadsLine : {S P H X : Type 0} → (List ℕ → Option H) → (H → Judge X) → (S → P → H × List X → Type 0) → Stage → S → P → H × List X → List ℕ → Stage → Type 0
ReadsLine first judge holds old new past xs line result =
    let next = after_line first judge old xs line in
    ((result ≡ next.0) × holds new past next.1) ⊎ ((result ≡ stage.Refused fault.Memory) × holds new past xs)

-- ---- the bytes so far

-- what is read of a text whose lines from some place on are these
abbrev pub StageReads : {H X : Type 0} → (List ℕ → Option H) → (H → Judge X) → Stage → H × List X → List (List ℕ) → Result (H × List X) TextFault → Type 0
StageReads first judge stage.Start xs lines read = read ≡ framed_of first judge lines
StageReads first judge stage.Inside xs lines read = read ≡ with_head xs.0 (body_of (judge xs.0) xs.1 lines)
StageReads first judge stage.Ended xs lines read = read ≡ with_head xs.0 (unless (after_end (length xs.1) lines) xs.1)
StageReads first judge (stage.Refused f) xs lines read = FailsText f read

-- the items of such a text that are complete
abbrev pub stage_items : {H X : Type 0} → (List ℕ → Option H) → (H → Judge X) → Stage → H × List X → List (List ℕ) → List X
stage_items first judge stage.Start xs lines = complete_items first judge lines
stage_items first judge stage.Inside xs lines = body_items (judge xs.0) xs.1 lines
stage_items first judge stage.Ended xs lines = xs.1
stage_items first judge (stage.Refused f) xs lines = xs.1

-- how many line feeds came, where k items are complete
abbrev pub StageFed : Stage → ℕ → List ℕ → List ℕ → Type 0
StageFed stage.Start k line text = (k ≡ 0) × (line_feeds text ≡ 0)
StageFed stage.Inside k line text = line_feeds text ≡ k + 1
StageFed stage.Ended k line text = (line_feeds text ≡ k + 2) × (line ≡ [])
StageFed (stage.Refused (fault.Text f)) k line text = IsSettled text f
StageFed (stage.Refused fault.Memory) k line text = Unit {0}

-- the bytes so far have these complete items and this unfinished line, whatever follows
pub record IsStateOf {H X : Type 0} (first : List ℕ → Option H) (judge : H → Judge X) (at : Stage) (line : List ℕ) (xs : H × List X) (text : List ℕ) : Type 0 where
  pub clear : AllByRecursion (λ b. nat_eq b 10 ≡ false) line
  pub reads : (more : List ℕ) → StageReads first judge at xs (parts 10 (line ++ more)) (framed_of first judge (parts 10 (text ++ more)))
  pub items : (more : List ℕ) → complete_items first judge (parts 10 (text ++ more)) ≡ stage_items first judge at xs (parts 10 (line ++ more))
  pub fed : StageFed at (length xs.1) line text

-- whatever follows, this is the head of the text's first line
abbrev pub IsHead : {H : Type 0} → (List ℕ → Option H) → List ℕ → Option H → Type 0
IsHead first text head = (more : List ℕ) → head_of first (parts 10 (text ++ more)) ≡ head

abbrev pub head_if : {H : Type 0} → Bool → H → Option H
head_if true head = Some head
head_if false head = None

-- the first line was read right exactly where the flag is set, and then it has this head
abbrev pub HasOpened : {H : Type 0} → (List ℕ → Option H) → Stage → Bool → List ℕ → H → List ℕ → Type 0
HasOpened first stage.Start opened line head text = (opened ≡ false) × (text ≡ line)
HasOpened first stage.Inside opened line head text = (opened ≡ true) × IsHead first text (Some head)
HasOpened first stage.Ended opened line head text = (opened ≡ true) × IsHead first text (Some head)
HasOpened first (stage.Refused f) opened line head text = IsHead first text (head_if opened head)

-- the reader of lines and the form are as the text so far leaves them
pub record Knows {S P H X : Type 0} (first : List ℕ → Option H) (judge : H → Judge X) (holds : S → P → H × List X → Type 0) (lines : LineReader) (form : S) (past : P) (text : List ℕ) : Type 0 where
  pub found : H × List X
  pub state : IsStateOf first judge lines.stage lines.line.items found text
  pub head : HasOpened first lines.stage lines.opened lines.line.items found.0 text
  pub held : holds form past found

-- `old`, and maybe more, of what is complete later
pub record IsBetween {X : Type 0} (old xs new : List X) : Type 0 where
  pub part : List X
  pub rest : List X
  pub begins : xs ≡ old ++ part
  pub within : new ≡ xs ++ rest

-- memory ran out in a piece: a first part of what it completes was read
pub record IsCutOff {S P H X : Type 0} (first : List ℕ → Option H) (judge : H → Judge X) (holds : S → P → H × List X → Type 0) (lines : LineReader) (form : S) (past : P) (text piece : List ℕ) : Type 0 where
  pub found : H × List X
  pub held : holds form past found
  pub items : IsBetween (complete_items first judge (parts 10 text)) found.1 (complete_items first judge (parts 10 (text ++ piece)))
  pub opened : lines.opened ≡ true → head_of first (parts 10 (text ++ piece)) ≡ Some found.0
  pub closed : lines.opened ≡ false → head_of first (parts 10 text) ≡ None

-- what a piece leads to
abbrev pub Feeds : {S P H X : Type 0} → (List ℕ → Option H) → (H → Judge X) → (S → P → H × List X → Type 0) → LineReader → S → P → List ℕ → List ℕ → Result (Unit {0}) LogFault → Type 0
Feeds first judge holds lines form past text piece (Ok u) = Knows first judge holds lines form past (text ++ piece)
Feeds first judge holds lines form past text piece (Err (fault.Text f)) = Knows first judge holds lines form past (text ++ piece)
Feeds first judge holds lines form past text piece (Err fault.Memory) = IsCutOff first judge holds lines form past text piece

-- bytes after the last line feed are kept; after the right end line there may be none
abbrev pub Keeps : LineReader → LineReader → ℕ → List ℕ → Result (Unit {0}) LogFault → Type 0
Keeps old new k unended (Ok u) = (new.stage ≡ old.stage) × (new.line.items ≡ old.line.items ++ unended) × (old.stage ≡ stage.Ended → unended ≡ [])
Keeps old new k unended (Err (fault.Text f)) = (old.stage ≡ stage.Ended) × (0 < length unended) × (f ≡ fault_at (k + 1) kind.After) × (new.stage ≡ refused f) × (new.line.items ≡ old.line.items)
Keeps old new k unended (Err fault.Memory) = new.stage ≡ stage.Refused fault.Memory

-- ---- the end

-- what the end of the text leads to
abbrev pub Finishes : {S P H X : Type 0} → (List ℕ → Option H) → (H → Judge X) → (S → P → H × List X → Type 0) → S → P → List ℕ → Result (Unit {0}) LogFault → Type 0
Finishes {H = H} {X = X} first judge holds form past text (Ok u) =
    (xs : H × List X) × holds form past xs × (framed_of first judge (parts 10 text) ≡ Ok xs) × (complete_items first judge (parts 10 text) ≡ xs.1) × (head_of first (parts 10 text) ≡ Some xs.0)
Finishes first judge holds form past text (Err e) = FailsText e (framed_of first judge (parts 10 text))

-- the end of a text that may have lost its end: no line of it has a fault
pub record IsOpenEnd {S P H X : Type 0} (first : List ℕ → Option H) (judge : H → Judge X) (holds : S → P → H × List X → Type 0) (form : S) (past : P) (text : List ℕ) (ended : Bool) : Type 0 where
  pub found : H × List X
  pub held : holds form past found
  pub items : complete_items first judge (parts 10 text) ≡ found.1
  pub right : (f : TextFault) → IsShown first judge text f → ⊥
  pub end : MatchBool ended (framed_of first judge (parts 10 text) ≡ Ok found) (IsErr (framed_of first judge (parts 10 text)))

-- What the end of such a text leads to: only the faults that it shows count. The answer says whether the
-- right end line was there.
abbrev pub EndsOpen : {S P H X : Type 0} → (List ℕ → Option H) → (H → Judge X) → (S → P → H × List X → Type 0) → S → P → List ℕ → Result Bool LogFault → Type 0
EndsOpen first judge holds form past text (Ok ended) = IsOpenEnd first judge holds form past text ended
EndsOpen first judge holds form past text (Err (fault.Text f)) = IsShown first judge text f
EndsOpen first judge holds form past text (Err fault.Memory) = Unit {0}
