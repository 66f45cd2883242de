-- Texts in pieces: what grows with the text, and what a caller that reads a log in pieces needs.
use Rattle.std.proofs.Common.{Bool, true, false, ◌≡◌, ℕ, ◌<◌, List, [], ◌∷◌, ◌++◌, length, sym, refl, ap, ◌∙◌, subst, arith, nat_eq, ⊎_elim, Some, None, Option, Ok, Err, Result, append_assoc, append-nil}
use Rattle.std.proofs.lemmas.Bool.{cases_Bool}
use Rattle.std.proofs.lemmas.Bool.Decides.{Decides-eqb}
use Rattle.sync_path.specs.Paths.{parts}
use Rattle.sync_command.specs.declared.values.Version.{Version}
use Rattle.sync_command.specs.declared.values.Version.TheVariants.{One}
use Rattle.sync_command.specs.Changes.{Change}
use Rattle.log_text.specs.declared.faults.TextFault.{TextFault}
use Rattle.log_text.specs.declared.faults.TextKind.{TextKind}
use Rattle.log_text.specs.declared.faults.LogFault.{LogFault}
use Rattle.log_text.specs.declared.faults.LogFault.TheVariants as fault
use Rattle.log_text.specs.declared.pieces.Stage.{Stage}
use Rattle.log_text.specs.declared.pieces.Stage.TheVariants as stage
use Rattle.log_text.specs.declared.reader.LogReader.{LogReader}
use Rattle.log_text.specs.Frame.{Judge, at_line, body_of, end_number, end_fault, framed_of, with_head, items_at, body_items, complete_items, items_after_first}
use Rattle.log_text.specs.Versions.{version_of}
use Rattle.log_text.specs.Logs.{log_of, log_first, judge_change}
use Rattle.log_text.specs.Reading.{FailsText}
use Rattle.log_text.specs.Pieces.{IsStateOf, head_if}
use Rattle.log_text.specs.LogPieces.{HasRead, IsExactLog, EndsLog, waiting_of, known_version, complete, version_in}
use Rattle.log_text.proofs.States.{state_on, state_kept, state_after_end, complete_now, complete_later, head_later}
use Rattle.log_text.proofs.FrameLaws.{head_read, head_ok, after_first_ok, from_unless}

-- ---- a text byte by byte

-- some state is that of the text
record HasState {H X : Type 0} (first : List ℕ → Option H) (judge : H → Judge X) (text : List ℕ) : Type 0 where
  at : Stage
  line : List ℕ
  found : H × List X
  state : IsStateOf first judge at line found text

byte_kept : {H X : Type 0} (first : List ℕ → Option H) (judge : H → Judge X) (at : Stage) (line : List ℕ) (xs : H × List X) (text : List ℕ) (b : ℕ) → nat_eq b 10 ≡ false → IsStateOf first judge at line xs text
    → HasState first judge (text ++ b ∷ [])
byte_kept first judge stage.Start line xs text b f h = record { at = stage.Start; line = line ++ b ∷ []; found = xs; state = state_kept first judge stage.Start line (b ∷ []) xs text (f, tt) (λ e. cc) h }
byte_kept first judge stage.Inside line xs text b f h = record { at = stage.Inside; line = line ++ b ∷ []; found = xs; state = state_kept first judge stage.Inside line (b ∷ []) xs text (f, tt) (λ e. cc) h }
byte_kept first judge stage.Ended line xs text b f h =
    let some : 0 < length (b ∷ []) = omega arith in
    let state = state_after_end first judge line (b ∷ []) xs text some h in
    record { at = _; line = line; found = xs; state = state }
byte_kept first judge (stage.Refused g) line xs text b f h =
    record { at = stage.Refused g; line = line ++ b ∷ []; found = xs; state = state_kept first judge (stage.Refused g) line (b ∷ []) xs text (f, tt) (λ e. cc) h }

byte_on : {H X : Type 0} (first : List ℕ → Option H) (judge : H → Judge X) (text : List ℕ) (b : ℕ) → HasState first judge text → HasState first judge (text ++ b ∷ [])
byte_on first judge text b h =
    ⊎_elim
    (λ (t : nat_eq b 10 ≡ true).
    subst (λ x. HasState first judge (text ++ x ∷ [])) (sym ((Decides-eqb b 10).0 t))
    (record { at = _; line = []; found = _; state = state_on first judge h.at h.line [] h.found text tt h.state }))
    (λ (f : nat_eq b 10 ≡ false). byte_kept first judge h.at h.line h.found text b f h.state)
    (cases_Bool (nat_eq b 10))

bytes_on : {H X : Type 0} (first : List ℕ → Option H) (judge : H → Judge X) (text more : List ℕ) → HasState first judge text → HasState first judge (text ++ more)
bytes_on first judge text [] h = subst (HasState first judge) (sym (append-nil text)) h
bytes_on first judge text (b ∷ more) h = subst (HasState first judge) (append_assoc text (b ∷ []) more) (bytes_on first judge (text ++ b ∷ []) more (byte_on first judge text b h))

has_state : {H X : Type 0} (first : List ℕ → Option H) (judge : H → Judge X) (head : H) (text : List ℕ) → HasState first judge text
has_state {H = H} {X = X} first judge head text =
    let none : H × List X = (head, []) in
    bytes_on first judge [] text (record { at = stage.Start; line = []; found = none; state = record { clear = tt; reads = λ more. refl; items = λ more. refl; fed = (refl, refl) } })

-- what is complete stays, whatever follows
pub complete_grows : (text more : List ℕ) → (rest : List Change) × (complete (text ++ more) ≡ complete text ++ rest)
complete_grows text more =
    let h = has_state (version_of log_first) judge_change One text in
    let now = complete_now (version_of log_first) judge_change h.at h.line h.found text h.state in
    let later = complete_later (version_of log_first) judge_change h.at h.line h.found text more h.state in
    (later.0, later.1 ∙ ap (λ xs. xs ++ later.0) (sym now))

-- ---- a text that is read

line_complete : {X : Type 0} (xs ys : List X) (o : Option (List ℕ)) (j : Result X TextKind) (after : List (List ℕ)) (read : X → Result (List X) TextFault) (items : X → List X)
    → ((x : X) → read x ≡ Ok ys → items x ≡ ys) → at_line xs o j after read ≡ Ok ys → items_at xs o j items ≡ ys
line_complete xs ys (Some number) j after read items more e = sym (from_unless (end_fault (length xs) number after) xs ys e).1
line_complete xs ys None (Ok x) after read items more e = more x e
line_complete xs ys None (Err f) after read items more e = cc

body_complete : {X : Type 0} (judge : Judge X) (xs ys : List X) (lines : List (List ℕ)) → body_of judge xs lines ≡ Ok ys → body_items judge xs lines ≡ ys
unfolding body_of body_items
body_complete judge xs ys [] e = cc
body_complete judge xs ys (line ∷ []) e = cc
body_complete judge xs ys (line ∷ next ∷ lines) e =
    line_complete xs ys (end_number (parts 32 line)) (judge xs (parts 32 line)) (next ∷ lines) (λ x. body_of judge (xs ++ x ∷ []) (next ∷ lines)) (λ x. body_items judge (xs ++ x ∷ []) (next ∷ lines))
    (λ x h. body_complete judge (xs ++ x ∷ []) ys (next ∷ lines) h) e

framed_complete : {H X : Type 0} (first : List ℕ → Option H) (judge : H → Judge X) (lines : List (List ℕ)) (r : H × List X) → framed_of first judge lines ≡ Ok r → complete_items first judge lines ≡ r.1
unfolding framed_of complete_items
framed_complete first judge [] r e = cc
framed_complete first judge (line ∷ []) r e = cc
framed_complete first judge (line ∷ next ∷ lines) r e =
    let from = after_first_ok (first line) (λ h. with_head h (body_of (judge h) [] (next ∷ lines))) r e in
    let is = head_ok from.0 r.0 (body_of (judge from.0) [] (next ∷ lines)) r.1 from.2 in
    ap (λ o. items_after_first o (λ h. body_items (judge h) [] (next ∷ lines))) from.1 ∙ body_complete (judge from.0) [] r.1 (next ∷ lines) is.1

-- the commands of a log are complete in its text, and its version is that of the first line
pub log_complete : (text : List ℕ) (version : Version) (cs : List Change) → log_of (parts 10 text) ≡ Ok (version, cs) → (complete text ≡ cs) × (version_in text ≡ Some version)
unfolding log_of
log_complete text version cs e = (
  framed_complete (version_of log_first) judge_change (parts 10 text) (version, cs) e,
  head_read judge_change (version_of log_first) (parts 10 text) (version, cs) e,
)

-- ---- a reader

-- where nothing waits, all that is complete was taken
pub taken_all : (reader : LogReader) (text : List ℕ) (taken : List Change) → HasRead reader text taken → waiting_of reader ≡ [] → taken ≡ complete text
taken_all reader text taken k none =
    sym (complete_now (version_of log_first) judge_change reader.lines.stage reader.lines.line.items k.found text k.state ∙ k.held.waiting ∙ ap (λ w. taken ++ w) none ∙ append-nil taken)

-- what was taken is a prefix of the commands of every log that the text begins
pub taken_of_log : (reader : LogReader) (text more : List ℕ) (taken cs : List Change) (version : Version) → HasRead reader text taken → log_of (parts 10 (text ++ more)) ≡ Ok (version, cs) → (rest : List Change) × (cs ≡ taken ++ rest)
taken_of_log reader text more taken cs version k e =
    let later = complete_later (version_of log_first) judge_change reader.lines.stage reader.lines.line.items k.found text more k.state in
    let whole = sym (log_complete (text ++ more) version cs e).0 ∙ later.1 ∙ ap (λ xs. xs ++ later.0) k.held.waiting in
    (waiting_of reader ++ later.0, whole ∙ append_assoc taken (waiting_of reader) later.0)

opened_from : (opened : Bool) (v w : Version) → head_if opened v ≡ Some w → (opened ≡ true) × (v ≡ w)
opened_from true v w e = (refl, cc)
opened_from false v w e = cc

-- a version that is known is that of every continuation
pub version_stays : (reader : LogReader) (text more : List ℕ) (taken : List Change) (version : Version) → HasRead reader text taken → known_version reader ≡ Some version → version_in (text ++ more) ≡ Some version
version_stays reader text more taken version k e =
    let from = opened_from reader.lines.opened reader.queue.version version e in
    head_later (version_of log_first) reader.lines.stage reader.lines.opened reader.lines.line.items k.found.0 text k.head from.0 more ∙ ap (λ v. Some v) (sym k.held.version ∙ from.1)

-- a fault that `feed` answers is that of the whole text
pub fault_of_whole : (text piece later whole : List ℕ) (f : LogFault) → (text ++ piece) ++ later ≡ whole → IsExactLog (text ++ piece) (Err f) → FailsText f (log_of (parts 10 whole))
fault_of_whole text piece later whole (fault.Text f) e h = ap (λ t. log_of (parts 10 t)) (sym e) ∙ h.1 later
fault_of_whole text piece later whole fault.Memory e h = tt

-- a log that ended, where nothing waits
pub record IsWholeLog (text : List ℕ) (taken : List Change) (n : ℕ) : Type 0 where
  pub version : Version
  pub log : log_of (parts 10 text) ≡ Ok (version, taken)
  pub first : version_in text ≡ Some version
  pub count : n ≡ length taken

pub ended_log : (text : List ℕ) (taken waiting : List Change) (n : ℕ) → waiting ≡ [] → EndsLog text taken waiting (Ok n) → IsWholeLog text taken n
ended_log text taken waiting n none h =
    let all : taken ++ waiting ≡ taken = ap (λ w. taken ++ w) none ∙ append-nil taken in
    record {
      version = h.version;
      log = h.log ∙ ap (λ cs. Ok (h.version, cs)) all;
      first = h.first;
      count = h.count ∙ ap length all;
    }
