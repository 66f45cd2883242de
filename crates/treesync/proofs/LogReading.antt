-- A log that is read piece by piece: what was made of its commands, and the end of its text.
use Rattle.std.proofs.Common.{◌≡◌, ◌+◌, ◌-◌, ◌++◌, ◌<◌, ◌≤◌, ℕ, List, [], ◌∷◌, length, take, None, Some, Ok, Err, Option, Result, OnOk, sym, ap, subst, ◌∙◌, arith, length-append, unwrap_or}
use Rattle.std.proofs.Math.Seq.{take-append_seam}
use Rattle.std.proofs.lemmas.List.{take-append-le, take_all}
use Rattle.sync_path.specs.Paths.{parts}
use Rattle.sync_command.specs.Changes.{Change}
use Rattle.sync_command.specs.declared.values.Version.TheVariants.{One}
use Rattle.canon_set.specs.Logs.{IsBrokenAt, IsTaken}
use Rattle.canon_set.specs.Sums.{Sum, StandsFor}
use Rattle.log_text.specs.declared.faults.LogFault.{LogFault}
use Rattle.log_text.specs.declared.faults.LogFault.TheVariants as fault
use Rattle.log_text.specs.declared.faults.TextFault.{TextFault}
use Rattle.log_text.specs.declared.reader.LogReader.{LogReader}
use Rattle.log_text.specs.Logs.{log_of}
use Rattle.log_text.specs.LogPieces.{EndsLog, FeedsLog, HasRead, version_in, waiting_of}
use Rattle.log_text.specs.Reading.{FailsText}
use Rattle.log_text.proofs.CallerLemmas.{IsWholeLog, ended_log, log_of_version}
use Rattle.treesync.specs.Checks.{IsJudged}
use Rattle.treesync.specs.Files.{text_refusal}
use Rattle.treesync.specs.Logs.{HoldsLog, IsFed, IsLogFile, IsTotalOf, log_answer}
use Rattle.treesync.specs.declared.logs.LogFile.{LogFile}
use Rattle.treesync.specs.declared.refusal.Refusal.{Refusal}
use Rattle.treesync.specs.declared.refusal.Refusal.TheVariants.{Found}
use Rattle.treesync.specs.declared.refusal.Finding.TheVariants.{TooLarge}
use Rattle.treesync.proofs.FileReading.{if_less, if_not_less}

-- ---- the sum of a log, command by command

more_broken : (cs : List Change) (c : Change) (number : ℕ) → IsBrokenAt cs number → IsBrokenAt (cs ++ c ∷ []) number
more_broken cs c number (some, within, before, broken) = (
  some,
  omega (arith, within, length-append cs (c ∷ [])),
  subst IsTaken (sym (take-append-le (number - 1) cs (c ∷ []) (omega (arith, within)))) before,
  λ taken. broken (subst IsTaken (take-append-le number cs (c ∷ []) within) taken),
)

-- a log that was broken stays so
pub still_broken : (b : Option ℕ) (sum : Sum) (cs : List Change) (c : Change) (number : ℕ) → b ≡ Some number → IsTotalOf b sum cs → IsTotalOf b sum (cs ++ c ∷ [])
still_broken None sum cs c number e h = absurd (cc)
still_broken (Some k) sum cs c number e h = more_broken cs c k h

-- a command that was added
pub added : (b : Option ℕ) (old new : Sum) (cs : List Change) (c : Change) → b ≡ None → (StandsFor old cs → StandsFor new (cs ++ c ∷ [])) → IsTotalOf b old cs → IsTotalOf b new (cs ++ c ∷ [])
added None old new cs c e f h = f h
added (Some k) old new cs c e f h = absurd (cc)

newly_broken : (sum : Sum) (cs : List Change) (c : Change) (number : ℕ) → number ≡ sum.count + 1 → (IsTaken (cs ++ c ∷ []) → ⊥) → StandsFor sum cs → IsBrokenAt (cs ++ c ∷ []) number
newly_broken sum cs c number e f h =
    let size : number ≡ length cs + 1 = e ∙ ap (λ n. n + 1) h.count in
    let before : number - 1 ≡ length cs = omega (arith, size) in (
      omega (arith, size),
      omega (arith, size, length-append cs (c ∷ [])),
      subst IsTaken (sym (ap (λ n. take n (cs ++ c ∷ [])) before ∙ take-append_seam cs (c ∷ []))) h.taken,
      λ taken. f (subst IsTaken (take_all number (cs ++ c ∷ []) (omega (arith, size, length-append cs (c ∷ [])))) taken),
    )

-- a command with which no tree takes the log
pub broken_now : (b : Option ℕ) (sum new : Sum) (cs : List Change) (c : Change) (number : ℕ) → b ≡ None → number ≡ sum.count + 1 → (StandsFor sum cs → IsTaken (cs ++ c ∷ []) → ⊥) →
    IsTotalOf b sum cs → IsTotalOf (Some number) new (cs ++ c ∷ [])
broken_now None sum new cs c number e n f h = newly_broken sum cs c number n (f h) h
broken_now (Some k) sum new cs c number e n f h = absurd (cc)

-- ---- a piece

pub on_ok : {X E : Type 0} {P Q : Type 0} (r : Result X E) → (P → Q) → OnOk r P → OnOk r Q
on_ok (Ok x) f p = f p
on_ok (Err e) f p = tt

module _ {T : Type 0} (stands : T → List Change → Type 0) (into : T) where
  -- a piece was fed
  pub piece_fed : (old new : LogReader) (text piece : List ℕ) (k : HoldsLog stands old into text) → HasRead new (text ++ piece) k.taken → HoldsLog stands new into (text ++ piece)
  piece_fed old new text piece k h = record { taken = k.taken; read = h; commands = k.commands }

  -- and shows a fault
  pub fault_fed : (old new : LogReader) (text piece : List ℕ) (e : LogFault) (f : TextFault) (k : HoldsLog stands old into text) → e ≡ fault.Text f →
      FeedsLog new text k.taken piece (Err e) → HoldsLog stands new into (text ++ piece)
  fault_fed old new text piece e f k same h = piece_fed old new text piece k (subst (λ x. FeedsLog new text k.taken piece (Err x)) same h)

-- ---- the end of the text

-- the log of a text that ended
pub ended : {T : Type 0} (stands : T → List Change → Type 0) (reader : LogReader) (into : T) (text : List ℕ) (n : ℕ) (fed : IsFed stands reader into text) →
    EndsLog text fed.holds.taken (waiting_of reader) (Ok n) → IsWholeLog text fed.holds.taken n
ended stands reader into text n fed h = ended_log text fed.holds.taken (waiting_of reader) n fed.waiting h

module _ {T : Type 0} (stands : T → List Change → Type 0) (word most size : ℕ) (text : List ℕ) where
  pub fault_ended : (e : LogFault) → FailsText e (log_of (parts 10 text)) → IsJudged {X = LogFile T} (IsLogFile stands) (λ answer. answer ≡ log_answer most word size (log_of (parts 10 text))) (Err (text_refusal word e))
  fault_ended (fault.Text f) h = sym (ap (log_answer most word size) h)
  fault_ended fault.Memory h = tt

  pub too_many : (cs : List Change) (n : ℕ) → most < n → IsWholeLog text cs n → IsJudged {X = LogFile T} (IsLogFile stands) (λ answer. answer ≡ log_answer most word size (log_of (parts 10 text))) (Err (Found (TooLarge word)))
  too_many cs n past w = sym (ap (log_answer most word size) w.log ∙ if_less most (length cs) _ _ (omega (arith, past, w.count)))

  pub well_ended : (log : LogFile T) (cs : List Change) → log.count ≤ most → log.size ≡ size → log.version ≡ unwrap_or (version_in text) One → stands log.commands cs → IsWholeLog text cs log.count →
      IsJudged (IsLogFile stands) (λ answer. answer ≡ log_answer most word size (log_of (parts 10 text))) (Ok log)
  well_ended log cs within same v s w = (
    record { size = size; version = w.version; commands = cs },
    record {
      size = same;
      version = v ∙ ap (λ o. unwrap_or o One) w.first;
      count = w.count;
      commands = s;
      printable = log_of_version text w.version cs w.log;
    },
    sym (ap (log_answer most word size) w.log ∙ if_not_less most (length cs) _ _ (omega (arith, within, w.count))),
  )

-- the end of the text is judged by the bytes that were read
pub judged_same : {T : Type 0} (stands : T → List Change → Type 0) (word most size : ℕ) (text a : List ℕ) (result : Result (LogFile T) Refusal) → text ≡ a → length text ≡ size →
    IsJudged (IsLogFile stands) (λ answer. answer ≡ log_answer most word size (log_of (parts 10 text))) result →
    IsJudged (IsLogFile stands) (λ answer. answer ≡ log_answer most word (length a) (log_of (parts 10 a))) result
judged_same stands word most size text a result e same j =
    subst (λ b. IsJudged (IsLogFile stands) (λ answer. answer ≡ log_answer most word (length b) (log_of (parts 10 b))) result) e
    (subst (λ n. IsJudged (IsLogFile stands) (λ answer. answer ≡ log_answer most word n (log_of (parts 10 text))) result) (sym same) j)
