-- A log that may have lost its end.
use Rattle.std.proofs.Common.{◌≡◌, ℕ, ◌+◌, ◌<◌, suc, Bool, true, false, cond, nat_eq, nat_lt, List, [], ◌∷◌, ◌++◌, length, take, get_or, sym, refl, ap, ◌∙◌, arith, Ok, Err, unwrap_or, IsErr, MatchBool}
use Rattle.std.proofs.Math.Seq.{take-suc}
use Rattle.std.proofs.lemmas.Bool.Decides.{nat_tests}
use Rattle.log_text.specs.Pieces.{line_feeds, Knows, Feeds, EndsOpen, head_if}
use Rattle.log_text.specs.OpenLogs.{ended_part, IsOpenLog, FailsOpenLog}
use Rattle.sync_path.specs.Paths.{parts}
use Rattle.sync_command.specs.declared.values.Version.{Version}
use Rattle.sync_command.specs.declared.values.Version.TheVariants.{One}
use Rattle.sync_command.specs.Changes.{Change}
use Rattle.log_text.specs.declared.faults.LogFault.{LogFault}
use Rattle.log_text.specs.declared.faults.LogFault.TheVariants as fault
use Rattle.log_text.specs.declared.pieces.Stage.TheVariants as stage
use Rattle.log_text.specs.declared.pieces.LineReader.{LineReader}
use Rattle.log_text.specs.declared.commands.CommandList.{CommandList}
use Rattle.log_text.specs.Versions.{version_of}
use Rattle.log_text.specs.Logs.{log_of, log_first, judge_change}
use Rattle.log_text.specs.LogPieces.{version_in}
use Rattle.log_text.specs.CommandLists.{IsCommandList}
use Rattle.log_text.proofs.States.{line_feeds-append, head_now}
use Rattle.log_text.proofs.Known.{begins, exact}
use Rattle.log_text.proofs.FrameLaws.{head_read}

-- ---- the bytes up to the last line feed

ended_without : (xs : List ℕ) (b : ℕ) → nat_eq b 10 ≡ false → ended_part (xs ++ b ∷ []) ≡ ended_part xs
unfolding ended_part
ended_without [] b f = rw f refl
ended_without (x ∷ xs) b f =
    let none : line_feeds (b ∷ []) ≡ 0 = rw f refl in
    let same : line_feeds (x ∷ (xs ++ b ∷ [])) ≡ line_feeds (x ∷ xs) = line_feeds-append (x ∷ xs) (b ∷ []) ∙ (ap (λ n. line_feeds (x ∷ xs) + n) none ∙ omega arith) in
    (λ i. cond (nat_lt 0 (same i)) (x ∷ ended_without xs b f i) [])

ended_whole : (xs : List ℕ) → ended_part (xs ++ 10 ∷ []) ≡ xs ++ 10 ∷ []
unfolding ended_part
ended_whole [] = refl
ended_whole (x ∷ xs) =
    let more = line_feeds-append (x ∷ xs) (10 ∷ []) in
    let some : nat_lt 0 (line_feeds (x ∷ (xs ++ 10 ∷ []))) ≡ true = grind (arith, nat_tests) in
    ap (λ b. cond b (x ∷ ended_part (xs ++ 10 ∷ [])) []) some ∙ ap (λ l. x ∷ l) (ended_whole xs)

pub last_ended : (xs : List ℕ) (i : ℕ) → i < length xs → get_or xs i 0 ≡ 10 → ended_part (take (i + 1) xs) ≡ take (i + 1) xs
last_ended xs i low e =
    let next : i + 1 ≡ suc i = omega arith in
    let cut : take (i + 1) xs ≡ take i xs ++ 10 ∷ [] = ap (λ n. take n xs) next ∙ take-suc xs i 0 low ∙ ap (λ b. take i xs ++ b ∷ []) e in
    ap ended_part cut ∙ ended_whole (take i xs) ∙ sym cut

pub last_dropped : (xs : List ℕ) (i : ℕ) → i < length xs → nat_eq (get_or xs i 0) 10 ≡ false → ended_part (take (i + 1) xs) ≡ ended_part (take i xs)
last_dropped xs i low f =
    let next : i + 1 ≡ suc i = omega arith in
    ap (λ n. ended_part (take n xs)) next ∙ ap ended_part (take-suc xs i 0 low) ∙ ended_without (take i xs) (get_or xs i 0) f

pub nothing_ended : (xs : List ℕ) (i : ℕ) → i ≡ 0 → ended_part (take i xs) ≡ []
unfolding ended_part
nothing_ended xs i e = ap (λ n. ended_part (take n xs)) e

-- ---- the reading

abbrev KnowsList : LineReader → CommandList → List ℕ → Type 0
KnowsList lines form text = Knows (version_of log_first) judge_change IsCommandList lines form tt text

pub new_list : (lines : LineReader) (form : CommandList) → lines.stage ≡ stage.Start → lines.opened ≡ false → lines.line.items ≡ [] → form.version ≡ One → form.commands.items ≡ [] → KnowsList lines form []
new_list lines form at opened line version commands = begins (version_of log_first) judge_change IsCommandList lines form tt at opened line One (record { version = version; commands = commands })

-- a line has a fault
pub open_refused : (lines : LineReader) (form : CommandList) (text : List ℕ) (f : LogFault) → lines.stage ≡ stage.Refused f → Feeds (version_of log_first) judge_change IsCommandList lines form tt [] text (Err f) → FailsOpenLog text f
unfolding log_of
open_refused lines form text (fault.Text f) at k = (exact (version_of log_first) judge_change IsCommandList lines form tt [] text (Err (fault.Text f)) at k).0
open_refused lines form text fault.Memory at k = tt

pub open_fails : (form : CommandList) (text : List ℕ) (f : LogFault) → EndsOpen (version_of log_first) judge_change IsCommandList form tt text (Err f) → FailsOpenLog text f
unfolding log_of
open_fails form text (fault.Text f) h = h
open_fails form text fault.Memory h = tt

end_is : (ended : Bool) (text : List ℕ) (found : Version × List Change) (version : Version) (cs : List Change) → version ≡ unwrap_or (version_in text) One → cs ≡ found.1
    → MatchBool ended (log_of (parts 10 text) ≡ Ok found) (IsErr (log_of (parts 10 text))) → MatchBool ended (log_of (parts 10 text) ≡ Ok (version, cs)) (IsErr (log_of (parts 10 text)))
unfolding log_of
end_is true text found version cs v c h =
    let same : found.0 ≡ version = sym (v ∙ ap (λ o. unwrap_or o One) (head_read judge_change (version_of log_first) (parts 10 text) found h)) in
    h ∙ (λ i. Ok (same i, sym c i))
end_is false text found version cs v c h = h

pub open_ends : (lines : LineReader) (form : CommandList) (text : List ℕ) (ended : Bool) (version : Version) (cs : List Change) → KnowsList lines form text → EndsOpen (version_of log_first) judge_change IsCommandList form tt text (Ok ended)
    → version ≡ unwrap_or (head_if lines.opened form.version) One → cs ≡ form.commands.items → IsOpenLog text version cs ended
unfolding log_of
open_ends lines form text ended version cs k e v c =
    let first : head_if lines.opened form.version ≡ version_in text =
    ap (head_if lines.opened) k.held.version ∙ head_now (version_of log_first) lines.stage lines.opened lines.line.items k.found.0 text k.state.clear k.head in
    let is_first = v ∙ ap (λ o. unwrap_or o One) first in
    record {
      first = is_first;
      complete_commands = e.items ∙ sym e.held.commands ∙ sym c;
      right = e.right;
      end = end_is ended text e.found version cs is_first (c ∙ e.held.commands) e.end;
    }
