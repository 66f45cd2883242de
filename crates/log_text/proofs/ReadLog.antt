-- A log in pieces.
use Rattle.std.proofs.Common.{Bool, true, false, refl, ◌≡◌, ℕ, List, [], ◌∷◌, ◌++◌, length, sym, ap, ◌∙◌, Some, None, Option, Ok, Err, Result, MatchOption, MatchResult, append_assoc, append-nil}
use Rattle.sync_command.specs.declared.values.Version.{Version}
use Rattle.sync_command.specs.declared.values.Version.TheVariants.{One}
use Rattle.sync_command.specs.Changes.{Change}
use Rattle.log_text.specs.declared.faults.LogFault.{LogFault}
use Rattle.log_text.specs.declared.faults.LogFault.TheVariants as fault
use Rattle.log_text.specs.declared.pieces.Stage.TheVariants as stage
use Rattle.log_text.specs.declared.pieces.LineReader.{LineReader}
use Rattle.log_text.specs.declared.queue.CommandQueue.{CommandQueue}
use Rattle.log_text.specs.Versions.{version_of}
use Rattle.log_text.specs.Logs.{log_of, log_first, judge_change}
use Rattle.log_text.specs.Pieces.{Knows, Feeds, Finishes, IsGoing, head_if}
use Rattle.log_text.specs.Queue.{IsQueue}
use Rattle.log_text.specs.LogPieces.{IsExactLog, EndsLog, complete, version_in}
use Rattle.log_text.proofs.States.{complete_now, head_now}
use Rattle.log_text.proofs.Known.{begins, exact}

abbrev KnowsLog : LineReader → CommandQueue → List Change → List ℕ → Type 0
KnowsLog lines queue taken text = Knows (version_of log_first) judge_change IsQueue lines queue taken text

pub exact_log : (lines : LineReader) (queue : CommandQueue) (taken : List Change) (text piece : List ℕ) (r : Result (Unit {0}) LogFault)
    → MatchResult r (λ _. IsGoing lines.stage) (λ f. lines.stage ≡ stage.Refused f) → Feeds (version_of log_first) judge_change IsQueue lines queue taken text piece r → IsExactLog (text ++ piece) r
unfolding log_of
exact_log lines queue taken text piece (Ok u) at k = exact (version_of log_first) judge_change IsQueue lines queue taken text piece (Ok u) at k
exact_log lines queue taken text piece (Err (fault.Text f)) at k = exact (version_of log_first) judge_change IsQueue lines queue taken text piece (Err (fault.Text f)) at k
exact_log lines queue taken text piece (Err fault.Memory) at k = tt

pub taken_next : (lines : LineReader) (queue next : CommandQueue) (taken : List Change) (text : List ℕ) (o : Option Change) → next.version ≡ queue.version → next.count ≡ queue.count
    → MatchOption o ((queue.waiting.items ≡ []) × (next.waiting.items ≡ [])) (λ c. queue.waiting.items ≡ c ∷ next.waiting.items) → KnowsLog lines queue taken text
    → MatchOption o (KnowsLog lines next taken text × (taken ≡ complete text)) (λ c. KnowsLog lines next (taken ++ c ∷ []) text)
taken_next lines queue next taken text None version count (before, after) k = (
  record {
    found = k.found;
    state = k.state;
    head = k.head;
    held = record { version = version ∙ k.held.version; count = count ∙ k.held.count; waiting = k.held.waiting ∙ ap (λ w. taken ++ w) (before ∙ sym after) };
  },
  sym (complete_now (version_of log_first) judge_change lines.stage lines.line.items k.found text k.state ∙ k.held.waiting ∙ ap (λ w. taken ++ w) before ∙ append-nil taken),
)
taken_next lines queue next taken text (Some c) version count e k = record {
  found = k.found;
  state = k.state;
  head = k.head;
  held = record { version = version ∙ k.held.version; count = count ∙ k.held.count; waiting = k.held.waiting ∙ ap (λ w. taken ++ w) e ∙ sym (append_assoc taken (c ∷ []) next.waiting.items) };
}

pub new_log : (lines : LineReader) (queue : CommandQueue) → lines.stage ≡ stage.Start → lines.opened ≡ false → lines.line.items ≡ [] → queue.version ≡ One → queue.count ≡ 0 → queue.waiting.items ≡ []
    → KnowsLog lines queue [] []
new_log lines queue at opened line version count waiting =
    begins (version_of log_first) judge_change IsQueue lines queue [] at opened line One (record { version = version; count = count; waiting = sym waiting })

pub some_version : (opened : Bool) (v w : Version) → opened ≡ true → v ≡ w → Some v ≡ head_if opened w
some_version true v w e same = ap (λ x. Some x) same
some_version false v w e same = cc

pub no_version : (opened : Bool) (w : Version) → opened ≡ false → None ≡ head_if opened w
no_version true w e = cc
no_version false w e = refl

pub version_now : (lines : LineReader) (queue : CommandQueue) (taken : List Change) (text : List ℕ) → KnowsLog lines queue taken text → head_if lines.opened queue.version ≡ version_in text
version_now lines queue taken text k = ap (head_if lines.opened) k.held.version ∙ head_now (version_of log_first) lines.stage lines.opened lines.line.items k.found.0 text k.state.clear k.head

pub ends_right : (queue : CommandQueue) (taken : List Change) (text : List ℕ) (n : ℕ) → n ≡ queue.count → Finishes (version_of log_first) judge_change IsQueue queue taken text (Ok tt)
    → EndsLog text taken queue.waiting.items (Ok n)
unfolding log_of
ends_right queue taken text n count (xs, held, read, items, head) = record {
  version = xs.0;
  log = read ∙ ap (λ ys. Ok (xs.0, ys)) held.waiting;
  first = head;
  complete = items ∙ held.waiting;
  count = count ∙ held.count ∙ ap length held.waiting;
}

pub ends_wrong : (queue : CommandQueue) (taken waiting : List Change) (text : List ℕ) (f : LogFault) → Finishes (version_of log_first) judge_change IsQueue queue taken text (Err f) → EndsLog text taken waiting (Err f)
unfolding log_of
ends_wrong queue taken waiting text f h = h
