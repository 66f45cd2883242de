-- Outputs: what stands for them, and how they are printed.
use Rattle.std.proofs.Common.{◌≡◌, ◌⊎◌, ◌≤◌, false, ℕ, List, [], ◌∷◌, Option, None, Some, Result, Ok, Err, Vec, Global, inl, inr, refl, sym, subst, arith}
use Rattle.refluent.specs.Joints.{Joined}
use Rattle.sync_command.specs.Changes.{Change}
use Rattle.sync_port.specs.States.{FaultCounted}
use Rattle.sync_port.specs.Ports.{FileContents, FilesState, Names, SinkState}
use Rattle.treesync.specs.Answering.{StandsForOutput, of_explained, of_joint, of_text}
use Rattle.treesync.specs.Checks.{Answers, Causes, Check, FilesCounted, HasItems, IsAllowed, IsJudged, Judged, Limits}
use Rattle.treesync.specs.Conflicts.{ShowsClashes}
use Rattle.treesync.specs.Ends.{EndsWith}
use Rattle.treesync.specs.Explain.{ShowsReasons}
use Rattle.treesync.specs.Outputs.{AsText, ClashLines, Output, ReasonLines, WholeText, status_in}
use Rattle.treesync.specs.declared.answer.Answer.{Answer}
use Rattle.treesync.specs.declared.refusal.Refusal.{Refusal}
use Rattle.treesync.proofs.CheckLemmas.{alike_refused, judged_alone, then_refused}
use Rattle.treesync.proofs.HeldLogs.{ok_is, ok_no_err}

-- ---- what stands for an output

pub text_allowed : (P : Check (List ℕ)) (counted : Causes) (known : Option FileContents) (text : List ℕ) → IsAllowed P known counted (Ok text) → IsAllowed (AsText P) known counted (Ok (WholeText text))
text_allowed P counted None text h = tt
text_allowed P counted (Some m) text h = inr (text, h, refl)

text_answers : (P : Check (List ℕ)) (limits : Limits) (before now : FilesState) (found : Result (Vec ℕ Global) Refusal) → Answers HasItems P limits before now found → Answers StandsForOutput (AsText P) limits before now (of_text found)
text_answers P limits before now (Ok text) a = record {
  later = a.later;
  quiet = a.quiet;
  reads = a.reads;
  allowed = (
    WholeText text.items,
    refl,
    text_allowed P (FilesCounted before now) before.contents text.items (subst (λ t. IsAllowed P before.contents (FilesCounted before now) (Ok t)) (sym a.allowed.1) a.allowed.2),
  );
  job = tt;
}
text_answers P limits before now (Err r) a = then_refused HasItems StandsForOutput P (λ text. Judged (λ answer. answer ≡ Ok (WholeText text))) limits before now r a

-- the answer of a command that makes its text whole
pub answers_text : (P : Check (List ℕ)) (limits : Limits) (before now : FilesState) (found : Result (Vec ℕ Global) Refusal) (result : Result Answer Refusal) → result ≡ of_text found → Answers HasItems P limits before now found →
    Answers StandsForOutput (AsText P) limits before now result
answers_text P limits before now found result e a = subst (Answers StandsForOutput (AsText P) limits before now) (sym e) (text_answers P limits before now found a)

joint_answers : (P : Check Output) (limits : Limits) (before now : FilesState) (found : Result Joined Refusal) → Answers ShowsClashes P limits before now found → Answers StandsForOutput P limits before now (of_joint found)
joint_answers P limits before now (Ok joint) a = record {
  later = a.later;
  quiet = a.quiet;
  reads = a.reads;
  allowed = (a.allowed.0, sym a.allowed.1, a.allowed.2);
  job = tt;
}
joint_answers P limits before now (Err r) a = alike_refused ShowsClashes StandsForOutput P limits before now r a

-- the answer of a command that lists clashes
pub answers_joint : (P : Check Output) (limits : Limits) (before now : FilesState) (found : Result Joined Refusal) (result : Result Answer Refusal) → result ≡ of_joint found → Answers ShowsClashes P limits before now found →
    Answers StandsForOutput P limits before now result
answers_joint P limits before now found result e a = subst (Answers StandsForOutput P limits before now) (sym e) (joint_answers P limits before now found a)

explained_answers : (P : Check Output) (limits : Limits) (before now : FilesState) (found : Result (Joined × List Change) Refusal) → Answers ShowsReasons P limits before now found → Answers StandsForOutput P limits before now (of_explained found)
explained_answers P limits before now (Ok explained) a = record {
  later = a.later;
  quiet = a.quiet;
  reads = a.reads;
  allowed = (a.allowed.0, sym a.allowed.1, a.allowed.2);
  job = tt;
}
explained_answers P limits before now (Err r) a = alike_refused ShowsReasons StandsForOutput P limits before now r a

-- the answer of a command that lists reasons
pub answers_explained : (P : Check Output) (limits : Limits) (before now : FilesState) (found : Result (Joined × List Change) Refusal) (result : Result Answer Refusal) → result ≡ of_explained found → Answers ShowsReasons P limits before now found →
    Answers StandsForOutput P limits before now result
answers_explained P limits before now found result e a = subst (Answers StandsForOutput P limits before now) (sym e) (explained_answers P limits before now found a)

-- the answer of a command that opens no file
pub answers_alone : (Q : Result (List ℕ) Refusal → Type 0) (state : FilesState) (found : Result (Vec ℕ Global) Refusal) (result : Result Answer Refusal) → result ≡ of_text found → IsJudged HasItems Q found →
    Answers StandsForOutput (AsText (Judged Q)) [] state state result
answers_alone Q state found result e q = answers_text (Judged Q) [] state state found result e (judged_alone HasItems Q state found q)

-- the text of an output that is one
pub as_text : (P : Check (List ℕ)) (held : Names) (output : Output) → AsText P held false (Ok output) → (text : List ℕ) × P held false (Ok text) × (output ≡ WholeText text)
as_text P held output (inl h) = absurd (ok_no_err h.2)
as_text P held output (inr h) = (h.0, h.1, ok_is h.2)

-- ---- statuses

pub low_status : (output : Output) → status_in output ≤ 1
low_status (WholeText text) = omega arith
low_status (ReasonLines lines) = omega arith
low_status (ClashLines []) = omega arith
low_status (ClashLines (line ∷ lines)) = omega arith

-- what is printed ends with its own status, with 4, or with 16
abbrev pub Three : Output → ℕ → SinkState → SinkState → Type 0
Three output status before now =
    ((status ≡ status_in output) × (now.faults ≡ before.faults)) ⊎ (((status ≡ 4) × FaultCounted before now) ⊎ ((status ≡ 16) × (now.faults ≡ before.faults)))

pub three : (output : Output) (status : ℕ) (before now : SinkState) → EndsWith output status before now → Three output status before now
three (WholeText text) status before now (inl h) = inl h
three (WholeText text) status before now (inr h) = inr (inl h)
three (ClashLines lines) status before now (inl (inl h)) = inl h
three (ClashLines lines) status before now (inl (inr h)) = inr (inl h)
three (ClashLines lines) status before now (inr h) = inr (inr h)
three (ReasonLines lines) status before now (inl (inl h)) = inl h
three (ReasonLines lines) status before now (inl (inr h)) = inr (inl h)
three (ReasonLines lines) status before now (inr h) = inr (inr h)

-- with a status of a whole output
whole_of : (output : Output) (status : ℕ) (before now : SinkState) → status ≤ 1 → Three output status before now → (status ≡ status_in output) × (now.faults ≡ before.faults)
whole_of output status before now low (inl h) = h
whole_of output status before now low (inr (inl h)) = absurd (omega (arith, h.0))
whole_of output status before now low (inr (inr h)) = absurd (omega (arith, h.0))

pub whole_status : (output : Output) (status : ℕ) (before now : SinkState) → status ≤ 1 → EndsWith output status before now → (status ≡ status_in output) × (now.faults ≡ before.faults)
whole_status output status before now low h = whole_of output status before now low (three output status before now h)
