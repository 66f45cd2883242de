-- How a job ends: what `out` and `err` gain, and the status.
use Rattle.std.specs.Prelude.{◌≡◌, ◌⊎◌, ◌==◌, ◌≤◌, ◌++◌, [], List, ℕ, Ok, Err, codes, length, take, if◌then◌else◌}
use Rattle.std.specs.declared.result.Result.{Result}
use Rattle.sync_port.specs.States.{FaultCounted, IfKnown}
use Rattle.sync_port.specs.Ports.{SinkContents, SinkFaults, SinkState}
use Rattle.sync_port.specs.Sending.{Sends}
use Rattle.sync_port.specs.declared.faults.SinkFailed.{SinkFailed}
use Rattle.treesync.specs.Messages.{status_of, message_of, what_line}
use Rattle.treesync.specs.Outputs.{ClashLines, Output, ReasonLines, WholeText, status_in, text_in}
use Rattle.treesync.specs.declared.refusal.Refusal.{Refusal}

-- what `out` gained: the whole text, flushed; or after a failure its first bytes
abbrev pub PrintsAll : {T : Type 0} → List ℕ → Result T SinkFailed → SinkContents → SinkContents → Type 0
PrintsAll text (Ok done) m k = (k.written ≡ m.written ++ text) × (k.flushed ≡ length k.written)
PrintsAll text (Err failed) m k = (n : ℕ) × (k.written ≡ m.written ++ take n text)

-- the same by the status: the first bytes, and the whole text, flushed, with 0 or 1
pub record Printed (status : ℕ) (text : List ℕ) (m k : SinkContents) : Type 0 where
  pub whole : status ≤ 1 → (k.written ≡ m.written ++ text) × (k.flushed ≡ length k.written)
  pub part : (n : ℕ) × (k.written ≡ m.written ++ take n text)

-- with the status of the whole where no call failed, or with 4 where a fault was counted
abbrev pub IsDone : ℕ → ℕ → SinkState → SinkState → Type 0
IsDone whole status before now = ((status ≡ whole) × (now.faults ≡ before.faults)) ⊎ ((status ≡ 4) × FaultCounted before now)

-- memory may run out only between lines that are written as they come
abbrev pub EndsWith : Output → ℕ → SinkState → SinkState → Type 0
EndsWith (WholeText text) status before now = IsDone 0 status before now
EndsWith (ClashLines lines) status before now =
    IsDone (status_in (ClashLines lines)) status before now ⊎ ((status ≡ 16) × (now.faults ≡ before.faults))
EndsWith (ReasonLines lines) status before now = IsDone 0 status before now ⊎ ((status ≡ 16) × (now.faults ≡ before.faults))

-- An output is printed. After a refusal `out` is as before.
abbrev pub Prints : Result Output Refusal → ℕ → SinkState → SinkState → Type 0
Prints (Ok output) status before now = EndsWith output status before now × IfKnown before now (Printed status (text_in output))
Prints (Err r) status before now = (status ≡ status_of r) × (now ≡ before)

-- the line on `err` where printing ended with a status
abbrev pub end_line : ℕ → List ℕ
end_line status =
    if status == 4 then what_line (codes "write failed") else (if status == 16 then what_line (codes "out of memory") else [])

-- the one line that an answer with a status wants on `err`
abbrev pub line_of : List (List ℕ) → Result Output Refusal → ℕ → List ℕ
line_of words (Ok output) status = end_line status
line_of words (Err r) status = message_of words r

-- a line was sent, or its first bytes where a fault was counted
pub record SendsLine {T : Type 0} (line : List ℕ) (result : Result T SinkFailed) (before now : SinkState) : Type 0 where
  pub faults : SinkFaults result before now
  pub contents : IfKnown before now (Sends line result)

-- the line, or its first bytes where a fault was counted
pub record SaysLine (line : List ℕ) (counted : Type 0) (m k : SinkContents) : Type 0 where
  pub part : (n : ℕ) × (k.written ≡ m.written ++ take n line)
  pub whole : (counted → ⊥) → k.written ≡ m.written ++ line

abbrev pub Says : List ℕ → SinkState → SinkState → Type 0
Says line before now = IfKnown before now (SaysLine line (FaultCounted before now))
