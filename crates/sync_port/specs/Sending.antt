-- Writing a text as a whole.
use Rattle.std.specs.Prelude.{◌≡◌, ◌++◌, take, ℕ, List, Result, Ok, Err}
use Rattle.sync_port.specs.Ports.{SinkContents}
use Rattle.sync_port.specs.declared.faults.SinkFailed.{SinkFailed}

-- all the bytes were appended; after a refusal the first of them
abbrev pub Sends : {T : Type 0} → List ℕ → Result T SinkFailed → SinkContents → SinkContents → Type 0
Sends bytes (Ok done) m k = (k.written ≡ m.written ++ bytes) × (k.flushed ≡ m.flushed)
Sends bytes (Err failed) m k = ((n : ℕ) × (k.written ≡ m.written ++ take n bytes)) × (k.flushed ≡ m.flushed)

-- ---- gathering before it is sent

-- the first of the bytes were appended, and the rest of them is still to be sent
abbrev pub Passes : List ℕ → List ℕ → SinkContents → SinkContents → Type 0
Passes bytes rest m k = (first : List ℕ) × (k.written ≡ m.written ++ first) × (bytes ≡ first ++ rest) × (k.flushed ≡ m.flushed)

-- of what was gathered before and the text after it the first bytes were appended, and the rest is gathered now
abbrev pub Gathers : {T : Type 0} → List ℕ → List ℕ → List ℕ → Result T SinkFailed → SinkContents → SinkContents → Type 0
Gathers before text now (Ok done) m k = Passes (before ++ text) now m k
Gathers before text now (Err failed) m k = (rest : List ℕ) × Passes (before ++ text) rest m k
