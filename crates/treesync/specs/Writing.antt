-- Writing lines as they come, through a block.
use Rattle.std.specs.Prelude.{◌≡◌, ◌≤◌, ◌++◌, ℕ, List, length, take, Result, Ok, Err, IsErrOf, OnOk}
use Rattle.sync_port.specs.States.{FaultCounted}
use Rattle.sync_port.specs.Ports.{SinkContents, SinkState}
use Rattle.sync_port.specs.Sending.{Passes}
use Rattle.treesync.specs.declared.writing.WriteFault.{WriteFault}
use Rattle.treesync.specs.declared.writing.WriteFault.TheVariants.{Failed, Memory}

-- the count of faults of a sink that lines are written to
pub record WriteFaults {T : Type 0} (result : Result T WriteFault) (before now : SinkState) : Type 0 where
  pub later : before.faults ≤ now.faults
  pub done : OnOk result (now.faults ≡ before.faults)
  pub failed : IsErrOf result Failed → FaultCounted before now
  pub memory : IsErrOf result Memory → now.faults ≡ before.faults

-- of the bytes the first were appended, and the rest of them is what is gathered now; after a refusal it is some rest
abbrev pub PassesOn : {T E : Type 0} → List ℕ → List ℕ → Result T E → SinkContents → SinkContents → Type 0
PassesOn bytes now (Ok done) m k = Passes bytes now m k
PassesOn bytes now (Err fault) m k = (rest : List ℕ) × Passes bytes rest m k

-- all the bytes were appended; after a refusal the first of them
abbrev pub WritesAll : {T E : Type 0} → List ℕ → Result T E → SinkContents → SinkContents → Type 0
WritesAll bytes (Ok done) m k = k.written ≡ m.written ++ bytes
WritesAll bytes (Err fault) m k = (n : ℕ) × (k.written ≡ m.written ++ take n bytes)

-- the same, and flushed
abbrev pub WritesLines : {T E : Type 0} → List ℕ → Result T E → SinkContents → SinkContents → Type 0
WritesLines bytes (Ok done) m k = (k.written ≡ m.written ++ bytes) × (k.flushed ≡ length k.written)
WritesLines bytes (Err fault) m k = (n : ℕ) × (k.written ≡ m.written ++ take n bytes)
