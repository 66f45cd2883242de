-- Reading a file, piece by piece and as a whole.
use Rattle.std.specs.Prelude.{Vec, ◌≡◌, ◌⊎◌, ◌+◌, ◌<◌, ◌≤◌, ◌++◌, [], length, drop, max, ℕ, List, Some, Result, Ok, Err, IsErrOf, OnOk, if◌then◌else◌}
use Rattle.std.specs.Str.{bytes_eq}
use Rattle.sync_port.specs.States.{FaultCounted, next_number}
use Rattle.sync_port.specs.Ports.{FileContents, FilesState, IsAbsent}
use Rattle.sync_port.specs.declared.faults.WholeFault.{WholeFault}
use Rattle.sync_port.specs.declared.faults.WholeFault.TheVariants.{ReadFault, TooLarge, Memory}

-- at most so many bytes of the file were read, or no file is open
abbrev pub ReadsAtMost : List ℕ → ℕ → FileContents → FileContents → Type 0
ReadsAtMost name most m k = (k.to_come ≡ []) ⊎ ((first : List ℕ) × (m.held name ≡ Some (first ++ k.to_come)) × (length first ≤ most))

-- the file has more bytes than the limit, and one more than the limit was read
abbrev pub IsTooLarge : List ℕ → ℕ → FileContents → FileContents → Type 0
IsTooLarge name limit m k = (bytes : List ℕ) × (m.held name ≡ Some bytes) × (limit < length bytes) × (k.to_come ≡ drop (limit + 1) bytes)

-- the whole file, or why not
abbrev pub IsWhole : {A : Type 0} → List ℕ → ℕ → Result (Vec ℕ A) WholeFault → FileContents → FileContents → Type 0
IsWhole name limit (Ok whole) m k = (m.held name ≡ Some whole.items) × (length whole.items ≤ limit) × (k.to_come ≡ [])
IsWhole name limit (Err TooLarge) m k = IsTooLarge name limit m k
IsWhole name limit (Err ReadFault) m k = ReadsAtMost name (limit + 1) m k
IsWhole name limit (Err Memory) m k = ReadsAtMost name (limit + 1) m k

-- so many bytes of this name, and none of another
abbrev pub of_name : List ℕ → ℕ → List ℕ → ℕ
of_name name count other = if bytes_eq name other then count else 0

-- whatever is answered, one file was opened once, at most one byte past the limit was taken of it, and none of another
pub record ReadsWhole {A : Type 0} (name : List ℕ) (limit : ℕ) (result : Result (Vec ℕ A) WholeFault) (m k : FileContents) : Type 0 where
  pub held : k.held ≡ m.held
  pub whole : IsWhole name limit result m k
  pub opened : k.opened ≡ next_number m.opened
  pub taken : k.taken ≤ m.taken + (limit + 1)
  pub since_open : k.since_open ≤ limit + 1
  pub most : (other : List ℕ) → k.most other ≤ max (m.most other) (of_name name (limit + 1) other)

-- the count of faults: no call failed where the whole file was read or is too large
pub record WholeFaults {T : Type 0} (name : List ℕ) (result : Result T WholeFault) (before now : FilesState) : Type 0 where
  pub later : before.faults ≤ now.faults
  pub done : OnOk result (now.faults ≡ before.faults)
  pub large : IsErrOf result TooLarge → now.faults ≡ before.faults
  pub failed : IsErrOf result ReadFault → FaultCounted before now ⊎ IsAbsent before name
