-- What is known of files and sinks, and what their calls do to it.
use Rattle.std.specs.Prelude.{◌≡◌, ◌⊎◌, ◌<◌, ◌≤◌, ◌++◌, [], take, length, max, ℕ, List, ⊤, Option, None, Some, Result, Ok, Err, IsErrOf, OnOk, OnErr, if◌then◌else◌}
use Rattle.std.specs.Str.{bytes_eq}
use Rattle.sync_port.specs.States.{PortState, FaultCounted, next_number, sum_within}
use Rattle.sync_port.specs.declared.faults.PortFault.{PortFault}
use Rattle.sync_port.specs.declared.faults.PortFault.TheVariants.{Failed}
use Rattle.sync_port.specs.declared.faults.SinkFailed.{SinkFailed}

-- ---- files

-- the bytes under each name, where there is a file of that name
abbrev pub Names : Type 0
Names = List ℕ → Option (List ℕ)

-- What is held under the names, the name of the open file, and what is to come of it. The calls of `open` and
-- the bytes that were read are counted from the start, and the bytes also since the last call of `open`, each up
-- to u64's last value. `most` is, for each name, the largest number of bytes that were read after one `open` of it.
pub record FileContents : Type 0 where
  pub held : Names
  pub current : Option (List ℕ)
  pub to_come : List ℕ
  pub opened : ℕ
  pub taken : ℕ
  pub since_open : ℕ
  pub most : List ℕ → ℕ

abbrev pub FilesState : Type 0
FilesState = PortState FileContents

-- the names are known, and no file has this one
abbrev pub IsAbsentIn : Option FileContents → List ℕ → Type 0
IsAbsentIn None name = ⊥
IsAbsentIn (Some m) name = m.held name ≡ None

abbrev pub IsAbsent : FilesState → List ℕ → Type 0
IsAbsent state name = IsAbsentIn state.contents name

-- an `open`: the bytes under the name are to come, or no file is open
abbrev pub IsOpened : {T : Type 0} → List ℕ → Result T PortFault → FileContents → FileContents → Type 0
IsOpened name (Ok done) m k = (m.held name ≡ Some k.to_come) × (k.current ≡ Some name)
IsOpened name (Err fault) m k = (k.to_come ≡ []) × (k.current ≡ None)

pub record Opens {T : Type 0} (name : List ℕ) (result : Result T PortFault) (m k : FileContents) : Type 0 where
  pub held : k.held ≡ m.held
  pub file : IsOpened name result m k
  pub opened : k.opened ≡ next_number m.opened
  pub taken : k.taken ≡ m.taken
  pub since_open : k.since_open ≡ 0
  pub most : k.most ≡ m.most

-- the count of faults of an `open`; a name that is not held is no fault
pub record OpenFaults {T : Type 0} (name : List ℕ) (result : Result T PortFault) (before now : FilesState) : Type 0 where
  pub later : before.faults ≤ now.faults
  pub done : OnOk result (now.faults ≡ before.faults)
  pub failed : IsErrOf result Failed → FaultCounted before now ⊎ IsAbsent before name
  pub absent : IsAbsent before name → now.faults ≡ before.faults

-- the largest numbers of bytes, where so many were read of the open file since it was opened
abbrev pub most_with : Option (List ℕ) → ℕ → (List ℕ → ℕ) → List ℕ → ℕ
most_with None count most name = most name
most_with (Some current) count most name = if bytes_eq current name then max (most name) count else most name

-- a `read`: the next bytes are the first of the piece; 0 of them only where the piece is empty or nothing is to come
pub record ReadsPiece (piece : List ℕ) (count : ℕ) (m k : FileContents) : Type 0 where
  pub held : k.held ≡ m.held
  pub current : k.current ≡ m.current
  pub to_come : m.to_come ≡ take count piece ++ k.to_come
  pub end : count ≡ 0 → 0 < length piece → k.to_come ≡ []
  pub opened : k.opened ≡ m.opened
  pub taken : k.taken ≡ sum_within m.taken count
  pub since_open : k.since_open ≡ sum_within m.since_open count
  pub most : (name : List ℕ) → k.most name ≡ most_with m.current k.since_open m.most name

abbrev pub Reads : List ℕ → Result ℕ PortFault → FileContents → FileContents → Type 0
Reads piece (Ok count) m k = ReadsPiece piece count m k
Reads piece (Err fault) m k = k ≡ m

pub record ReadFaults (result : Result ℕ PortFault) (before now : FilesState) : Type 0 where
  pub later : before.faults ≤ now.faults
  pub done : OnOk result (now.faults ≡ before.faults)
  pub failed : IsErrOf result Failed → FaultCounted before now

-- ---- sinks

-- the bytes so far, and how many of them were there at the last flush
pub record SinkContents : Type 0 where
  pub written : List ℕ
  pub flushed : ℕ

abbrev pub SinkState : Type 0
SinkState = PortState SinkContents

-- the count of faults of a call of a sink
pub record SinkFaults {T : Type 0} (result : Result T SinkFailed) (before now : SinkState) : Type 0 where
  pub later : before.faults ≤ now.faults
  pub done : OnOk result (now.faults ≡ before.faults)
  pub failed : OnErr result (FaultCounted before now)

-- at most the whole piece was taken, and some of it, if there is any
abbrev pub WritesSome : List ℕ → Result ℕ SinkFailed → Type 0
WritesSome piece (Ok count) = (count ≤ length piece) × (0 < length piece → 0 < count)
WritesSome piece (Err failed) = ⊤

-- a `write`: the first bytes of the piece are appended
abbrev pub Writes : List ℕ → Result ℕ SinkFailed → SinkContents → SinkContents → Type 0
Writes piece (Ok count) m k = (k.written ≡ m.written ++ take count piece) × (k.flushed ≡ m.flushed)
Writes piece (Err failed) m k = k ≡ m

-- a `flush`: all that was written is at its place
abbrev pub Flushes : {T : Type 0} → Result T SinkFailed → SinkContents → SinkContents → Type 0
Flushes (Ok done) m k = (k.written ≡ m.written) × (k.flushed ≡ length m.written)
Flushes (Err failed) m k = k ≡ m
