-- What files and sinks in memory hold.
use Rattle.std.specs.Prelude.{◌==◌, ℕ, List, Bool, Option, Some, drop}
use Rattle.std.specs.List.{list_any}
use Rattle.sync_port.specs.States.{next_number}
use Rattle.sync_port.specs.Ports.{Names, FileContents, FilesState, SinkContents, SinkState}
use Rattle.sync_port.specs.Entries.{held_in, bytes_at, most_in, name_at}
use Rattle.sync_port.specs.declared.mem_files.MemFiles.{MemFiles}
use Rattle.sync_port.specs.declared.mem_sink.MemSink.{MemSink}

-- ---- files

-- the bytes under each name
abbrev pub names_held : MemFiles → Names
names_held s = held_in s.entries.items

-- the name of the open file
abbrev pub name_opened : MemFiles → Option (List ℕ)
name_opened s = name_at s.entries.items s.opened

-- the bytes still to come of it
abbrev pub bytes_to_come : MemFiles → List ℕ
bytes_to_come s = drop s.at (bytes_at s.entries.items s.opened)

-- how often `open` was called
abbrev pub opens_counted : MemFiles → ℕ
opens_counted s = s.opens

-- how many bytes were read
abbrev pub bytes_taken : MemFiles → ℕ
bytes_taken s = s.taken

-- how many of them since the last call of `open`
abbrev pub bytes_since_open : MemFiles → ℕ
bytes_since_open s = s.since_open

-- the largest number of bytes that were read after one `open` of the name
abbrev pub most_taken : MemFiles → List ℕ → ℕ
most_taken s = most_in s.entries.items

abbrev pub file_contents : MemFiles → FileContents
file_contents s = record {
  held = names_held s;
  current = name_opened s;
  to_come = bytes_to_come s;
  opened = opens_counted s;
  taken = bytes_taken s;
  since_open = bytes_since_open s;
  most = most_taken s;
}

-- the numbers of the calls that fail
abbrev pub calls_that_fail : MemFiles → List ℕ
calls_that_fail s = s.fails.items

-- the number of the last call
abbrev pub calls_made : MemFiles → ℕ
calls_made s = s.calls

-- the number of the next call is listed
abbrev pub next_call_fails : MemFiles → Bool
next_call_fails s = list_any (λ n. n == next_number (calls_made s)) (calls_that_fail s)

abbrev pub faults_counted : MemFiles → ℕ
faults_counted s = s.faults

abbrev pub files_state : MemFiles → FilesState
files_state s = record { contents = Some (file_contents s); faults = faults_counted s }

-- ---- sinks

-- the bytes so far
abbrev pub bytes_written : MemSink → List ℕ
bytes_written s = s.bytes.items

-- how many of them were there at the last flush
abbrev pub bytes_flushed : MemSink → ℕ
bytes_flushed s = s.flushed

abbrev pub sink_contents : MemSink → SinkContents
sink_contents s = record { written = bytes_written s; flushed = bytes_flushed s }

-- the number of bytes that it takes in all
abbrev pub capacity_of : MemSink → ℕ
capacity_of s = s.capacity

-- whether each flush fails
abbrev pub flushes_fail : MemSink → Bool
flushes_fail s = s.flush_fails

abbrev pub sink_faults : MemSink → ℕ
sink_faults s = s.faults

abbrev pub sink_state : MemSink → SinkState
sink_state s = record { contents = Some (sink_contents s); faults = sink_faults s }
