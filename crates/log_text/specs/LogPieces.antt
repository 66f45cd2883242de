-- A log that comes in pieces.
use Rattle.std.specs.Prelude.{◌≡◌, ℕ, List, ◌++◌, length, Option, Some, Result, Ok, Err}
use Rattle.sync_path.specs.Paths.{parts}
use Rattle.sync_command.specs.declared.values.Version.{Version}
use Rattle.sync_command.specs.Changes.{Change}
use Rattle.log_text.specs.declared.faults.TextFault.{TextFault}
use Rattle.log_text.specs.declared.faults.LogFault.{LogFault}
use Rattle.log_text.specs.declared.faults.LogFault.TheVariants as fault
use Rattle.log_text.specs.declared.pieces.Stage.TheVariants as stage
use Rattle.log_text.specs.declared.reader.LogReader.{LogReader}
use Rattle.log_text.specs.Frame.{head_of, complete_items}
use Rattle.log_text.specs.Versions.{version_of}
use Rattle.log_text.specs.Logs.{log_first, judge_change, log_of}
use Rattle.log_text.specs.Reading.{FailsText}
use Rattle.log_text.specs.Pieces.{IsSettled, IsGoing, Knows, Feeds, head_if}
use Rattle.log_text.specs.Queue.{IsQueue}

-- the commands of a text that are complete: their lines have a line feed, and come before the end line and before the first fault
abbrev pub complete : List ℕ → List Change
complete text = complete_items (version_of log_first) judge_change (parts 10 text)

-- the version of a text whose first line is right and has its line feed
abbrev pub version_in : List ℕ → Option Version
version_in text = head_of (version_of log_first) (parts 10 text)

-- the reader was fed this text, memory did not run out, and these commands were taken
abbrev pub HasRead : LogReader → List ℕ → List Change → Type 0
HasRead reader text taken = Knows (version_of log_first) judge_change IsQueue reader.lines reader.queue taken text

-- the commands that are complete and were not taken
abbrev pub waiting_of : LogReader → List Change
waiting_of reader = reader.queue.waiting.items

-- the version, where the first line was read right
abbrev pub known_version : LogReader → Option Version
known_version reader = head_if reader.lines.opened reader.queue.version

-- no call of `feed` was refused
abbrev pub GoesOn : LogReader → Type 0
GoesOn reader = IsGoing reader.lines.stage

-- the reader answers this for good
abbrev pub IsRefused : LogReader → LogFault → Type 0
IsRefused reader f = reader.lines.stage ≡ stage.Refused f

-- what `feed` leads to where it answers this after the text and the piece
abbrev pub FeedsLog : LogReader → List ℕ → List Change → List ℕ → Result (Unit {0}) LogFault → Type 0
FeedsLog reader text taken piece r = Feeds (version_of log_first) judge_change IsQueue reader.lines reader.queue taken text piece r

-- the text so far shows the fault: it is the text's, and is at a line that has its line feed or after the right end line
abbrev pub IsShownLog : List ℕ → TextFault → Type 0
IsShownLog text f = (log_of (parts 10 text) ≡ Err f) × IsSettled text f

-- The answer after a text, where memory did not run out: a fault exactly where the text shows it. Then
-- every continuation has it.
abbrev pub IsExactLog : List ℕ → Result (Unit {0}) LogFault → Type 0
IsExactLog text (Ok u) = (f : TextFault) → IsShownLog text f → ⊥
IsExactLog text (Err (fault.Text f)) = IsShownLog text f × ((more : List ℕ) → log_of (parts 10 (text ++ more)) ≡ Err f)
IsExactLog text (Err fault.Memory) = Unit {0}

-- the text is that of a log: the commands taken and those that wait, of which there are n
pub record IsReadLog (text : List ℕ) (taken waiting : List Change) (n : ℕ) : Type 0 where
  pub version : Version
  pub log : log_of (parts 10 text) ≡ Ok (version, taken ++ waiting)
  pub first : version_in text ≡ Some version
  pub complete : complete text ≡ taken ++ waiting
  pub count : n ≡ length (taken ++ waiting)

-- the end of a text: the number of its commands, or its fault
abbrev pub EndsLog : List ℕ → List Change → List Change → Result ℕ LogFault → Type 0
EndsLog text taken waiting (Ok n) = IsReadLog text taken waiting n
EndsLog text taken waiting (Err e) = FailsText e (log_of (parts 10 text))
