-- The text of a log that is being written: its first line, the lines so far, and at the end the end line.
use Rattle.std.specs.Prelude.{ℕ, nat_le, Bool, ◌&&◌, List, ◌++◌, length}
use Rattle.std.specs.List.{flat_map}
use Rattle.sync_command.specs.declared.values.Version.{Version}
use Rattle.sync_command.specs.Changes.{Change, change_text}
use Rattle.log_text.specs.declared.frame.TheConstants.{MAX_ITEMS}
use Rattle.log_text.specs.Frame.{ended, end_line}
use Rattle.log_text.specs.Logs.{log_first}
use Rattle.record_core.specs.declared.limits.TheConstants.{MAX_LOG_LEN}

abbrev pub first_line : Version → List ℕ
first_line version = ended (log_first version)

-- the line of a command
abbrev pub line_of : Change → List ℕ
line_of c = ended (change_text c)

abbrev pub lines_of : List Change → List ℕ
lines_of cs = flat_map line_of cs

-- the line that ends a log of these commands
abbrev pub end_line_of : List Change → List ℕ
end_line_of cs = ended (end_line (length cs))

-- the text of a log without its end line
abbrev pub open_text : Version → List Change → List ℕ
open_text version cs = first_line version ++ lines_of cs

-- the text of a log with its end line
abbrev pub closed_text : Version → List Change → List ℕ
closed_text version cs = open_text version cs ++ end_line_of cs

-- a log of these commands is within the limits
abbrev pub is_within : Version → List Change → Bool
is_within version cs = nat_le (length cs) MAX_ITEMS && nat_le (length (closed_text version cs)) MAX_LOG_LEN
