-- The size of a set of commands beside the logs that it is made of: how many commands it has, and how many bytes their
-- lines have.
use Rattle.std.specs.Prelude.{ℕ, ◌+◌, ◌≤◌, List, length}
use Rattle.std.specs.List.{sum_by}
use Rattle.sync_command.specs.Changes.{Change, change_text}

-- the bytes of a command's line, its line feed among them
abbrev pub line_size : Change → ℕ
line_size c = length (change_text c) + 1

-- those of the lines of a list
abbrev pub lines_size : List Change → ℕ
lines_size cs = sum_by line_size cs

-- the logs together have at least as many commands as the set, and as many bytes of lines
pub record IsWithinLogs (logs : List (List Change)) (set : List Change) : Type 0 where
  pub commands : length set ≤ sum_by (λ log. length log) logs
  pub bytes : lines_size set ≤ sum_by lines_size logs
