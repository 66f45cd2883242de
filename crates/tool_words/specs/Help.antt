-- The text of the help.
use Rattle.std.specs.Prelude.{List, ◌∷◌, [], ◌++◌, codes, map}
use Rattle.std.specs.List.{concat}
use Rattle.tool_words.specs.Words.{Text}
use Rattle.tool_words.specs.Commands.{Shape, commands}

-- the line of a command
abbrev pub help_line : Shape → Text
help_line shape = concat (codes "  " ∷ shape.name ∷ codes " " ∷ shape.operands ∷ codes "\n" ∷ [])

-- the lines of commands
abbrev pub help_lines : List Shape → Text
help_lines shapes = concat (map help_line shapes)

-- the usage, and a line for each command
abbrev pub help_text : Text
help_text = codes "usage: treesync COMMAND WORDS\n" ++ help_lines commands
