use Rattle.std.proofs.Common.{◌≡◌, ◌++◌, map, drop}
use Rattle.tool_words.specs.Commands.{shape_of}
use Rattle.tool_words.specs.Help.{help_lines}
use Rattle.tool_words.proofs.commands.add_lines.Given as goal

-- the text, with the lines of what is left of the shapes
abbrev pub invariant-loop-shape : goal.invariant-loop-shape
invariant-loop-shape l =
    l.text.items ++ help_lines (map shape_of (drop l.shape-index l.shapes))
    ≡ l.initial.text.items ++ help_lines (map shape_of l.shapes)
