use Rattle.std.proofs.Common.{◌≡◌, map, drop}
use Rattle.tool_words.specs.Commands.{shape_of, verb_in}
use Rattle.tool_words.proofs.commands.verb_among.Given as goal

-- the name is looked up in what is left of the shapes
abbrev pub invariant-loop-shape : goal.invariant-loop-shape
invariant-loop-shape l = verb_in (map shape_of (drop l.shape-index l.shapes)) l.name ≡ verb_in (map shape_of l.shapes) l.name
