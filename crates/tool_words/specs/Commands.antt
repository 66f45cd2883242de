-- The commands that are built.
use Rattle.std.specs.Prelude.{List, Option, Some, None, codes, ◌∷◌, [], if◌then◌else◌}
use Rattle.std.specs.Str.{bytes_eq}
use Rattle.tool_words.specs.Words.{Text}
use Rattle.tool_words.specs.declared.commands.CommandShape.{CommandShape}
use Rattle.tool_words.specs.declared.commands.Verb.{Verb}
use Rattle.tool_words.specs.declared.commands.Verb.TheVariants.{Replay, Canon, Conflicts, Merge, Transition, Steer, Record, Seal, Apply, Drill, Sync, Explain, Undo, Catchup, Rebase}

-- what a command does, its name, and its operands as the help shows them
pub record Shape : Type 0 where
  pub verb : Verb
  pub name : Text
  pub operands : Text

-- a line of the program's table
abbrev pub shape_of : CommandShape → Shape
shape_of line = record { verb = line.verb; name = line.name.now; operands = line.operands.now }

-- the commands that are built, in the order of the help
abbrev pub commands : List Shape
commands =
    record { verb = Replay; name = codes "replay"; operands = codes "SNAP LOG" }
    ∷ record { verb = Canon; name = codes "canon"; operands = codes "LOG" }
    ∷ record { verb = Conflicts; name = codes "conflicts"; operands = codes "LOG..." }
    ∷ record { verb = Merge; name = codes "merge"; operands = codes "[--prefs FILE] LOG..." }
    ∷ record { verb = Transition; name = codes "transition"; operands = codes "[--prefs FILE] N LOG..." }
    ∷ record { verb = Steer; name = codes "steer"; operands = codes "SET LOG..." }
    ∷ record { verb = Record; name = codes "record"; operands = codes "FOLDER SCRIPT" }
    ∷ record { verb = Seal; name = codes "seal"; operands = codes "FOLDER LOG" }
    ∷ record { verb = Apply; name = codes "apply"; operands = codes "FOLDER SET" }
    ∷ record { verb = Drill; name = codes "drill"; operands = codes "SEED LOGS STEPS" }
    ∷ record { verb = Sync; name = codes "sync"; operands = codes "[--prefs FILE] K FOLDER... LOG..." }
    ∷ record { verb = Explain; name = codes "explain"; operands = codes "[--prefs FILE] LOG..." }
    ∷ record { verb = Undo; name = codes "undo"; operands = codes "SET" }
    ∷ record { verb = Catchup; name = codes "catchup"; operands = codes "SET..." }
    ∷ record { verb = Rebase; name = codes "rebase"; operands = codes "[--prefs FILE] SIDE WORK SET..." }
    ∷ []

-- what the first of the commands with this name does
abbrev pub verb_in : List Shape → Text → Option Verb
verb_in [] name = None
verb_in (shape ∷ shapes) name = if bytes_eq shape.name name then Some shape.verb else verb_in shapes name
