-- The apps of clap: what it knows of the commands of each shape.
use Rattle.std.specs.Prelude.{true, Some, codes}
use Rattle.clap.specs.Walk.{Rule}
use Rattle.clap.specs.Words.{App, new_app, new_rule, with_rule}
use Rattle.clap.specs.declared.builder.action.ArgAction.TheVariants.{Append}
use Rattle.tool_words.specs.Words.{Text}

-- an operand that must be there
abbrev pub operand : Text → Rule
operand id = record (new_rule id) { required = true }

-- NAME FIRST
abbrev pub one_operand_app : Text → App
one_operand_app name = with_rule (new_app name) (operand (codes "first"))

-- NAME FIRST SECOND
abbrev pub two_operand_app : Text → App
two_operand_app name = with_rule (one_operand_app name) (operand (codes "second"))

-- NAME FIRST SECOND THIRD
abbrev pub three_operand_app : Text → App
three_operand_app name = with_rule (two_operand_app name) (operand (codes "third"))

-- operands, of which there must be one
abbrev pub operands : Text → Rule
operands id = record (new_rule id) { required = true; action = Some Append }

-- the option of a file, which may be there
abbrev pub prefs_option : Rule
prefs_option = record (new_rule (codes "prefs")) { long = Some (codes "prefs") }

-- NAME [--prefs FILE]
abbrev pub prefs_app : Text → App
prefs_app name = with_rule (new_app name) prefs_option

-- NAME [--prefs FILE] LOG...
abbrev pub logs_app : Text → App
logs_app name = with_rule (prefs_app name) (operands (codes "logs"))

-- NAME [--prefs FILE] FIRST LOG...
abbrev pub first_logs_app : Text → App
first_logs_app name = with_rule (with_rule (prefs_app name) (operand (codes "first"))) (operands (codes "logs"))
