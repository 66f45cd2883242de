-- Which words are which job.
use Rattle.std.specs.Prelude.{List, Bool, false, length, Option, Some, None, codes, ◌∷◌, [], ◌||◌, if◌then◌else◌, option_map, option_and_then}
use Rattle.std.specs.Str.{bytes_eq}
use Rattle.tool_words.specs.Words.{Text, Operand, numbered, one_operand, two_operands, three_operands, all_three_of}
use Rattle.tool_words.specs.Logs.{only_logs, prefs_logs, first_logs, prefs_first_logs}
use Rattle.tool_words.specs.Numbers.{number_between}
use Rattle.tool_words.specs.Rounds.{prefs_round}
use Rattle.tool_words.specs.Commands.{commands, verb_in}
use Rattle.tool_words.specs.declared.commands.Verb.{Verb}
use Rattle.tool_words.specs.declared.commands.Verb.TheVariants as verb
use Rattle.tool_words.specs.declared.job.Side.{Side}
use Rattle.tool_words.specs.declared.job.Side.TheVariants as side
use Rattle.tool_words.specs.declared.job.Job.{Job}
use Rattle.tool_words.specs.declared.job.Job.TheVariants.{Help, Replay, Canon, Conflicts, Merge, Transition, Steer, Record, Seal, Apply, Drill, Sync, Explain, Undo, Catchup, Rebase}

-- the only word asks for the help
abbrev pub is_help : List Text → Bool
is_help (word ∷ []) = bytes_eq word (codes "help") || bytes_eq word (codes "--help")
is_help _ = false

-- a transition's number is that of one of the logs
abbrev pub transition_of : Option Operand × Operand × List Operand → Option Job
transition_of (prefs, number, logs) = option_map (λ n. Transition n prefs logs) (number_between 1 (length logs) number.text)

-- the numbers of a drill lie within its limits
abbrev pub drill_of : Operand × Operand × Operand → Option Job
drill_of (seed, logs, steps) =
    option_map (λ numbers. Drill numbers.0 numbers.1 numbers.2)
    (all_three_of (number_between 0 2147483647 seed.text) (number_between 1 64 logs.text) (number_between 0 16384 steps.text))

-- the side that a rebase prints
abbrev pub side_of : Text → Option Side
side_of text = if bytes_eq text (codes "tree") then Some side.Tree else (if bytes_eq text (codes "next") then Some side.Next else None)

-- a rebase has the recorded work, and at least one set after it
abbrev pub rebase_of : Option Operand × Operand × List Operand → Option Job
rebase_of (prefs, side, work ∷ (set ∷ sets)) = option_map (λ s. Rebase s prefs work (set ∷ sets)) (side_of side.text)
rebase_of (prefs, side, _) = None

-- the job of a command's operands, no more and no fewer
abbrev pub operands_job : Verb → List Operand → Option Job
operands_job verb.Replay operands = option_map (λ pair. Replay pair.0 pair.1) (two_operands operands)
operands_job verb.Canon operands = option_map Canon (one_operand operands)
operands_job verb.Conflicts operands = option_map Conflicts (only_logs operands)
operands_job verb.Merge operands = option_map (λ parts. Merge parts.0 parts.1) (prefs_logs operands)
operands_job verb.Transition operands = option_and_then transition_of (prefs_first_logs operands)
operands_job verb.Steer operands = option_map (λ pair. Steer pair.0 pair.1) (first_logs operands)
operands_job verb.Record operands = option_map (λ pair. Record pair.0 pair.1) (two_operands operands)
operands_job verb.Seal operands = option_map (λ pair. Seal pair.0 pair.1) (two_operands operands)
operands_job verb.Apply operands = option_map (λ pair. Apply pair.0 pair.1) (two_operands operands)
operands_job verb.Drill operands = option_and_then drill_of (three_operands operands)
operands_job verb.Sync operands = option_map (λ parts. Sync parts.0 parts.1 parts.2) (prefs_round operands)
operands_job verb.Explain operands = option_map (λ parts. Explain parts.0 parts.1) (prefs_logs operands)
operands_job verb.Undo operands = option_map Undo (one_operand operands)
operands_job verb.Catchup operands = option_map Catchup (only_logs operands)
operands_job verb.Rebase operands = option_and_then rebase_of (prefs_first_logs operands)

-- the job of a command line whose first word is the command
abbrev pub command_job : List Operand → Option Job
command_job [] = None
command_job (name ∷ operands) = option_and_then (λ verb. operands_job verb operands) (verb_in commands name.text)

-- the job of the words: the help, or a command with its operands
abbrev pub job_of : List Text → Option Job
job_of words = if is_help words then Some Help else command_job (numbered 0 words)
