-- Which words of a job name folders.
use Rattle.std.specs.Prelude.{List, ℕ, Bool, true, false, ◌&&◌, ◌==◌, length, ◌∷◌, [], Option, Some, None, if◌then◌else◌, option_map}
use Rattle.std.specs.List.{list_all}
use Rattle.tool_words.specs.Words.{Text, Operand, is_plain, numbered, places_of}
use Rattle.tool_words.specs.Commands.{commands, verb_in}
use Rattle.tool_words.specs.Jobs.{job_of}
use Rattle.tool_words.specs.Rounds.{prefs_round}
use Rattle.tool_words.specs.declared.commands.Verb.{Verb}
use Rattle.tool_words.specs.declared.commands.Verb.TheVariants as verb
use Rattle.tool_words.specs.declared.job.Job.{Job}
use Rattle.tool_words.specs.declared.job.Job.TheVariants.{Record, Seal, Apply, Sync}

-- a command's first operand names a folder
abbrev pub takes_folder : Option Verb → Bool
takes_folder (Some verb.Record) = true
takes_folder (Some verb.Seal) = true
takes_folder (Some verb.Apply) = true
takes_folder _ = false

-- a command that takes a folder, and two plain operands
abbrev pub has_folder : List Text → Bool
has_folder [] = false
has_folder (name ∷ operands) =
    (length operands == 2) && (takes_folder (verb_in commands name) && list_all is_plain operands)

-- a command takes folders, and then their logs
abbrev pub is_round : Option Verb → Bool
is_round (Some verb.Sync) = true
is_round _ = false

-- the folders of the words of a round
abbrev pub round_folders : List Text → Option (List Operand)
round_folders [] = None
round_folders (name ∷ operands) =
    if is_round (verb_in commands name) then option_map (λ parts. parts.1) (prefs_round (numbered 1 operands)) else None

-- the operands of a job that name folders
abbrev pub job_folders : Job → List Operand
job_folders (Record folder script) = folder ∷ []
job_folders (Seal folder log) = folder ∷ []
job_folders (Apply folder set) = folder ∷ []
job_folders (Sync prefs folders logs) = folders
job_folders _ = []

-- the same, and none where there is no job
abbrev pub asked_folders : Option Job → List Operand
asked_folders None = []
asked_folders (Some job) = job_folders job

-- the places of the words that name folders
abbrev pub folder_places : List Text → List ℕ
folder_places words = places_of (asked_folders (job_of words))
