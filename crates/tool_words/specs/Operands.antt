-- The operands of a job, and the words that they stand in.
use Rattle.std.specs.Prelude.{◌≡◌, List, ℕ, zero, suc, ◌∷◌, [], ◌++◌, Option, Some, None, drop, option_to_list, if◌then◌else◌}
use Rattle.std.specs.List.{AllByRecursion}
use Rattle.tool_words.specs.Words.{Text, Operand}
use Rattle.tool_words.specs.Logs.{has_prefs_prefix}
use Rattle.tool_words.specs.declared.job.Job.{Job}
use Rattle.tool_words.specs.declared.job.Job.TheVariants.{Help, Replay, Canon, Conflicts, Merge, Transition, Steer, Record, Seal, Apply, Drill, Sync, Explain, Undo, Catchup, Rebase}

-- the word at a place, and the empty word where there is none
abbrev pub word_at : List Text → ℕ → Text
word_at [] place = []
word_at (word ∷ words) zero = word
word_at (word ∷ words) (suc place) = word_at words place

-- the operand that a word has: FILE of a word `--prefs=FILE`, and any other word itself
abbrev pub operand_text : Text → Text
operand_text word = if has_prefs_prefix word then drop 8 word else word

-- the text of the operand whose word is at a place
abbrev pub text_at : List Text → ℕ → Text
text_at words place = operand_text (word_at words place)

-- the operands of a job that name files and folders, in the order of the words
abbrev pub job_operands : Job → List Operand
job_operands Help = []
job_operands (Replay snap log) = snap ∷ log ∷ []
job_operands (Canon log) = log ∷ []
job_operands (Conflicts logs) = logs
job_operands (Merge prefs logs) = option_to_list prefs ++ logs
job_operands (Transition number prefs logs) = option_to_list prefs ++ logs
job_operands (Steer set logs) = set ∷ logs
job_operands (Record folder script) = folder ∷ script ∷ []
job_operands (Seal folder log) = folder ∷ log ∷ []
job_operands (Apply folder set) = folder ∷ set ∷ []
job_operands (Drill seed logs steps) = []
job_operands (Sync prefs folders logs) = option_to_list prefs ++ (folders ++ logs)
job_operands (Explain prefs logs) = option_to_list prefs ++ logs
job_operands (Undo set) = set ∷ []
job_operands (Catchup sets) = sets
job_operands (Rebase side prefs work sets) = option_to_list prefs ++ work ∷ sets

-- the same, and none where there is no job
abbrev pub operands_in : Option Job → List Operand
operands_in None = []
operands_in (Some job) = job_operands job

-- each operand has the text of the word at its place
abbrev pub AreInPlace : List Text → List Operand → Type 0
AreInPlace words operands = AllByRecursion (λ operand. text_at words operand.place ≡ operand.text) operands
