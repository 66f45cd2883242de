-- What stands for a job's output.
use Rattle.std.specs.Prelude.{◌≡◌, ℕ, List, Vec, Result, Ok, Err}
use Rattle.std.specs.Global.{Global}
use Rattle.refluent.specs.Joints.{Joined}
use Rattle.sync_command.specs.Changes.{Change}
use Rattle.treesync.specs.Conflicts.{clash_lines}
use Rattle.treesync.specs.Explain.{reason_lines}
use Rattle.treesync.specs.Outputs.{ClashLines, Output, ReasonLines, WholeText}
use Rattle.treesync.specs.declared.answer.Answer.{Answer}
use Rattle.treesync.specs.declared.answer.Answer.TheVariants.{Text, Clashes, Reasons}
use Rattle.treesync.specs.declared.refusal.Refusal.{Refusal}

-- what is printed of an answer
abbrev pub output_of : Answer → Output
output_of (Text text) = WholeText text.items
output_of (Clashes joint) = ClashLines (clash_lines joint)
output_of (Reasons explained) = ReasonLines (reason_lines explained.0 explained.1)

abbrev pub StandsForOutput : Answer → Output → Type 0
StandsForOutput answer output = output_of answer ≡ output

-- a text is an answer
abbrev pub of_text : Result (Vec ℕ Global) Refusal → Result Answer Refusal
of_text (Ok text) = Ok (Text text)
of_text (Err r) = Err r

-- and so is a joint, for its clashes
abbrev pub of_joint : Result Joined Refusal → Result Answer Refusal
of_joint (Ok joint) = Ok (Clashes joint)
of_joint (Err r) = Err r

-- and a joint with a merger, for its reasons
abbrev pub of_explained : Result (Joined × List Change) Refusal → Result Answer Refusal
of_explained (Ok explained) = Ok (Reasons explained)
of_explained (Err r) = Err r
