-- The answer of `rebase [--prefs FILE] SIDE WORK SET...`: the recorded work and what the sets do one after another are
-- merged as two logs, and the transition of one of the two is printed.
use Rattle.std.specs.Prelude.{◌≡◌, ℕ, List, [], ◌∷◌, Option, Result, Ok, Err}
use Rattle.sync_command.specs.Changes.{Change}
use Rattle.canon_set.specs.Logs.{IsBrokenAt, IsTaken}
use Rattle.pref_list.specs.declared.rules.Rule.{Rule}
use Rattle.rounds.specs.declared.rebasing.Side.{Side as RoundSide}
use Rattle.rounds.specs.declared.rebasing.Side.TheVariants as round
use Rattle.tool_words.specs.Words.{Operand}
use Rattle.tool_words.specs.declared.job.Side.{Side}
use Rattle.tool_words.specs.declared.job.Side.TheVariants.{Tree, Next as NextRound}
use Rattle.treesync.specs.Catchup.{IsComposed, nets_of}
use Rattle.treesync.specs.Checks.{Check, Judged, Limits, Next, Then}
use Rattle.treesync.specs.Joining.{AllTaken, EachTaken, IsLogs, joint_version, left_after, log_limits}
use Rattle.treesync.specs.Logs.{IsLog, ReadLog}
use Rattle.treesync.specs.Preferences.{ArePreferences, preference_word}
use Rattle.treesync.specs.Transition.{IsTransitioned}
use Rattle.treesync.specs.declared.input.TheConstants.{FILE_LIMIT}
use Rattle.treesync.specs.declared.logs.TheConstants.{FULL_ALLOWANCE}
use Rattle.treesync.specs.declared.refusal.Refusal.{Refusal}
use Rattle.treesync.specs.declared.refusal.Refusal.TheVariants.{Found}
use Rattle.treesync.specs.declared.refusal.Finding.TheVariants.{NoTree}

-- the log whose transition a side is: the work is log 1, and what the sets do is log 2
abbrev pub side_number : Side → ℕ
side_number Tree = 1
side_number NextRound = 2

-- the side as it is rebased
abbrev pub round_side : Side → RoundSide
round_side Tree = round.Tree
round_side NextRound = round.Next

-- some tree takes the work; or the command is named up to which none does
abbrev pub IsTakenWork : ℕ → ReadLog → Result ReadLog Refusal → Type 0
IsTakenWork word work (Ok same) = (same ≡ work) × IsTaken work.commands
IsTakenWork word work (Err r) = (number : ℕ) × (r ≡ Found (NoTree word number)) × IsBrokenAt work.commands number

-- the work, and what the sets do one after another, as the two logs of a merge
abbrev pub as_logs : ReadLog → List ReadLog → List Change → List ReadLog
as_logs work reads set = work ∷ (record { size = 0; version = joint_version reads; commands = set } ∷ [])

-- what is made of the work and of what the sets do
abbrev pub IsMergedWork : Side → ℕ → List Rule → ReadLog → List ReadLog → List Change → Result (List ℕ) Refusal → Type 0
IsMergedWork side word rules work reads set = Next (AllTaken (as_logs work reads set)) (IsTransitioned (side_number side) word rules)

-- what is made of the work and of the sets, each of which some tree takes
abbrev pub IsMergedOnto : Side → ℕ → List Rule → List Operand → ReadLog → List ReadLog → Result (List ℕ) Refusal → Type 0
IsMergedOnto side word rules files work reads = Next (IsComposed files (nets_of reads)) (IsMergedWork side word rules work reads)

-- what is made of work and sets that are read
abbrev pub IsRebased : Side → ℕ → List Rule → ℕ → List Operand → ReadLog → List ReadLog → Result (List ℕ) Refusal → Type 0
IsRebased side word rules work_word files work reads =
    Next (IsTakenWork work_word work) (λ taken. Next (EachTaken files reads) (IsMergedOnto side word rules files taken))

-- what is made of the files of the work and of the sets
abbrev pub IsRebaseOf : Side → ℕ → List Rule → Operand → List Operand → Check (List ℕ)
IsRebaseOf side word rules work files =
    Then (IsLog FULL_ALLOWANCE work.place work.text) (λ read.
    Then (IsLogs (left_after FULL_ALLOWANCE read) files) (λ reads. Judged (IsRebased side word rules work.place files read reads)))

abbrev pub IsRebase : Side → Option Operand → Operand → List Operand → Check (List ℕ)
IsRebase side prefs work files =
    Then (ArePreferences prefs) (λ rules. IsRebaseOf side (preference_word prefs) rules work files)

-- the limits of the work's file and of those of the sets
abbrev pub work_limits : Operand → List Operand → Limits
work_limits work files = (work.text, FILE_LIMIT) ∷ log_limits files
