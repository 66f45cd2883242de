-- The answer of `steer SET LOG...`: the rules under which the net set of SET is the first merger of the logs.
use Rattle.std.specs.Prelude.{◌≡◌, ℕ, List, Result, Ok, Err}
use Rattle.sync_command.specs.Changes.{Change}
use Rattle.canon_set.specs.Logs.{IsBrokenAt, IsTaken, net}
use Rattle.canon_set.specs.Sets.{canonical}
use Rattle.pref_list.specs.Prefs.{prefs_text}
use Rattle.merge_core.specs.Steering.{steering_rules}
use Rattle.merge_core.specs.Verdicts.{IsVerdict}
use Rattle.merge_core.specs.declared.checking.Verdict.{Verdict}
use Rattle.merge_core.specs.declared.checking.Verdict.TheVariants as verdict
use Rattle.merge_core.specs.declared.steering_rules.SteerFault.{SteerFault}
use Rattle.merge_core.specs.declared.steering_rules.SteerFault.TheVariants as steer
use Rattle.tool_words.specs.Words.{Operand}
use Rattle.treesync.specs.Checks.{Check, Judged, Next, Then}
use Rattle.treesync.specs.Joining.{IsJoined, IsLogs, commands_of}
use Rattle.treesync.specs.Logs.{IsLog, ReadLog}
use Rattle.treesync.specs.declared.logs.TheConstants.{FULL_ALLOWANCE}
use Rattle.treesync.specs.declared.refusal.Refusal.{Refusal}
use Rattle.treesync.specs.declared.refusal.Refusal.TheVariants.{OutOfMemory, Found}
use Rattle.treesync.specs.declared.refusal.Finding.TheVariants.{NoTree, NotDrawn, DoesNotFit, CanAdd}

-- the net set of the log that a word names; or no tree takes the log
abbrev pub IsNetSet : ℕ → ReadLog → Result (List Change) Refusal → Type 0
IsNetSet word read (Ok set) = IsTaken read.commands × (set ≡ canonical (net read.commands))
IsNetSet word read (Err r) = (number : ℕ) × (r ≡ Found (NoTree word number)) × IsBrokenAt read.commands number

-- what a verdict on the set means that a word names; a merger is not refused
abbrev pub RefusesBy : ℕ → Verdict → Refusal → Type 0
RefusesBy word verdict.Merger r = ⊥
RefusesBy word (verdict.NotDrawn path) r = r ≡ Found (NotDrawn word path)
RefusesBy word (verdict.DoesNotFit path) r = r ≡ Found (DoesNotFit word path)
RefusesBy word (verdict.CanAdd log path) r = r ≡ Found (CanAdd word log path)

-- the same as the refusal of steering
abbrev pub steer_refusal : ℕ → SteerFault → Refusal
steer_refusal word (steer.NotDrawn path) = Found (NotDrawn word path)
steer_refusal word (steer.DoesNotFit path) = Found (DoesNotFit word path)
steer_refusal word (steer.CanAdd log path) = Found (CanAdd word log path)
steer_refusal word steer.Memory = OutOfMemory

-- the set is a merger of the logs, and the text is that of one `at` rule per command; or it is none, and why is said
abbrev pub IsSteered : ℕ → List Change → List ReadLog → Result (List ℕ) Refusal → Type 0
IsSteered word set reads (Ok text) =
    IsVerdict (commands_of reads) set verdict.Merger × (text ≡ prefs_text (steering_rules (commands_of reads) set))
IsSteered word set reads (Err r) = (v : Verdict) × IsVerdict (commands_of reads) set v × RefusesBy word v r

-- what is made of SET and the logs, once they are read
abbrev pub IsSteering : ℕ → List Operand → ReadLog → List ReadLog → Result (List ℕ) Refusal → Type 0
IsSteering word files read reads = Next (IsNetSet word read) (λ set. Next (IsJoined files reads) (IsSteered word set))

abbrev pub IsSteer : Operand → List Operand → Check (List ℕ)
IsSteer file files =
    Then (IsLog FULL_ALLOWANCE file.place file.text) (λ read. Then (IsLogs FULL_ALLOWANCE files) (λ reads. Judged (IsSteering file.place files read reads)))
