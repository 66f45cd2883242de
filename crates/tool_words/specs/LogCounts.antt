-- How many logs a job has, which of them it names by number, and the other numbers of a job.
use Rattle.std.specs.Prelude.{◌≡◌, ◌<◌, ◌≤◌, length, ⊤}
use Rattle.tool_words.specs.declared.job.Job.{Job}
use Rattle.tool_words.specs.declared.job.Job.TheVariants.{Conflicts, Merge, Transition, Steer, Drill, Sync, Explain, Catchup, Rebase}

-- at most 64, with the recorded work of a rebase; one for each folder; a number is that of one of them; a drill's are within its limits
abbrev pub HasFewLogs : Job → Type 0
HasFewLogs (Conflicts logs) = length logs ≤ 64
HasFewLogs (Merge prefs logs) = length logs ≤ 64
HasFewLogs (Transition number prefs logs) = ((0 < number) × (number ≤ length logs)) × (length logs ≤ 64)
HasFewLogs (Steer set logs) = length logs ≤ 64
HasFewLogs (Drill seed logs steps) = (seed ≤ 2147483647) × ((0 < logs) × (logs ≤ 64)) × (steps ≤ 16384)
HasFewLogs (Sync prefs folders logs) = (0 < length logs) × (length logs ≤ 64) × (length folders ≡ length logs)
HasFewLogs (Explain prefs logs) = length logs ≤ 64
HasFewLogs (Catchup sets) = (0 < length sets) × (length sets ≤ 64)
HasFewLogs (Rebase side prefs work sets) = (0 < length sets) × (length sets < 64)
HasFewLogs job = ⊤
