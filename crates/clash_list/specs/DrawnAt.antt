-- The drawn commands at a node, each with the least log that has it.
use Rattle.std.specs.Prelude.{◌≡◌, ◌<◌, ◌+◌, ◌-◌, ℕ, Bool, true, not, List, [], ◌∷◌, map, slice_get, Option, Some, None}
use Rattle.std.specs.List.{filter}
use Rattle.std.specs.Option.{option_and_then}
use Rattle.sync_path.specs.Paths.{Node}
use Rattle.sync_command.specs.Values.{is_dir, is_empty}
use Rattle.sync_command.specs.Changes.{Change, same_change}
use Rattle.sync_command.specs.Trees.{command_at}
use Rattle.refluent.specs.declared.joint.Pick.{Pick}
use Rattle.clash_list.specs.declared.drawn.Kept.{Kept}
use Rattle.clash_list.specs.declared.drawn.Kept.TheVariants.{Every, NoDirectory, Something}

-- a command with the number of a log
pub record LogCommand : Type 0 where
  pub log : ℕ
  pub change : Change

abbrev pub with_command : ℕ → Option Change → List LogCommand → List LogCommand
with_command log None ds = ds
with_command log (Some c) ds = record { log = log; change = c } ∷ ds

-- the commands of the sets at a node, the first set being that of the log of this number
abbrev pub commands_from : ℕ → List (List Change) → Node → List LogCommand
commands_from log [] p = []
commands_from log (set ∷ sets) p = with_command log (command_at set p) (commands_from (log + 1) sets p)

abbrev pub is_other : LogCommand → LogCommand → Bool
is_other d e = not (same_change e.change d.change)

-- equal commands of several logs once, with the first of the logs
abbrev pub first_of_each : List LogCommand → List LogCommand
first_of_each [] = []
first_of_each (d ∷ ds) = d ∷ filter (is_other d) (first_of_each ds)

-- the drawn commands at a node, each with the least log that has it, by log
abbrev pub drawn_at : List (List Change) → Node → List LogCommand
drawn_at sets p = first_of_each (commands_from 1 sets p)

abbrev pub logs_of : List LogCommand → List ℕ
logs_of ds = map (λ d. d.log) ds

-- ---- which of them

-- every command, those that leave their node other than a directory, or those that leave something there
abbrev pub is_kept : Kept → Change → Bool
is_kept Every c = true
is_kept NoDirectory c = not (is_dir c.new)
is_kept Something c = not (is_empty c.new)

-- the logs of the drawn commands at a node that are kept
abbrev pub logs_at : Kept → List (List Change) → Node → List ℕ
logs_at kept sets p = logs_of (filter (λ d. is_kept kept d.change) (drawn_at sets p))

-- the same where there may be no node
abbrev pub logs_in : Kept → List (List Change) → Option Node → List ℕ
logs_in kept sets None = []
logs_in kept sets (Some p) = logs_at kept sets p

-- ---- picks

-- the command of a pick
abbrev pub command_by : List (List Change) → Pick → Option Change
command_by sets pick = option_and_then (λ set. slice_get set pick.place) (slice_get sets (pick.log - 1))

-- the pick is of a command of one of the sets
pub record IsPick (sets : List (List Change)) (pick : Pick) : Type 0 where
  pub counted : 0 < pick.log
  pub command : Change
  pub is : command_by sets pick ≡ Some command

-- each of the picks is
abbrev pub ArePicks : List (List Change) → List Pick → Type 0
ArePicks sets picks = (i : ℕ) (pick : Pick) → slice_get picks i ≡ Some pick → IsPick sets pick

-- the commands of picks, with their logs
abbrev pub picked : List (List Change) → List Pick → List LogCommand
picked sets [] = []
picked sets (pick ∷ picks) = with_command pick.log (command_by sets pick) (picked sets picks)

-- a command with a log is an equal one
abbrev pub is_same_as : Change → LogCommand → Bool
is_same_as c d = same_change c d.change
