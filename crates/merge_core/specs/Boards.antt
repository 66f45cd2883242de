-- Settled boards, and what a scanned board says.
use Rattle.std.specs.Prelude.{◌≡◌, ℕ, ◌<◌, true, false, List, ◌⊎◌, []}
use Rattle.sync_command.specs.Changes.{Change}
use Rattle.sync_command.specs.Trees.{Holding, Fits}
use Rattle.sync_command.specs.Maps.{Store, at}
use Rattle.refluent.specs.Sets.{is_in, IsSubset}
use Rattle.refluent.specs.CommonTrees.{IsCommonTree}
use Rattle.refluent.specs.Drawn.{drawn_commands}
use Rattle.refluent.specs.Joints.{Joined, StandsForAll}
use Rattle.scan_board.specs.declared.board.Mark.TheVariants.{Taken, Blocked}
use Rattle.scan_board.specs.Tables.{State, mark_of, command_count}
use Rattle.scan_board.specs.Settling.{IsDirsRight, IsShutRight, IsBareRight}
use Rattle.scan_board.specs.Boards.{command_numbered}
use Rattle.pref_list.specs.declared.rules.Rule.{Rule}
use Rattle.pref_list.specs.Ranking.{ranking}
use Rattle.merge_core.specs.FirstMergers.{IsFirstMerger}

-- some drawn set that fits has each command whose number passes
pub record HasSet (t : Holding) (drawn : List Change) (cmd : ℕ → Change) (count : ℕ) (P : ℕ → Type 0) : Type 0 where
  pub set : List Change
  pub within : IsSubset set drawn
  pub fits : Fits t set
  pub has : (i : ℕ) → i < count → P i → is_in set (cmd i) ≡ true

abbrev pub IsTaken : State → ℕ → Type 0
IsTaken s j = mark_of s j ≡ Taken

abbrev pub IsTakenOr : State → ℕ → ℕ → Type 0
IsTakenOr s i j = (mark_of s j ≡ Taken) ⊎ (j ≡ i)

-- the pile is empty, some drawn set that fits has all Taken commands, a command is Blocked exactly where no drawn set
-- that fits has it beside all the Taken ones, and the tallies are right
pub record IsSettledFor (t : Holding) (drawn : List Change) (cmd : ℕ → Change) (s : State) : Type 0 where
  pub pile : s.pile ≡ []
  pub taken : HasSet t drawn cmd (command_count s.tables) (IsTaken s)
  pub blocked : (i : ℕ) → i < command_count s.tables → mark_of s i ≡ Blocked →
      HasSet t drawn cmd (command_count s.tables) (IsTakenOr s i) → ⊥
  pub free : (i : ℕ) → i < command_count s.tables → (mark_of s i ≡ Blocked → ⊥) →
      HasSet t drawn cmd (command_count s.tables) (IsTakenOr s i)
  -- of each node, how many of its commands leave a directory and are not Blocked
  pub dirs : IsDirsRight s
  -- where a node is shut, each command that leaves it other than a directory is Blocked, and its parent is shut
  pub shut : IsShutRight s
  -- where a node is bare, each command that leaves a child non-empty is Blocked, and each child that starts as a
  -- directory is bare
  pub bare : IsBareRight s

-- the board is settled for each common tree of the logs that the joint stands for
abbrev pub IsSettledOf : Joined → State → Type 0
IsSettledOf j s = (logs : List (List Change)) (m : Store) → StandsForAll j logs → IsCommonTree m logs →
    IsSettledFor (at m) (drawn_commands logs) (command_numbered j.sets s.tables) s

-- exactly these commands are Taken, and the others are Blocked
abbrev pub IsMarked : (ℕ → Change) → State → List Change → Type 0
IsMarked cmd s ms =
    (i : ℕ) → i < command_count s.tables →
    ((mark_of s i ≡ Taken) × (is_in ms (cmd i) ≡ true)) ⊎ ((mark_of s i ≡ Blocked) × (is_in ms (cmd i) ≡ false))

-- on the board the commands of the first merger under the rules are Taken and all others are Blocked, for all logs that
-- the joint stands for and every common tree of them
abbrev pub IsScannedOf : Joined → List Rule → State → Type 0
IsScannedOf j rules s = (logs : List (List Change)) (m : Store) → StandsForAll j logs → IsCommonTree m logs →
    (ms : List Change) × IsFirstMerger (at m) (drawn_commands logs) (ranking logs rules) ms × IsMarked (command_numbered j.sets s.tables) s ms
