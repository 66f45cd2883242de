-- A step of a log, by the tree and the sum that it leaves.
use Rattle.std.specs.Prelude.{◌≡◌, ◌⊎◌, ℕ, true, List, [], ◌∷◌, ◌++◌}
use Rattle.sync_command.specs.Changes.{Change, is_change}
use Rattle.sync_command.specs.Maps.{Store, at, store}
use Rattle.sync_command.specs.Trees.{Holding, IsApplicable}
use Rattle.canon_set.specs.Sums.{Sum, StandsFor}
use Rattle.sync_drill.specs.DrillLogs.{IsDone, IsLog}

-- the tree is the result of the command, and the log has it
pub record IsAdded (m : Store) (s : Sum) (c : Change) (n : Store) (u : Sum) : Type 0 where
  pub tree : n ≡ store m c.node c.new
  pub log : (cs : List Change) → StandsFor s cs → StandsFor u (cs ++ c ∷ [])

-- the tree and the log are what they were
pub record IsLeft (m : Store) (s : Sum) (n : Store) (u : Sum) : Type 0 where
  pub tree : n ≡ m
  pub log : u ≡ s

-- a command is done where the tree takes it
abbrev pub IsCommandStep : Store → Sum → Change → Store → Sum → Type 0
IsCommandStep m s c n u = (IsApplicable (at m) c × IsAdded m s c n u) ⊎ ((IsApplicable (at m) c → ⊥) × IsLeft m s n u)

-- and where it changes a value
abbrev pub IsStep : Store → Sum → Change → Store → Sum → Type 0
IsStep m s c n u = (IsDone (at m) c × IsAdded m s c n u) ⊎ ((IsDone (at m) c → ⊥) × IsLeft m s n u)

-- The sum and the tree after some steps of a log that began at a tree: whatever the steps left make of that tree, the
-- log is that of all the steps.
pub record IsWalked (t : Holding) (x steps : ℕ) (m : Store) (s : Sum) (now left : ℕ) : Type 0 where
  pub log : List Change
  pub stands : StandsFor s log
  pub goes_on : (rest : List Change) → IsLog (at m) now left rest → IsLog t x steps (log ++ rest)

-- the sum is that of the log that so many steps from the tree and the state make
abbrev pub IsSumOfLog : Holding → ℕ → ℕ → Sum → Type 0
IsSumOfLog t x steps s = (log : List Change) × StandsFor s log × IsLog t x steps log
