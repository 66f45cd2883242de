-- The nodes of the net commands, and the numbers of the drawn ones.
use Rattle.std.specs.Prelude.{◌≡◌, ◌⊎◌, ◌<◌, ◌≤◌, ℕ, List, [], ◌∷◌, ◌++◌, Vec, length, slice_get, slice_set, Option, Some, None}
use Rattle.std.specs.Global.{Global}
use Rattle.std.specs.Option.{option_and_then}
use Rattle.sync_path.specs.Paths.{Node}
use Rattle.sync_command.specs.declared.commands.Row.{Row}
use Rattle.sync_command.specs.Changes.{Change}
use Rattle.pref_list.specs.declared.numbers.Chains.{Chains}
use Rattle.pref_list.specs.declared.numbers.Numbers.{Numbers}
use Rattle.refluent.specs.Joints.{Joined, path_at}
use Rattle.refluent.specs.declared.joint.Pick.{Pick}
use Rattle.pref_list.specs.Picks.{command_of, log_of}
use Rattle.pref_list.specs.Ranking.{set_from, set_of}

-- ---- nodes

-- the place of a node among the nodes of a joint
abbrev pub IsNodeAt : List Row → ℕ → Node → Type 0
IsNodeAt nodes place p = path_at nodes place ≡ Some p

-- the places of the nodes of a set's commands
pub record AreNodesOf (nodes : List Row) (cs : List Change) (places : List ℕ) : Type 0 where
  pub many : length places ≡ length cs
  pub each : (i place : ℕ) (c : Change) → slice_get places i ≡ Some place → slice_get cs i ≡ Some c → IsNodeAt nodes place c.node

-- those of all sets, one list for each
pub record AreAllNodesOf (nodes : List Row) (sets : List (List Change)) (lists : List (Vec ℕ Global)) : Type 0 where
  pub many : length lists ≡ length sets
  pub each : (l : ℕ) (places : Vec ℕ Global) → slice_get lists l ≡ Some places → AreNodesOf nodes (set_from sets l) places.items

-- ---- numbers

-- the command of a number
abbrev pub numbered : List (List Change) → List Pick → ℕ → Option Change
numbered sets picks m = option_and_then (command_of sets) (slice_get picks m)

-- the numbers of a set's commands
pub record AreNumbersOf (sets : List (List Change)) (picks : List Pick) (cs : List Change) (numbers : List ℕ) : Type 0 where
  pub many : length numbers ≡ length cs
  pub each : (i m : ℕ) (c : Change) → slice_get numbers i ≡ Some m → slice_get cs i ≡ Some c → numbered sets picks m ≡ Some c

-- the picks are of different commands
abbrev pub AreDifferent : List (List Change) → List Pick → Type 0
AreDifferent sets picks = (m n : ℕ) (c : Change) → numbered sets picks m ≡ Some c → numbered sets picks n ≡ Some c → m ≡ n

-- each pick is of a command, and of the least log that has it
abbrev pub AreLeast : List (List Change) → List Pick → Type 0
AreLeast sets picks = (m : ℕ) (pick : Pick) → slice_get picks m ≡ Some pick → (c : Change) × (command_of sets pick ≡ Some c) × (pick.log ≡ log_of sets c)

-- a pick comes before another: it is of an earlier log, or at an earlier place of the same one
abbrev pub ComesBefore : Pick → Pick → Type 0
ComesBefore a b = (a.log < b.log) ⊎ ((a.log ≡ b.log) × (a.place < b.place))

-- the picks go by their logs, and within a log by their places
abbrev pub AreInOrder : List Pick → Type 0
AreInOrder picks = (m n : ℕ) (a b : Pick) → m < n → slice_get picks m ≡ Some a → slice_get picks n ≡ Some b → ComesBefore a b

-- they do, and all come before the place of the log
pub record AreBefore (picks : List Pick) (log place : ℕ) : Type 0 where
  pub order : AreInOrder picks
  pub all : (m : ℕ) (a : Pick) → slice_get picks m ≡ Some a → ComesBefore a (record { log = log; place = place })

-- each drawn command has one number, which is that of its pick, and each net command has the number of the equal drawn
-- one; the numbers go by the least log that has the command, and then by the place in its net set
pub record AreNumbered (sets : List (List Change)) (picks : List Pick) (lists : List (Vec ℕ Global)) : Type 0 where
  pub many : length lists ≡ length sets
  pub each : (l : ℕ) (numbers : Vec ℕ Global) → slice_get lists l ≡ Some numbers → AreNumbersOf sets picks (set_from sets l) numbers.items
  pub different : AreDifferent sets picks
  pub least : AreLeast sets picks
  pub order : AreInOrder picks

-- all commands of the first so many sets have numbers
abbrev pub AreCovered : List (List Change) → List Pick → ℕ → Type 0
AreCovered sets picks n = (l i : ℕ) (c : Change) → l < n → slice_get (set_from sets l) i ≡ Some c → (m : ℕ) × (numbered sets picks m ≡ Some c)

-- numbers keep their commands
abbrev pub KeepNumbers : List (List Change) → List Pick → List Pick → Type 0
KeepNumbers sets old new = (m : ℕ) (c : Change) → numbered sets old m ≡ Some c → numbered sets new m ≡ Some c

-- the pick is of a net command
pub record IsPick (sets : List (List Change)) (pick : Pick) : Type 0 where
  pub low : 0 < pick.log
  pub high : pick.log ≤ length sets
  pub place : pick.place < length (set_of sets pick.log)

-- ---- the lists of equal nodes

-- the command of the number names the node
abbrev pub Names : List (List Change) → List Pick → ℕ → Node → Type 0
Names sets picks m p = (c : Change) × (numbered sets picks m ≡ Some c) × (c.node ≡ p)

-- the last number below a bound of a command that names the node, if there is one
abbrev pub IsLastOf : List (List Change) → List Pick → Node → ℕ → Option ℕ → Type 0
IsLastOf sets picks p bound None = (x : ℕ) (c : Change) → x < bound → numbered sets picks x ≡ Some c → c.node ≡ p → ⊥
IsLastOf sets picks p bound (Some m) = (m < bound) × Names sets picks m p × ((x : ℕ) (c : Change) → m < x → x < bound → numbered sets picks x ≡ Some c → c.node ≡ p → ⊥)

-- for each number the last one before it whose command names the same node
pub record AreLinked (sets : List (List Change)) (picks : List Pick) (nexts : List (Option ℕ)) : Type 0 where
  pub many : length nexts ≡ length picks
  pub each : (m : ℕ) (o : Option ℕ) (c : Change) → slice_get nexts m ≡ Some o → numbered sets picks m ≡ Some c → IsLastOf sets picks c.node m o
  pub least : AreLeast sets picks

-- and for each node the last number of a command that names it
pub record AreChained (sets : List (List Change)) (nodes : List Row) (picks : List Pick) (heads nexts : List (Option ℕ)) : Type 0 where
  pub linked : AreLinked sets picks nexts
  pub many : length heads ≡ length nodes
  pub each : (place : ℕ) (o : Option ℕ) (p : Node) → slice_get heads place ≡ Some o → IsNodeAt nodes place p → IsLastOf sets picks p (length picks) o
  pub different : AreDifferent sets picks

-- the lists of a joint's commands
abbrev pub IsChainsOf : Joined → Chains → Type 0
IsChainsOf j chains = AreChained j.sets j.nodes chains.picks.items chains.heads.items chains.nexts.items

-- the numbers of a joint's commands
abbrev pub IsNumberingOf : Joined → Numbers → Type 0
IsNumberingOf j numbers = AreNumbered j.sets numbers.picks.items numbers.lists.items

-- one more pick, with its links
pub record AddsPick (picks : List Pick) (heads nexts : List (Option ℕ)) (node : ℕ) (pick : Pick) (new_picks : List Pick) (new_heads new_nexts : List (Option ℕ)) (number : ℕ) : Type 0 where
  pub head : Option ℕ
  pub before : slice_get heads node ≡ Some head
  pub number_is : number ≡ length picks
  pub picks_are : new_picks ≡ picks ++ pick ∷ []
  pub heads_are : new_heads ≡ slice_set heads node (Some number)
  pub nexts_are : new_nexts ≡ nexts ++ head ∷ []
