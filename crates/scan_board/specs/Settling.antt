-- When a board is settled, in terms of its tables, and what holds during a turn.
use Rattle.std.specs.Prelude.{◌≡◌, ℕ, ◌<◌, Bool, true, false, not, ◌&&◌, Option, Some, ◌⊎◌, [], slice_index}
use Rattle.sync_command.specs.declared.values.Kind.{Kind}
use Rattle.sync_command.specs.declared.values.Kind.TheVariants.{Empty, Dir, File}
use Rattle.scan_board.specs.declared.board.Mark.{Mark}
use Rattle.scan_board.specs.declared.board.Mark.TheVariants.{Open, Taken, Blocked}
use Rattle.scan_board.specs.Tables.{Tables, State, IsSound, mark_of, node_of, leaves_of, starts_of, parent_of, in_row, is_bare, is_shut, count, command_count, node_count}
use Rattle.scan_board.specs.Turns.{IsUnderNode, IsAtOrUnder, IsOnWay, IsIn, IsDeep}

-- the first leaves its node other than a directory, and the second something below that node
abbrev pub IsOver : Tables → ℕ → ℕ → Type 0
IsOver t i j = (leaves_of t i ≡ Dir → ⊥) × IsUnderNode t (node_of t j) (node_of t i) × (leaves_of t j ≡ Empty → ⊥)

-- no set that fits has both
abbrev pub Clash : Tables → ℕ → ℕ → Type 0
Clash t i j = ((node_of t i ≡ node_of t j) × (i ≡ j → ⊥)) ⊎ (IsOver t i j ⊎ IsOver t j i)

-- blocked is exactly what clashes with a taken one
pub record IsExact (s : State) : Type 0 where
  pub blocked : (i : ℕ) → i < command_count s.tables → mark_of s i ≡ Blocked → (j : ℕ) × (j < command_count s.tables) × (mark_of s j ≡ Taken) × Clash s.tables i j
  pub clash : (i j : ℕ) → i < command_count s.tables → j < command_count s.tables → mark_of s j ≡ Taken → Clash s.tables i j → mark_of s i ≡ Blocked

-- what bare says between turns
pub record IsBareRight (s : State) : Type 0 where
  pub row : (n i : ℕ) → is_bare s n ≡ true → i < command_count s.tables → parent_of s.tables (node_of s.tables i) ≡ Some n → (leaves_of s.tables i ≡ Empty → ⊥) → mark_of s i ≡ Blocked
  pub down : (n m : ℕ) → is_bare s n ≡ true → m < node_count s.tables → parent_of s.tables m ≡ Some n → starts_of s.tables m ≡ Dir → is_bare s m ≡ true

-- above what a command leaves, each node that is no directory has a command that makes it one
abbrev pub IsMade : Tables → Type 0
IsMade t = (i m : ℕ) → i < command_count t → (leaves_of t i ≡ Empty → ⊥) → IsUnderNode t (node_of t i) m → (starts_of t m ≡ Dir → ⊥) → (e : ℕ) × (e < command_count t) × (node_of t e ≡ m) × (leaves_of t e ≡ Dir)

abbrev pub BareIsDeep : Type 0
BareIsDeep = (s : State) → IsSound s.tables → IsExact s → IsBareRight s → IsMade s.tables → IsDeep s

abbrev pub is_dir_kind : Kind → Bool
is_dir_kind Empty = false
is_dir_kind Dir = true
is_dir_kind File = false

abbrev pub is_blocked_mark : Mark → Bool
is_blocked_mark Open = false
is_blocked_mark Taken = false
is_blocked_mark Blocked = true

-- a command of the node that leaves a directory and isn't blocked; a node may have several, with different labels
abbrev pub keeps_dir : State → ℕ → ℕ → Bool
keeps_dir s n i = in_row s.tables n i && (is_dir_kind (leaves_of s.tables i) && not (is_blocked_mark (mark_of s i)))

-- what dirs says, at each moment
abbrev pub IsDirsRight : State → Type 0
IsDirsRight s = (n : ℕ) → n < node_count s.tables → slice_index s.dirs n ≡ count (keeps_dir s n) (command_count s.tables)

-- what shut says between turns
pub record IsShutRight (s : State) : Type 0 where
  pub row : (n i : ℕ) → is_shut s n ≡ true → i < command_count s.tables → node_of s.tables i ≡ n → (leaves_of s.tables i ≡ Dir → ⊥) → mark_of s i ≡ Blocked
  pub parent : (n p : ℕ) → n < node_count s.tables → is_shut s n ≡ true → parent_of s.tables n ≡ Some p → is_shut s p ≡ true

-- The invariant of the scan, between turns. The pile is empty; blocked is exactly what clashes with a taken one; the three tallies say what they stand for.
pub record IsSettled (s : State) : Type 0 where
  pub pile : s.pile ≡ []
  pub exact : IsExact s
  pub dirs : IsDirsRight s
  pub shut : IsShutRight s
  pub bare : IsBareRight s

-- What a walk up from a node has done, at each moment of it: only what leaves a node of the way other than a directory became blocked, only nodes of the way became shut.
pub record IsUpWalk (s r : State) (first : Option ℕ) : Type 0 where
  pub why : (i : ℕ) → i < command_count s.tables → (mark_of r i ≡ mark_of s i) ⊎ (IsOnWay s.tables first (node_of s.tables i) × (leaves_of s.tables i ≡ Dir → ⊥))
  pub shut : (n : ℕ) → is_shut r n ≡ true → (is_shut s n ≡ true) ⊎ IsOnWay s.tables first n
  pub dirs : IsDirsRight s → IsDirsRight r

-- What a walk down from a node has done, at each moment of it: only what leaves a node below the start non-empty became blocked, and only nodes at or below the start became bare or came on the pile.
pub record IsSoundDown (s r : State) (start : ℕ) : Type 0 where
  pub why : (i : ℕ) → i < command_count s.tables → (mark_of r i ≡ mark_of s i) ⊎ (IsUnderNode s.tables (node_of s.tables i) start × (leaves_of s.tables i ≡ Empty → ⊥))
  pub bare : (n : ℕ) → is_bare r n ≡ true → (is_bare s n ≡ true) ⊎ IsAtOrUnder s.tables n start
  pub kept : (n : ℕ) → is_bare s n ≡ true → is_bare r n ≡ true
  pub pile : (m : ℕ) → IsIn r.pile m → IsAtOrUnder s.tables m start
  pub dirs : IsDirsRight s → IsDirsRight r

-- what a command of a child may have become when the children of a node were walked
abbrev pub OnlyBelow : State → State → ℕ → Type 0
OnlyBelow s r n = (i : ℕ) → i < command_count s.tables → (mark_of r i ≡ mark_of s i) ⊎ ((parent_of s.tables (node_of s.tables i) ≡ Some n) × (leaves_of s.tables i ≡ Empty → ⊥))

-- only children of the node came on the pile
abbrev pub PilesBelow : State → State → ℕ → Type 0
PilesBelow s r n = (m : ℕ) → IsIn r.pile m → IsIn s.pile m ⊎ (parent_of s.tables m ≡ Some n)

-- what became bare has its children bare
abbrev pub IsCoveredDown : State → State → Type 0
IsCoveredDown s r = (n m : ℕ) → is_bare r n ≡ true → is_bare s n ≡ false → m < node_count s.tables → parent_of s.tables m ≡ Some n → is_bare r m ≡ true
