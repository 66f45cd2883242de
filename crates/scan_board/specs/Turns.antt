-- What the steps of a turn do to a board.
use Rattle.std.specs.Prelude.{◌≡◌, ℕ, zero, suc, ◌<◌, Bool, true, false, ◌&&◌, ◌⊎◌, List, [], ◌∷◌, Option, Some, None, if◌then◌else◌, ◌+◌, ◌*◌, ◌≤◌, nat_lt}
use Rattle.sync_command.specs.declared.values.Kind.{Kind}
use Rattle.sync_command.specs.declared.values.Kind.TheVariants.{Empty, Dir, File}
use Rattle.scan_board.specs.declared.board.Mark.{Mark}
use Rattle.scan_board.specs.declared.board.Mark.TheVariants.{Open, Taken, Blocked}
use Rattle.scan_board.specs.declared.turning.Rule.{Rule}
use Rattle.scan_board.specs.declared.turning.Rule.TheVariants.{All, NotDir, NotEmpty}
use Rattle.scan_board.specs.Tables.{Tables, State, mark_of, in_row, is_below, is_open, leaves_of, node_of, parent_of, command_count, node_count, is_bare, is_shut, credit}

abbrev pub falls_under_rule : Rule → Kind → Bool
falls_under_rule All k = true
falls_under_rule NotDir Empty = true
falls_under_rule NotDir Dir = false
falls_under_rule NotDir File = true
falls_under_rule NotEmpty Empty = false
falls_under_rule NotEmpty Dir = true
falls_under_rule NotEmpty File = true

-- what the mark of a command is after the row of a node has been blocked by a rule
abbrev pub blocked_by : State → ℕ → Rule → ℕ → Mark
blocked_by s n rule i = if in_row s.tables n i && (is_open s i && falls_under_rule rule (leaves_of s.tables i)) then Blocked else mark_of s i

-- open commands may have become blocked, and no other mark changed
abbrev pub Grows : State → State → Type 0
Grows s r = (i : ℕ) → i < command_count s.tables → (mark_of r i ≡ mark_of s i) ⊎ ((mark_of s i ≡ Open) × (mark_of r i ≡ Blocked))

abbrev pub IsOptionWithin : Option ℕ → ℕ → Type 0
IsOptionWithin None n = Unit {0}
IsOptionWithin (Some k) n = k < n

abbrev pub IsWithin : List ℕ → ℕ → Type 0
IsWithin [] n = Unit {0}
IsWithin (x ∷ xs) n = (x < n) × IsWithin xs n

-- where a command of a node is taken, no other is open
abbrev pub IsAlone : State → Type 0
IsAlone s = (i j : ℕ) → i < command_count s.tables → j < command_count s.tables → node_of s.tables i ≡ node_of s.tables j → mark_of s j ≡ Taken → mark_of s i ≡ Open → ⊥

-- the commands of the children of a node that lie below m
abbrev pub is_upto : Tables → ℕ → ℕ → ℕ → Bool
is_upto t n m i = is_below t n i && nat_lt (node_of t i) m

abbrev pub height : Option ℕ → ℕ
height None = 0
height (Some k) = k + 1

abbrev pub IsIn : List ℕ → ℕ → Type 0
IsIn [] m = ⊥
IsIn (x ∷ xs) m = (m ≡ x) ⊎ IsIn xs m

abbrev pub parent_at : Tables → Option ℕ → Option ℕ
parent_at t None = None
parent_at t (Some n) = parent_of t n

-- k parents up
abbrev pub up : Tables → ℕ → Option ℕ → Option ℕ
up t zero o = o
up t (suc k) o = up t k (parent_at t o)

-- the node is n or below it, as far as the table says
abbrev pub IsAtOrUnder : Tables → ℕ → ℕ → Type 0
IsAtOrUnder t m n = (k : ℕ) × (up t k (Some m) ≡ Some n)

abbrev pub IsUnderNode : Tables → ℕ → ℕ → Type 0
IsUnderNode t m n = (k : ℕ) × (up t k (parent_of t m) ≡ Some n)

-- each command of a child that leaves it non-empty is no longer open
abbrev pub IsClosedBelow : State → ℕ → Type 0
IsClosedBelow s n = (i : ℕ) → i < command_count s.tables → parent_of s.tables (node_of s.tables i) ≡ Some n → (leaves_of s.tables i ≡ Empty → ⊥) → is_open s i ≡ false

-- the children are all on the pile
abbrev pub IsPiled : State → ℕ → Type 0
IsPiled s n = (m : ℕ) → m < node_count s.tables → parent_of s.tables m ≡ Some n → IsIn s.pile m

-- at nodes that are bare, and at those below them, no command that leaves a node below non-empty is open
abbrev pub IsDeep : State → Type 0
IsDeep s = (n i : ℕ) → is_bare s n ≡ true → i < command_count s.tables → IsUnderNode s.tables (node_of s.tables i) n → (leaves_of s.tables i ≡ Empty → ⊥) → is_open s i ≡ false

-- only commands of children of the node change
abbrev pub ChangesBelow : State → State → ℕ → Type 0
ChangesBelow s r n = (i : ℕ) → i < command_count s.tables → (parent_of s.tables (node_of s.tables i) ≡ Some n → ⊥) → mark_of r i ≡ mark_of s i

-- what shut says between turns
pub record IsShutOk (s : State) : Type 0 where
  pub row : (n i : ℕ) → is_shut s n ≡ true → i < command_count s.tables → node_of s.tables i ≡ n → (leaves_of s.tables i ≡ Dir → ⊥) → is_open s i ≡ false
  pub parent : (n p : ℕ) → n < node_count s.tables → is_shut s n ≡ true → parent_of s.tables n ≡ Some p → is_shut s p ≡ true

abbrev pub IsOnWay : Tables → Option ℕ → ℕ → Type 0
IsOnWay t first q = (k : ℕ) × (up t k first ≡ Some q)
