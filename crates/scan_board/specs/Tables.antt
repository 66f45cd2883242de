-- The tables of a board, its marks and tallies, and its credit.
use Rattle.std.specs.Global.{Global}
use Rattle.pref_list.specs.declared.numbers.Numbers.{Numbers}
use Rattle.std.specs.Prelude.{◌≡◌, ℕ, zero, suc, ◌+◌, ◌*◌, ◌<◌, Bool, true, false, not, ◌&&◌, ◌||◌, Vec, List, [], length, slice_get, Option, Some, None, unwrap_or, if◌then◌else◌, nat_eq, slice_index, slice_index_or}
use Rattle.sync_command.specs.declared.values.Kind.{Kind}
use Rattle.sync_command.specs.declared.values.Kind.TheVariants.{Empty}
use Rattle.scan_board.specs.declared.board.Mark.{Mark}
use Rattle.scan_board.specs.declared.board.Mark.TheVariants.{Open, Taken, Blocked}

-- what a board never changes: the numbers of the drawn commands, and the columns of its commands and of its nodes
pub record Tables : Type 0 where
  pub numbers : Numbers
  pub nodes : List ℕ
  pub leaves : List Kind
  pub nexts : List (Option ℕ)
  pub starts : List Kind
  pub parents : List (Option ℕ)
  pub children : List (Option ℕ)
  pub siblings : List (Option ℕ)
  pub firsts : List ℕ

-- a board: its tables, its marks and tallies, and its pile
pub record State : Type 0 where
  pub tables : Tables
  pub marks : List Mark
  pub dirs : List ℕ
  pub shut : List Bool
  pub bare : List Bool
  pub pile : List ℕ

abbrev pub items_or : Option (Vec ℕ Global) → List ℕ
items_or None = []
items_or (Some v) = v.items

-- the numbers of a log's net commands; no log has the number 0
abbrev pub numbers_of : List (Vec ℕ Global) → ℕ → List ℕ
numbers_of lists zero = []
numbers_of lists (suc log) = items_or (slice_get lists log)

-- the number of the drawn command at a place of a log's net set
abbrev pub number_at : Tables → ℕ → ℕ → Option ℕ
number_at t log place = slice_get (numbers_of t.numbers.lists.items log) place

abbrev pub command_count : Tables → ℕ
command_count t = length t.nodes

abbrev pub node_count : Tables → ℕ
node_count t = length t.firsts

abbrev pub node_of : Tables → ℕ → ℕ
node_of t i = slice_index t.nodes i

abbrev pub leaves_of : Tables → ℕ → Kind
leaves_of t i = slice_index_or t.leaves i Empty

abbrev pub next_of : Tables → ℕ → Option ℕ
next_of t i = slice_index_or t.nexts i None

abbrev pub starts_of : Tables → ℕ → Kind
starts_of t n = slice_index_or t.starts n Empty

abbrev pub parent_of : Tables → ℕ → Option ℕ
parent_of t n = slice_index_or t.parents n None

abbrev pub child_of : Tables → ℕ → Option ℕ
child_of t n = slice_index_or t.children n None

abbrev pub sibling_of : Tables → ℕ → Option ℕ
sibling_of t n = slice_index_or t.siblings n None

abbrev pub first_of : Tables → ℕ → ℕ
first_of t n = slice_index t.firsts n

abbrev pub mark_of : State → ℕ → Mark
mark_of s i = slice_index_or s.marks i Blocked

abbrev pub is_shut : State → ℕ → Bool
is_shut s n = slice_index_or s.shut n false

abbrev pub is_bare : State → ℕ → Bool
is_bare s n = slice_index_or s.bare n false

-- the lists of commands and of children: each leads to the next of its kind, and past the end where there is none
pub record IsSound (t : Tables) : Type 0 where
  pub leaves : length t.leaves ≡ length t.nodes
  pub nexts : length t.nexts ≡ length t.nodes
  pub starts : length t.starts ≡ length t.firsts
  pub parents : length t.parents ≡ length t.firsts
  pub children : length t.children ≡ length t.firsts
  pub siblings : length t.siblings ≡ length t.firsts
  pub number_in : (log place i : ℕ) → number_at t log place ≡ Some i → i < length t.nodes
  pub node_in : (i : ℕ) → i < length t.nodes → node_of t i < length t.firsts
  pub first_in : (n : ℕ) → n < length t.firsts → first_of t n < length t.nodes
  pub first_at : (n : ℕ) → n < length t.firsts → node_of t (first_of t n) ≡ n
  pub first_least : (n j : ℕ) → n < length t.firsts → j < first_of t n → node_of t j ≡ n → ⊥
  pub next_in : (i : ℕ) → i < length t.nodes → i < unwrap_or (next_of t i) (length t.nodes)
  pub next_at : (i k : ℕ) → i < length t.nodes → next_of t i ≡ Some k → (k < length t.nodes) × (node_of t k ≡ node_of t i)
  pub next_least : (i j : ℕ) → i < length t.nodes → i < j → j < unwrap_or (next_of t i) (length t.nodes) → node_of t j ≡ node_of t i → ⊥
  pub parent_in : (n p : ℕ) → n < length t.firsts → parent_of t n ≡ Some p → p < n
  pub child_at : (n m : ℕ) → n < length t.firsts → child_of t n ≡ Some m → (m < length t.firsts) × (parent_of t m ≡ Some n)
  pub child_least : (n m : ℕ) → n < length t.firsts → m < unwrap_or (child_of t n) (length t.firsts) → parent_of t m ≡ Some n → ⊥
  pub sibling_in : (m : ℕ) → m < length t.firsts → m < unwrap_or (sibling_of t m) (length t.firsts)
  pub sibling_at : (m k : ℕ) → m < length t.firsts → sibling_of t m ≡ Some k → (k < length t.firsts) × (parent_of t k ≡ parent_of t m)
  pub sibling_least : (m k p : ℕ) → m < length t.firsts → m < k → k < unwrap_or (sibling_of t m) (length t.firsts) → parent_of t m ≡ Some p → parent_of t k ≡ Some p → ⊥

-- the columns of a board, and the pile's bound
pub record IsBoard (s : State) : Type 0 where
  pub sound : IsSound s.tables
  pub marks : length s.marks ≡ length s.tables.nodes
  pub dirs : length s.dirs ≡ length s.tables.firsts
  pub shut : length s.shut ≡ length s.tables.firsts
  pub bare : length s.bare ≡ length s.tables.firsts

-- how many numbers below n pass
unfoldable pub count : (ℕ → Bool) → ℕ → ℕ
count p zero = 0
count p (suc n) = (if p n then 1 else 0) + count p n

abbrev pub is_open_mark : Mark → Bool
is_open_mark Open = true
is_open_mark Taken = false
is_open_mark Blocked = false

abbrev pub is_taken_mark : Mark → Bool
is_taken_mark Open = false
is_taken_mark Taken = true
is_taken_mark Blocked = false

-- the commands of a node
abbrev pub in_row : Tables → ℕ → ℕ → Bool
in_row t n i = nat_eq (node_of t i) n

abbrev pub is_number : Option ℕ → ℕ → Bool
is_number None n = false
is_number (Some p) n = nat_eq p n

-- the commands of the children of a node
abbrev pub is_below : Tables → ℕ → ℕ → Bool
is_below t n i = is_number (parent_of t (node_of t i)) n

abbrev pub is_open : State → ℕ → Bool
is_open s i = is_open_mark (mark_of s i)

-- some command below n of the node is taken
abbrev pub has_taken : State → ℕ → ℕ → Bool
has_taken s node zero = false
has_taken s node (suc n) = (is_taken_mark (mark_of s n) && in_row s.tables node n) || has_taken s node n

abbrev pub is_unshut : State → ℕ → Bool
is_unshut s i = not (is_shut s (node_of s.tables i))

abbrev pub is_bare_at : State → Option ℕ → Bool
is_bare_at s None = true
is_bare_at s (Some p) = is_bare s p

abbrev pub is_covered : State → ℕ → Bool
is_covered s i = not (is_bare_at s (parent_of s.tables (node_of s.tables i)))

abbrev pub is_untaken : State → ℕ → Bool
is_untaken s i = not (has_taken s (node_of s.tables i) (command_count s.tables))

abbrev pub opens : State → ℕ
opens s = count (is_open s) (command_count s.tables)

abbrev pub unshut : State → ℕ
unshut s = count (is_unshut s) (command_count s.tables)

abbrev pub covered : State → ℕ
covered s = count (is_covered s) (command_count s.tables)

abbrev pub untaken : State → ℕ
untaken s = count (is_untaken s) (command_count s.tables)

-- what the scan may still spend
abbrev pub credit : State → ℕ
credit s = 8 * opens s + 3 * unshut s + 6 * covered s + untaken s
