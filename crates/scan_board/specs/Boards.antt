-- The board of a joint.
use Rattle.std.specs.Prelude.{◌≡◌, ℕ, zero, suc, ◌<◌, if◌then◌else◌, List, [], ◌∷◌, length, slice_index_or, slice_index, Option, Some, None}
use Rattle.std.specs.Option.{option_and_then}
use Rattle.sync_path.specs.Paths.{Node, parent}
use Rattle.sync_command.specs.declared.values.Value.{Value}
use Rattle.sync_command.specs.declared.values.Value.TheVariants as value
use Rattle.sync_command.specs.declared.commands.Row.{Row}
use Rattle.sync_command.specs.Values.{kind_of}
use Rattle.sync_command.specs.Changes.{Change}
use Rattle.refluent.specs.Joints.{Joined, IsJoint, path_at, value_at}
use Rattle.pref_list.specs.Numbers.{numbered, IsNumberingOf}
use Rattle.refluent.specs.declared.joint.Pick.{Pick}
use Rattle.sync_command.specs.declared.values.Kind.TheVariants.{Empty}
use Rattle.scan_board.specs.declared.board.Card.{Card}
use Rattle.scan_board.specs.declared.board.Mark.TheVariants.{Open}
use Rattle.scan_board.specs.Tables.{Tables, State, IsSound, IsBoard, node_of, leaves_of, starts_of, parent_of, command_count, node_count, mark_of, is_taken_mark}
use Rattle.scan_board.specs.Settling.{IsSettled}

abbrev pub path_or : Option Node → Node
path_or None = []
path_or (Some p) = p

abbrev pub command_or : Option Change → Change
command_or None = record { node = []; old = value.Empty; new = value.Empty }
command_or (Some c) = c

-- the drawn command of a number
abbrev pub command_numbered : List (List Change) → Tables → ℕ → Change
command_numbered sets t i = command_or (numbered sets t.numbers.picks.items i)

-- the node of a number, by the places of the named nodes among those of a joint
abbrev pub path_named : List Row → List ℕ → ℕ → Node
path_named rows back n = path_or (path_at rows (slice_index back n))

-- the tables are those of the joint: its drawn commands are numbered, `back` has the places of the nodes that they
-- name, in path order, and the columns say what the joint says of them
pub record IsTableOf (j : Joined) (t : Tables) (back : List ℕ) : Type 0 where
  pub sound : IsSound t
  pub numbers : IsNumberingOf j t.numbers
  pub commands : command_count t ≡ length t.numbers.picks.items
  pub names : node_count t ≡ length back
  pub back_in : (n : ℕ) → n < length back → slice_index back n < length j.nodes
  pub rising : (n m : ℕ) → n < m → m < length back → slice_index back n < slice_index back m
  pub node : (i : ℕ) (c : Change) → i < command_count t → numbered j.sets t.numbers.picks.items i ≡ Some c →
      path_at j.nodes (slice_index back (node_of t i)) ≡ Some c.node
  pub leaves : (i : ℕ) (c : Change) → i < command_count t → numbered j.sets t.numbers.picks.items i ≡ Some c →
      leaves_of t i ≡ kind_of c.new
  pub starts : (n : ℕ) (v : Value) → n < length back → value_at j.nodes (slice_index back n) ≡ Some v →
      starts_of t n ≡ kind_of v
  pub above : (n p : ℕ) → n < length back → parent_of t n ≡ Some p →
      parent (path_named j.nodes back n) ≡ Some (path_named j.nodes back p)
  pub root : (n p : ℕ) → n < length back → p < length back →
      parent (path_named j.nodes back n) ≡ Some (path_named j.nodes back p) → parent_of t n ≡ Some p

-- the board is of the joint
pub record IsBoardOf (j : Joined) (t : Tables) : Type 0 where
  pub back : List ℕ
  pub is : IsTableOf j t back

-- all marks are Open
abbrev pub IsFresh : State → Type 0
IsFresh s = (i : ℕ) → i < command_count s.tables → mark_of s i ≡ Open

-- a new board of a joint
pub record IsNew (j : Joined) (s : State) : Type 0 where
  pub joint : IsJoint j
  pub of : IsBoardOf j s.tables
  pub board : IsBoard s
  pub fresh : IsFresh s
  pub settled : IsSettled s

-- the commands of the first so many numbers that are marked Taken, the last first
abbrev pub taken_list : (ℕ → Change) → State → ℕ → List Change
taken_list cmd s zero = []
taken_list cmd s (suc n) = if is_taken_mark (mark_of s n) then cmd n ∷ taken_list cmd s n else taken_list cmd s n

-- the commands of a board that are marked Taken
abbrev pub taken_commands : List (List Change) → State → List Change
taken_commands sets s = taken_list (command_numbered sets s.tables) s (command_count s.tables)

-- past the end of the cards
abbrev pub no_card : Card
no_card = record { node = 0; leaves = Empty; next = None; mark = Open }

abbrev pub card_at : List Card → ℕ → Card
card_at cards i = slice_index_or cards i no_card

abbrev pub taken_cards : List (List Change) → List Pick → List Card → ℕ → List Change
taken_cards sets picks cards zero = []
taken_cards sets picks cards (suc n) =
    if is_taken_mark (card_at cards n).mark then command_or (numbered sets picks n) ∷ taken_cards sets picks cards n else taken_cards sets picks cards n
