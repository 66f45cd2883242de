-- What the board of a joint is made of.
use Rattle.std.specs.Prelude.{◌≡◌, ℕ, ◌<◌, Bool, false, ◌&&◌, List, length, Option, Some, None, nat_eq, unwrap_or, slice_index, slice_index_or}
use Rattle.sync_path.specs.Paths.{Node, parent}
use Rattle.sync_command.specs.declared.values.Value.{Value}
use Rattle.sync_command.specs.declared.values.Kind.TheVariants.{Empty}
use Rattle.sync_command.specs.Values.{kind_of}
use Rattle.sync_command.specs.Changes.{Change}
use Rattle.refluent.specs.declared.joint.Pick.{Pick}
use Rattle.refluent.specs.Joints.{Joined, IsJoint, path_at, value_at}
use Rattle.refluent.specs.Picks.{IsParentPlace}
use Rattle.pref_list.specs.Numbers.{IsNodeAt, IsNumberingOf, numbered}
use Rattle.scan_board.specs.declared.board.Card.{Card}
use Rattle.scan_board.specs.declared.board.Spot.{Spot}
use Rattle.scan_board.specs.declared.board.Mark.TheVariants.{Open}
use Rattle.scan_board.specs.declared.building.Naming.{Naming}
use Rattle.scan_board.specs.declared.building.Families.{Families}
use Rattle.scan_board.specs.Boards.{no_card, card_at}
use Rattle.scan_board.specs.Columns.{IsColumn}
use Rattle.scan_board.specs.Linked.{option_at, through, IsLinked}
use Rattle.scan_board.specs.Named.{IsNamed}
use Rattle.scan_board.specs.Tables.{count}
use Rattle.scan_board.specs.Settling.{is_dir_kind}

-- the place of the node of a drawn command
abbrev pub IsKey : Joined → List Pick → ℕ → Option ℕ → Type 0
IsKey j picks i o = (c : Change) → numbered j.sets picks i ≡ Some c → (q : ℕ) × (o ≡ Some q) × IsNodeAt j.nodes q c.node

-- the drawn commands by number, with the places of their nodes, and the nodes that they name
pub record IsNamingOf (j : Joined) (n : Naming) : Type 0 where
  pub joint : IsJoint j
  pub numbers : IsNumberingOf j n.numbers
  pub keys : IsColumn n.keys.items None (IsKey j n.numbers.picks.items) (length n.numbers.picks.items)
  pub rows : IsLinked n.keys.items (length j.nodes) n.rows.heads.items n.rows.nexts.items 0
  pub names : IsNamed n.rows.heads.items n.names.index.items n.names.back.items (length n.rows.heads.items)

-- the number of the parent of a named node, if that is named
abbrev pub IsUp : Joined → Naming → ℕ → Option ℕ → Type 0
IsUp j n i o =
    (p : Node) → path_at j.nodes (slice_index n.names.back.items i) ≡ Some p →
    (q : Option ℕ) × IsParentPlace j.nodes (parent p) q × (o ≡ through n.names.index.items q)

-- the parents of the named nodes, and their children
pub record IsFamiliesOf (j : Joined) (n : Naming) (f : Families) : Type 0 where
  pub parents : IsColumn f.parents.items None (IsUp j n) (length n.names.back.items)
  pub kids : IsLinked f.parents.items (length n.names.back.items) f.kids.heads.items f.kids.nexts.items 0

-- past the end of the spots
abbrev pub no_spot : Spot
no_spot = record {
  starts = Empty;
  parent = None;
  first_child = None;
  next_child = None;
  first = 0;
  tally = record { dirs = 0; shut = false; bare = false };
}

-- the card of a drawn command of which nothing is known
pub record IsCard (j : Joined) (n : Naming) (i : ℕ) (card : Card) : Type 0 where
  pub node : card.node ≡ unwrap_or (through n.names.index.items (option_at n.keys.items i)) 0
  pub leaves : (c : Change) → numbered j.sets n.numbers.picks.items i ≡ Some c → card.leaves ≡ kind_of c.new
  pub next : card.next ≡ option_at n.rows.nexts.items i
  pub mark : card.mark ≡ Open

-- a command of the node leaves a directory
abbrev pub is_dir_of : List Card → ℕ → ℕ → Bool
is_dir_of cards n i = nat_eq (card_at cards i).node n && is_dir_kind (card_at cards i).leaves

-- how many commands of a node leave a directory
abbrev pub IsDirs : List Card → ℕ → ℕ → Type 0
IsDirs cards n dirs = dirs ≡ count (is_dir_of cards n) (length cards)

-- the spot of a named node of which nothing is known
pub record IsSpot (j : Joined) (n : Naming) (f : Families) (counts : List ℕ) (i : ℕ) (spot : Spot) : Type 0 where
  pub starts : (v : Value) → value_at j.nodes (slice_index n.names.back.items i) ≡ Some v → spot.starts ≡ kind_of v
  pub parent : spot.parent ≡ option_at f.parents.items i
  pub child : spot.first_child ≡ option_at f.kids.heads.items i
  pub sibling : spot.next_child ≡ option_at f.kids.nexts.items i
  pub first : spot.first ≡ unwrap_or (option_at n.rows.heads.items (slice_index n.names.back.items i)) 0
  pub dirs : spot.tally.dirs ≡ slice_index counts i
  pub shut : spot.tally.shut ≡ false
  pub bare : spot.tally.bare ≡ false
