-- What a joint keeps beside what is seen of it: its tables.
use Rattle.std.specs.Prelude.{◌≡◌, ◌≤◌, ◌+◌, ℕ, List, length, slice_get, slice_range, Option, Some, None}
use Rattle.sync_path.specs.Paths.{Node, parent}
use Rattle.sync_command.specs.declared.commands.Row.{Row}
use Rattle.sync_command.specs.Changes.{Change}
use Rattle.refluent.specs.Drawn.{drawn_of}
use Rattle.refluent.specs.Families.{IsFirstChild}
use Rattle.refluent.specs.Joints.{IsJoint, path_at}
use Rattle.refluent.specs.Picks.{IsParentPlace, net_commands}
use Rattle.refluent.specs.declared.joint.TheConstants.{MAX_LOGS}
use Rattle.refluent.specs.declared.joint.Link.{Link}
use Rattle.refluent.specs.declared.joint.Pick.{Pick}

abbrev pub start_or : Option Link → ℕ → ℕ
start_or None n = n
start_or (Some link) n = link.start

-- where the net commands of the node at a place begin among all; past the last node, where all end
abbrev pub start_at : List Link → List Pick → ℕ → ℕ
start_at links picks place = start_or (slice_get links place) (length picks)

-- the tables of a joint
pub record IsHeld (sets : List (List Change)) (nodes : List Row) (links : List Link) (picks : List Pick) (drawn : ℕ) : Type 0 where
  pub joint : IsJoint (record { sets = sets; nodes = nodes })
  pub few : length sets ≤ MAX_LOGS
  pub many : length links ≡ length nodes
  -- each link has the place of the node's parent
  pub parents : (i : ℕ) (row : Row) (link : Link) → slice_get nodes i ≡ Some row → slice_get links i ≡ Some link →
      IsParentPlace nodes (parent row.path) link.parent
  -- the picks of a node are the net commands that name it
  pub bounds : (i : ℕ) (row : Row) → slice_get nodes i ≡ Some row →
      (start_at links picks i ≤ start_at links picks (i + 1)) × (start_at links picks (i + 1) ≤ length picks)
  pub commands : (i : ℕ) (row : Row) → slice_get nodes i ≡ Some row →
      slice_range picks (start_at links picks i) (start_at links picks (i + 1)) ≡ net_commands sets row.path
  -- so many commands are drawn
  pub counted : drawn ≡ length (drawn_of sets)

-- the first child of each node, and after them the first root; and the next sibling of each node
pub record HasFamilies (nodes : List Row) (children siblings : List (Option ℕ)) : Type 0 where
  pub many : length children ≡ length nodes + 1
  pub each : length siblings ≡ length nodes
  pub first : (i : ℕ) (found : Option ℕ) → slice_get children i ≡ Some found →
      (p : Node) → path_at nodes i ≡ Some p → IsFirstChild nodes (Some p) 0 found
  pub roots : (found : Option ℕ) → slice_get children (length nodes) ≡ Some found → IsFirstChild nodes None 0 found
  pub next : (i : ℕ) (found : Option ℕ) → slice_get siblings i ≡ Some found →
      (p : Node) → path_at nodes i ≡ Some p → IsFirstChild nodes (parent p) (i + 1) found
