-- The table of nodes over the sorted claims of the logs.
use Rattle.std.specs.Prelude.{◌≡◌, ℕ, ◌<◌, ◌≤◌, Bool, true, false, List, [], ◌∷◌, ◌++◌, length, slice_get, slice_set, Option, Some, None}
use Rattle.std.specs.Ordering.{nat_cmp, ordering_then}
use Rattle.std.specs.declared.cmp.Ordering.{Ordering}
use Rattle.sync_path.specs.Paths.{Node, parent, comes_before, path_cmp}
use Rattle.sync_command.specs.declared.values.Value.TheVariants as value
use Rattle.sync_command.specs.Changes.{Change}
use Rattle.sync_command.specs.Trees.{command_at}
use Rattle.canon_set.specs.Logs.{touches}
use Rattle.canon_set.specs.Leaving.{above, leaves}
use Rattle.canon_set.specs.Sums.{Sum, StandsFor}
use Rattle.canon_set.specs.declared.touches.Touch.{Touch}
use Rattle.refluent.specs.Needs.{Need, Anything, AnyDirectory, Exactly, need, needs_absent}
use Rattle.refluent.specs.FirstDisagreements.{log_at}
use Rattle.refluent.specs.UniqueClaims.{AreUnique}
use Rattle.refluent.specs.Demands.{demanded}
use Rattle.refluent.specs.declared.demands.Demand.{Demand}
use Rattle.refluent.specs.declared.claims.Statement.{Statement}
use Rattle.refluent.specs.declared.claims.Statement.TheVariants.{Above, Touches}
use Rattle.refluent.specs.declared.claims.Claim.{Claim}
use Rattle.refluent.specs.declared.table.Group.{Group}

-- ---- what logs say

abbrev pub said_of : Option Change → Bool → Bool → Option Statement
said_of (Some d) left b = Some (Touches d.old d.new left)
said_of None left true = Some Above
said_of None left false = None

-- what a log says of a node: its values where it touches the node, or that the node is above a touched one
abbrev pub said : List Change → Node → Option Statement
said cs p = said_of (command_at (touches cs) p) (leaves cs p) (above cs p)

-- the claims of logs numbered from 0: each is what its log says, and all that the logs say is claimed
pub record AreClaims (claims : List Claim) (logs : List (List Change)) : Type 0 where
  pub sound : (k : ℕ) (c : Claim) → slice_get claims k ≡ Some c →
      (c.log < length logs) × (said (log_at logs c.log) c.path ≡ Some c.says)
  pub complete : (l : ℕ) (p : Node) (s : Statement) → said (log_at logs l) p ≡ Some s →
      (k : ℕ) × (slice_get claims k ≡ Some (record { path = p; log = l; says = s }))

-- the claims are of logs with numbers below the given one
abbrev pub AreOfLogs : List Claim → ℕ → Type 0
AreOfLogs claims count = (k : ℕ) (c : Claim) → slice_get claims k ≡ Some c → c.log < count

-- ---- what a node may hold for a log

abbrev pub wanted_of : Need → Bool → Need
wanted_of Anything true = Exactly value.Empty
wanted_of Anything false = Anything
wanted_of AnyDirectory b = AnyDirectory
wanted_of (Exactly v) b = Exactly v

-- what a log needs at a node, and Empty at a node that it does not touch under a parent that it leaves
abbrev pub wanted : List Change → Node → Need
wanted cs p = wanted_of (need cs p) (needs_absent cs p)

-- ---- the table

abbrev pub node_in : Option Claim → Node
node_in None = []
node_in (Some c) = c.path

-- the node of a group
abbrev pub node_of : List Claim → Group → Node
node_of claims s = node_in (slice_get claims s.start)

-- the group has all claims of its node and no others
pub record IsGroup (claims : List Claim) (s : Group) : Type 0 where
  pub some : s.start < s.end
  pub high : s.end ≤ length claims
  pub inside : (k : ℕ) (c : Claim) → s.start ≤ k → k < s.end → slice_get claims k ≡ Some c →
      c.path ≡ node_of claims s
  pub outside : (k : ℕ) (c : Claim) → slice_get claims k ≡ Some c → c.path ≡ node_of claims s →
      (s.start ≤ k) × (k < s.end)

-- a group of the table that is that of a node
pub record HasGroup (claims : List Claim) (groups : List Group) (p : Node) (i : ℕ) : Type 0 where
  pub group : Group
  pub at : slice_get groups i ≡ Some group
  pub node : node_of claims group ≡ p

-- the place of the parent's group, which a root has not
abbrev pub IsParentGroup : List Claim → List Group → Option Node → Option ℕ → Type 0
IsParentGroup claims groups None found = found ≡ None
IsParentGroup claims groups (Some q) found = (i : ℕ) × (found ≡ Some i) × HasGroup claims groups q i

-- the groups are those of the claims' nodes, in path order, each with the place of its parent
pub record IsTable (claims : List Claim) (groups : List Group) : Type 0 where
  pub each : (i : ℕ) (s : Group) → slice_get groups i ≡ Some s →
      IsGroup claims s × IsParentGroup claims groups (parent (node_of claims s)) s.parent
  pub order : (i j : ℕ) (s t : Group) → i < j → slice_get groups i ≡ Some s → slice_get groups j ≡ Some t →
      comes_before (node_of claims s) (node_of claims t) ≡ true
  pub all : (k : ℕ) (c : Claim) → slice_get claims k ≡ Some c → (i : ℕ) × HasGroup claims groups c.path i

-- the claims are in path order
abbrev pub AreSorted : List Claim → Type 0
AreSorted claims =
    (i j : ℕ) (c d : Claim) → i < j → slice_get claims i ≡ Some c → slice_get claims j ≡ Some d →
    comes_before d.path c.path ≡ false

-- the claims are in path order, and those of one node by log; a log says once that it touches a node
pub record AreOrdered (claims : List Claim) : Type 0 where
  pub sorted : AreSorted claims
  pub unique : AreUnique claims
  pub logs : (i j : ℕ) (c d : Claim) → i < j → slice_get claims i ≡ Some c → slice_get claims j ≡ Some d →
      c.path ≡ d.path → c.log ≤ d.log

-- the parent of each node with a claim has one
abbrev pub AreClosed : List Claim → Type 0
AreClosed claims =
    (k : ℕ) (c : Claim) (q : Node) → slice_get claims k ≡ Some c → parent c.path ≡ Some q →
    (j : ℕ) × (d : Claim) × (slice_get claims j ≡ Some d) × (d.path ≡ q)

-- all claims before the place are of nodes that come before that one's
abbrev pub IsFresh : List Claim → ℕ → Type 0
IsFresh claims start =
    (k : ℕ) (c d : Claim) → k < start → slice_get claims k ≡ Some c → slice_get claims start ≡ Some d →
    comes_before c.path d.path ≡ true

-- the groups are those of the nodes of the first so many claims
pub record IsTableTo (claims : List Claim) (groups : List Group) (start : ℕ) : Type 0 where
  pub each : (i : ℕ) (s : Group) → slice_get groups i ≡ Some s →
      IsGroup claims s × IsParentGroup claims groups (parent (node_of claims s)) s.parent
  pub low : (i j : ℕ) (s : Group) → slice_get groups i ≡ Some s → s.parent ≡ Some j → j < i
  pub order : (i j : ℕ) (s t : Group) → i < j → slice_get groups i ≡ Some s → slice_get groups j ≡ Some t →
      comes_before (node_of claims s) (node_of claims t) ≡ true
  pub all : (k : ℕ) (c : Claim) → k < start → slice_get claims k ≡ Some c → (i : ℕ) × HasGroup claims groups c.path i
  pub ends : (i : ℕ) (s : Group) → slice_get groups i ≡ Some s → s.end ≤ start

-- ---- the demands of one node

abbrev pub need_said : Statement → Need
need_said Above = AnyDirectory
need_said (Touches first last left) = Exactly first

abbrev pub leaves_by : Statement → Bool
leaves_by Above = false
leaves_by (Touches first last left) = left

-- each log of the claims needs what it says
abbrev pub write_own : List Claim → List Need → List Need
write_own [] ns = ns
write_own (c ∷ cs) ns = write_own cs (slice_set ns c.log (need_said c.says))

abbrev pub write_if : Bool → List Need → ℕ → List Need
write_if false ns l = ns
write_if true ns l = slice_set ns l (Exactly value.Empty)

-- each log of the claims that leaves the node needs nothing there
abbrev pub write_absent : List Claim → List Need → List Need
write_absent [] ns = ns
write_absent (c ∷ cs) ns = write_absent cs (write_if (leaves_by c.says) ns c.log)

-- the demands are those of the logs at the node
abbrev pub AreFor : List (List Change) → Node → List Demand → Type 0
AreFor logs p ds = (l : ℕ) (d : Demand) → slice_get ds l ≡ Some d → demanded d ≡ wanted (log_at logs l) p

-- ---- how claims are gathered and ordered

-- by the node, then by the log
abbrev pub claim_cmp : Claim → Claim → Ordering
claim_cmp c d = ordering_then (path_cmp c.path d.path) (nat_cmp c.log d.log)

-- the claims of one log
pub record AreClaimsOf (l : ℕ) (cs : List Change) (claims : List Claim) : Type 0 where
  pub sound : (k : ℕ) (c : Claim) → slice_get claims k ≡ Some c → (c.log ≡ l) × (said cs c.path ≡ Some c.says)
  pub complete : (p : Node) (s : Statement) → said cs p ≡ Some s →
      (k : ℕ) × (slice_get claims k ≡ Some (record { path = p; log = l; says = s }))

-- the claims of one more log, after others
pub record AddsClaims (old new : List Claim) (l : ℕ) (s : Sum) : Type 0 where
  pub part : List Claim
  pub is : new ≡ old ++ part
  pub of : (cs : List Change) → StandsFor s cs → AreClaimsOf l cs part
  pub once : AreUnique part

abbrev pub claim_touched : ℕ → Touch → Claim
claim_touched l t = record { path = t.path; log = l; says = Touches t.first t.last t.left_dir }

abbrev pub claim_above : ℕ → Node → Claim
claim_above l p = record { path = p; log = l; says = Above }
