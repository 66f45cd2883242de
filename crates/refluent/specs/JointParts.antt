-- What a joint is made of.
use Rattle.std.specs.Prelude.{◌≡◌, ◌<◌, ◌+◌, ◌==◌, ℕ, zero, suc, Bool, true, false, List, [], ◌∷◌, ◌++◌, Vec, length, slice_get, slice_set, slice_range, Option, Some, None}
use Rattle.std.specs.Global.{Global}
use Rattle.sync_command.specs.declared.values.Value.{Value}
use Rattle.sync_command.specs.declared.values.Value.TheVariants as value
use Rattle.sync_command.specs.declared.commands.Row.{Row}
use Rattle.sync_path.specs.Paths.{Node}
use Rattle.sync_command.specs.Changes.{Change, is_change}
use Rattle.sync_command.specs.Trees.{one_each}
use Rattle.canon_set.specs.Sets.{IsFitting, canonical}
use Rattle.refluent.specs.Joints.{is_ascending, value_in, some_if, concerns}
use Rattle.refluent.specs.CommonTrees.{least_common_tree}
use Rattle.refluent.specs.Tables.{node_of}
use Rattle.refluent.specs.declared.claims.Statement.{Statement}
use Rattle.refluent.specs.declared.claims.Statement.TheVariants.{Above, Touches}
use Rattle.refluent.specs.declared.claims.Claim.{Claim}
use Rattle.refluent.specs.declared.table.Group.{Group}

abbrev pub first_or : Statement → Value → Value
first_or Above v = v
first_or (Touches first last left) v = first

-- the first value of the first claim of a touched node, or a directory
abbrev pub value_by : List Claim → Value
value_by [] = value.Dir []
value_by (c ∷ cs) = first_or c.says (value_by cs)

-- the row of a group
abbrev pub row_of : List Claim → Group → Row
row_of claims s = record { path = node_of claims s; value = value_by (slice_range claims s.start s.end) }

-- one row for each group
pub record AreRowsOf (claims : List Claim) (groups : List Group) (rows : List Row) : Type 0 where
  pub many : length rows ≡ length groups
  pub each : (i : ℕ) (s : Group) → slice_get groups i ≡ Some s → slice_get rows i ≡ Some (row_of claims s)

-- the rows are the nodes that concern the logs, in path order, with the values of the least common tree
pub record AreNodesOf (logs : List (List Change)) (rows : List Row) : Type 0 where
  pub order : is_ascending rows ≡ true
  pub nodes : (p : Node) → value_in rows p ≡ some_if (concerns logs p) (least_common_tree logs p)

-- ---- the commands of the logs

abbrev pub if_change : Bool → Change → Option Change
if_change false c = None
if_change true c = Some c

abbrev pub change_by : Node → Statement → Option Change
change_by p Above = None
change_by p (Touches first last left) =
    if_change (is_change (record { node = p; old = first; new = last })) (record { node = p; old = first; new = last })

-- the change of a claim of a touched node, where the first value and the last differ
abbrev pub change_in : Claim → Option Change
change_in c = change_by c.path c.says

abbrev pub with_change : Bool → Option Change → List Change → List Change
with_change false o cs = cs
with_change true None cs = cs
with_change true (Some c) cs = c ∷ cs

-- the changes of the log, in the order of the claims
abbrev pub changes_of : ℕ → List Claim → List Change
changes_of l [] = []
changes_of l (c ∷ cs) = with_change (c.log == l) (change_in c) (changes_of l cs)

-- the canonical lists of the changes of so many logs, from the log of this number on
abbrev pub sets_from : ℕ → ℕ → List Claim → List (List Change)
sets_from l zero claims = []
sets_from l (suc n) claims = canonical (changes_of l claims) ∷ sets_from (l + 1) n claims

abbrev pub sets_by : List Claim → ℕ → List (List Change)
sets_by claims count = sets_from 0 count claims

-- the claims' changes of each log are a set that fits some tree
pub record HasNets (claims : List Claim) (count : ℕ) : Type 0 where
  pub logs : (k : ℕ) (c : Claim) → slice_get claims k ≡ Some c → c.log < count
  pub one : (l : ℕ) → l < count → one_each (changes_of l claims) ≡ true
  pub fitting : (l : ℕ) → l < count → IsFitting (changes_of l claims)

-- one list has one command more
pub record IsPut (old new : List (Vec Change Global)) (log : ℕ) (d : Change) : Type 0 where
  pub before : Vec Change Global
  pub after : Vec Change Global
  pub at : slice_get old log ≡ Some before
  pub more : after.items ≡ before.items ++ d ∷ []
  pub is : new ≡ slice_set old log after
