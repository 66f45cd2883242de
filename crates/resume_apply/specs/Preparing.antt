-- What prepare finds.
use Rattle.std.specs.Prelude.{◌≡◌, ◌⊎◌, ◌≤◌, ℕ, Bool, true, false, List, [], ◌∷◌, Option, None, Some, ⊤, is_none, if◌then◌else◌, Result, Ok, Err}
use Rattle.sync_path.specs.Paths.{Node, comes_before, parent}
use Rattle.sync_command.specs.declared.values.Value.{Value}
use Rattle.sync_command.specs.Values.{is_dir, is_empty}
use Rattle.sync_command.specs.Changes.{Change}
use Rattle.sync_command.specs.Maps.{IsTreeMap, Store, at}
use Rattle.sync_command.specs.Trees.{Holding, after, command_at}
use Rattle.tree_port.specs.States.{IsCounted, NoneFell, NoneRefused, TreeState, WhereKnown}
use Rattle.resume_apply.specs.Ready.{IsReady, is_ready_value, work, work_at}
use Rattle.resume_apply.specs.declared.faults.ApplyFault.{ApplyFault}
use Rattle.resume_apply.specs.declared.faults.ApplyFault.TheVariants.{Diverged, Blocked, Failed, Denied, Memory}

-- the first node, in the order of the set, that holds none of the values of ready
abbrev pub first_diverged : List Change → Holding → Option Node
first_diverged [] t = None
first_diverged (c ∷ cs) t = if is_ready_value c (t c.node) then first_diverged cs t else Some c.node

-- a tree of which each node of the set holds a value of ready
pub record HoldsReady (cs : List Change) (m : Store) : Type 0 where
  pub tree : IsTreeMap m
  pub values : first_diverged cs (at m) ≡ None

-- a node that would be left under a parent that is no directory
pub record IsBlocked (cs : List Change) (t : Holding) (n : Node) : Type 0 where
  pub full : is_empty (after cs t n) ≡ false
  pub above : Node
  pub parent_is : parent n ≡ Some above
  pub no_dir : is_dir (after cs t above) ≡ false

-- the first such node in path order
pub record IsFirstBlocked (cs : List Change) (t : Holding) (n : Node) : Type 0 where
  pub blocked : IsBlocked cs t n
  pub first : (p : Node) → IsBlocked cs t p → comes_before p n ≡ false

-- the work at one command's node, where the node holds a value of ready
abbrev pub IsWorkAt : Change → Value → Option ℕ → Type 0
IsWorkAt c v None = is_ready_value c v ≡ false
IsWorkAt c v (Some k) = (is_ready_value c v ≡ true) × (k ≡ work_at c v)

abbrev pub IsFew : Option ℕ → Type 0
IsFew None = ⊤
IsFew (Some k) = k ≤ 2

-- P, where the answer is about the tree, and not about a call that was refused or memory that ran out
abbrev pub IfAnswered : {T : Type 0} → Result T ApplyFault → Type 0 → Type 0
IfAnswered (Ok x) P = P
IfAnswered (Err (Diverged p)) P = P
IfAnswered (Err (Blocked p)) P = P
IfAnswered (Err Failed) P = ⊤
IfAnswered (Err Denied) P = ⊤
IfAnswered (Err Memory) P = ⊤

-- a refusal is one of a call of the tree, or memory ran out
abbrev pub IsOfTree : {T : Type 0} → Result T ApplyFault → Type 0
IsOfTree (Ok x) = ⊤
IsOfTree (Err (Diverged p)) = ⊥
IsOfTree (Err (Blocked p)) = ⊥
IsOfTree (Err Failed) = ⊤
IsOfTree (Err Denied) = ⊤
IsOfTree (Err Memory) = ⊤

-- Nothing is changed, and each refusal of the tree was counted. A known tree denies nothing.
pub record IsAsking {T : Type 0} (result : Result T ApplyFault) (before now : TreeState) : Type 0 where
  pub later : NoneFell before.counts now.counts
  pub contents : now.contents ≡ before.contents
  pub changes : now.counts.changes ≡ before.counts.changes
  pub answered : IfAnswered result (NoneRefused before.counts now.counts)
  pub failed : result ≡ Err Failed → IsCounted before.counts.faults now.counts.faults
  pub denied : result ≡ Err Denied → IsCounted before.counts.denials now.counts.denials
  pub never_denied : WhereKnown before (λ m. result ≡ Err Denied → ⊥)

-- ---- the nodes that would be left alone, one command after another

-- nothing before p is left out: the node that is kept is p or comes before it
abbrev pub Covers : Option Node → Node → Type 0
Covers None p = ⊥
Covers (Some k) p = comes_before p k ≡ false

-- p comes before the node that is kept, if one is
abbrev pub goes_first : Option Node → Node → Bool
goes_first None p = true
goes_first (Some k) p = comes_before p k

-- of the node that was kept and another the first one is kept
pub record KeepsFirst (path : Node) (old new : Option Node) : Type 0 where
  pub one : (new ≡ old) ⊎ (new ≡ Some path)
  pub still : (p : Node) → Covers old p → Covers new p
  pub more : (p : Node) → comes_before p path ≡ false → Covers new p

-- the first of some nodes that the set does not name
abbrev pub first_unnamed : List Change → List Node → Option Node
first_unnamed cs [] = None
first_unnamed cs (p ∷ ps) = if is_none (command_at cs p) then Some p else first_unnamed cs ps

-- of the children of a command's node those that are left alone come not before the one that is found
abbrev pub FindsBelow : List Change → Holding → Change → Option Node → Type 0
FindsBelow cs t c None = (p : Node) → parent p ≡ Some c.node → IsBlocked cs t p → ⊥
FindsBelow cs t c (Some k) = IsBlocked cs t k × ((p : Node) → parent p ≡ Some c.node → IsBlocked cs t p → comes_before p k ≡ false)

abbrev pub IsBlockedOrNone : List Change → Holding → Option Node → Type 0
IsBlockedOrNone cs t None = ⊤
IsBlockedOrNone cs t (Some k) = IsBlocked cs t k

-- what was found at a command's node and below it is kept, where it comes first
pub record LooksAt (cs : List Change) (t : Holding) (c : Change) (old new : Option Node) : Type 0 where
  pub right : IsBlockedOrNone cs t old → IsBlockedOrNone cs t new
  pub still : (p : Node) → Covers old p → Covers new p
  pub here : IsBlocked cs t c.node → Covers new c.node
  pub below : (p : Node) → parent p ≡ Some c.node → IsBlocked cs t p → Covers new p

-- the first node that would be left alone, if there is one
abbrev pub FindsFirst : List Change → Holding → Option Node → Type 0
FindsFirst cs t None = (p : Node) → IsBlocked cs t p → ⊥
FindsFirst cs t (Some k) = IsFirstBlocked cs t k

-- ---- what is found

-- what the look at the values finds
abbrev pub FindsValues : List Change → Holding → Result ℕ ApplyFault → Type 0
FindsValues cs t (Ok k) = (first_diverged cs t ≡ None) × (k ≡ work cs t)
FindsValues cs t (Err (Diverged p)) = first_diverged cs t ≡ Some p
FindsValues cs t (Err (Blocked p)) = ⊥
FindsValues cs t (Err Failed) = ⊤
FindsValues cs t (Err Denied) = ⊤
FindsValues cs t (Err Memory) = ⊤

-- what prepare finds: Ok only where the tree is ready, with the work; Diverged before Blocked, each with its first place
abbrev pub Finds : List Change → Holding → Result ℕ ApplyFault → Type 0
Finds cs t (Ok k) = IsReady t cs × (k ≡ work cs t)
Finds cs t (Err (Diverged p)) = first_diverged cs t ≡ Some p
Finds cs t (Err (Blocked p)) = (first_diverged cs t ≡ None) × IsFirstBlocked cs t p
Finds cs t (Err Failed) = ⊤
Finds cs t (Err Denied) = ⊤
Finds cs t (Err Memory) = ⊤
