-- What trees in memory hold and count.
use Rattle.std.specs.Prelude.{◌≡◌, ◌⊎◌, ◌↔◌, ◌==◌, ℕ, Bool, true, false, IsTrue, List, [], ◌∷◌, Option, None, Some, Result, IsErrOf, is_some, if◌then◌else◌}
use Rattle.sync_path.specs.Paths.{Node}
use Rattle.sync_port.specs.States.{next_number}
use Rattle.sync_command.specs.Maps.{Store, store}
use Rattle.sync_command.specs.declared.values.Value.{Value}
use Rattle.tree_port.specs.States.{Counts, TreeState, IsCounted}
use Rattle.tree_port.specs.declared.counter.Counter.{Counter}
use Rattle.tree_port.specs.declared.faults.TreeFault.{TreeFault}
use Rattle.tree_port.specs.declared.faults.TreeFault.TheVariants.{Failed}
use Rattle.tree_port.specs.declared.mem.MemTree.{MemTree}
use Rattle.tree_port.specs.declared.fuse.FuseTree.{FuseTree}
use Rattle.tree_port.specs.declared.fuse.Shot.{Shot}

abbrev pub counts_of : Counter → Counts
counts_of c = record { faults = c.faults; denials = c.denials; out_of_memory = c.out_of_memory; changes = c.changes }

abbrev pub no_counts : Counts
no_counts = record { faults = 0; denials = 0; out_of_memory = 0; changes = 0 }

-- ---- trees that do not fail

-- what the tree holds
abbrev pub held_by : MemTree → Store
held_by s = s.map

abbrev pub mem_counts : MemTree → Counts
mem_counts s = counts_of s.counter

abbrev pub mem_state : MemTree → TreeState
mem_state s = record { contents = Some (held_by s); counts = mem_counts s }

-- the call did not fail
abbrev pub DidNotFail : {T : Type 0} → Result T TreeFault → Type 0
DidNotFail result = IsErrOf result Failed → ⊥

-- ---- trees with shots

abbrev pub fuse_held : FuseTree → Store
fuse_held s = s.map

abbrev pub fuse_counts : FuseTree → Counts
fuse_counts s = counts_of s.counter

abbrev pub fuse_state : FuseTree → TreeState
fuse_state s = record { contents = Some (fuse_held s); counts = fuse_counts s }

abbrev pub shots_of : FuseTree → List Shot
shots_of s = s.shots.items

-- the number of the last call
abbrev pub calls_made : FuseTree → ℕ
calls_made s = s.calls

-- what the first shot that names the call says, if there is one: whether the call is done
abbrev pub shot_at : List Shot → ℕ → Option Bool
shot_at [] n = None
shot_at (shot ∷ rest) n = if shot.call == n then Some shot.done else shot_at rest n

-- the shot that names the next call
abbrev pub next_shot : FuseTree → Option Bool
next_shot s = shot_at (shots_of s) (next_number (calls_made s))

-- a call fails exactly where a shot names it
abbrev pub FailsIfShot : {T : Type 0} → Option Bool → Result T TreeFault → Type 0
FailsIfShot shot result = IsErrOf result Failed ↔ IsTrue (is_some shot)

-- A shot that is not done leaves what was held. One that is done puts the value, if that can be
-- done, unless memory ran out.
abbrev pub ShotPuts : Option Bool → Type 0 → Node → Value → Store → Store → Counts → Counts → Type 0
ShotPuts None can n v m k before now = Unit {0}
ShotPuts (Some false) can n v m k before now = k ≡ m
ShotPuts (Some true) can n v m k before now = can → (k ≡ store m n v) ⊎ IsCounted before.out_of_memory now.out_of_memory

-- the calls are counted, and the shots stay
pub record CountsCall (before now : FuseTree) : Type 0 where
  pub calls : calls_made now ≡ next_number (calls_made before)
  pub shots : shots_of now ≡ shots_of before
