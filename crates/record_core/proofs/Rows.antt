-- Examples, computed: what operations mean on small trees.
use Rattle.std.proofs.Common.{◌≡◌, ℕ, List, [], ◌∷◌, Ok, Err, refl}
use Rattle.std.specs.Prelude.{if◌then◌else◌}
use Rattle.sync_path.specs.Paths.{Node, same_path, parent, is_under}
use Rattle.sync_command.specs.declared.values.Value.{Value}
use Rattle.sync_command.specs.declared.values.Value.TheVariants as value
use Rattle.sync_command.specs.declared.values.Version.TheVariants.{One, Two}
use Rattle.sync_command.specs.Changes.{Change}
use Rattle.record_core.specs.declared.faults.Why.TheVariants.{Exists, NoParent, NotEmpty, Inside, NotDir, Labelled}
use Rattle.record_core.specs.declared.ops.Op.TheVariants.{Mkdir, Put, Del, Deltree, Move, Copy, Label}
use Rattle.record_core.specs.Meanings.{Nodes, meaning}

-- the paths a, a/x, b, b/x, c
record Held : Type 0 where
  node : Node
  value : Value

held_in : List Held → Node → Value
held_in [] n = value.Empty
held_in (h ∷ hs) n = if same_path n h.node then h.value else held_in hs n

nodes_in : List Held → List Node
nodes_in [] = []
nodes_in (h ∷ hs) = h.node ∷ nodes_in hs

tree : List Held → Nodes
tree hs = record { held = held_in hs; full = nodes_in hs }

a : Node
a = (97 ∷ []) ∷ []

ax : Node
ax = (97 ∷ []) ∷ (120 ∷ []) ∷ []

b : Node
b = (98 ∷ []) ∷ []

bx : Node
bx = (98 ∷ []) ∷ (120 ∷ []) ∷ []

c : Node
c = (99 ∷ []) ∷ []

dir : Node → Held
dir n = record { node = n; value = value.Dir [] }

file : Node → ℕ → Held
file n k = record { node = n; value = value.File (k ∷ []) }

change : Node → Value → Value → Change
change n v w = record { node = n; old = v; new = w }

d : Value
d = value.Dir []

f : ℕ → Value
f k = value.File (k ∷ [])

-- `mkdir a | put a/x f:1 | copy a b | put b/x f:2 | move b/x c | del b`, each on the result of those before
mkdir_a : meaning One (tree []) (Mkdir a) ≡ Ok (change a value.Empty d ∷ [])
unfolding parent is_under same_path held_in nodes_in tree a ax b bx c dir file change d f
mkdir_a = refl

put_ax : meaning One (tree (dir a ∷ [])) (Put ax (49 ∷ [])) ≡ Ok (change ax value.Empty (f 49) ∷ [])
unfolding parent is_under same_path held_in nodes_in tree a ax b bx c dir file change d f
put_ax = refl

copy_a_b : meaning One (tree (dir a ∷ file ax 49 ∷ [])) (Copy a b) ≡ Ok (change b value.Empty d ∷ change bx value.Empty (f 49) ∷ [])
unfolding parent is_under same_path held_in nodes_in tree a ax b bx c dir file change d f
copy_a_b = refl

put_bx : meaning One (tree (dir a ∷ file ax 49 ∷ dir b ∷ file bx 49 ∷ [])) (Put bx (50 ∷ [])) ≡ Ok (change bx (f 49) (f 50) ∷ [])
unfolding parent is_under same_path held_in nodes_in tree a ax b bx c dir file change d f
put_bx = refl

move_bx_c : meaning One (tree (dir a ∷ file ax 49 ∷ dir b ∷ file bx 50 ∷ [])) (Move bx c) ≡ Ok (change c value.Empty (f 50) ∷ change bx (f 50) value.Empty ∷ [])
unfolding parent is_under same_path held_in nodes_in tree a ax b bx c dir file change d f
move_bx_c = refl

del_b : meaning One (tree (dir a ∷ file ax 49 ∷ dir b ∷ file c 50 ∷ [])) (Del b) ≡ Ok (change b d value.Empty ∷ [])
unfolding parent is_under same_path held_in nodes_in tree a ax b bx c dir file change d f
del_b = refl

-- `mkdir b | mkdir a` where a stands, and `copy a a/x`
mkdir_b : meaning One (tree (dir a ∷ [])) (Mkdir b) ≡ Ok (change b value.Empty d ∷ [])
unfolding parent is_under same_path held_in nodes_in tree a ax b bx c dir file change d f
mkdir_b = refl

mkdir_again : meaning One (tree (dir a ∷ dir b ∷ [])) (Mkdir a) ≡ Err Exists
unfolding parent is_under same_path held_in nodes_in tree a ax b bx c dir file change d f
mkdir_again = refl

copy_inside : meaning One (tree (dir a ∷ [])) (Copy a ax) ≡ Err Inside
unfolding parent is_under same_path held_in nodes_in tree a ax b bx c dir file change d f
copy_inside = refl

-- labels
label_a : meaning Two (tree (dir a ∷ [])) (Label a (120 ∷ [])) ≡ Ok (change a d (value.Dir (120 ∷ [])) ∷ [])
unfolding parent is_under same_path held_in nodes_in tree a ax b bx c dir file change d f
label_a = refl

copy_label : meaning Two (tree (record { node = a; value = value.Dir (120 ∷ []) } ∷ [])) (Copy a b) ≡ Ok (change b value.Empty (value.Dir (120 ∷ [])) ∷ [])
unfolding parent is_under same_path held_in nodes_in tree a ax b bx c dir file change d f
copy_label = refl

del_labelled : meaning One (tree (record { node = a; value = value.Dir (120 ∷ []) } ∷ [])) (Del a) ≡ Err Labelled
unfolding parent is_under same_path held_in nodes_in tree a ax b bx c dir file change d f
del_labelled = refl

label_file : meaning Two (tree (file a 49 ∷ [])) (Label a (120 ∷ [])) ≡ Err NotDir
unfolding parent is_under same_path held_in nodes_in tree a ax b bx c dir file change d f
label_file = refl

-- what follows from the order of the refusals
deltree_a : meaning One (tree (dir a ∷ file ax 49 ∷ dir b ∷ [])) (Deltree a) ≡ Ok (change ax (f 49) value.Empty ∷ change a d value.Empty ∷ [])
unfolding parent is_under same_path held_in nodes_in tree a ax b bx c dir file change d f
deltree_a = refl

put_same : meaning One (tree (file a 49 ∷ [])) (Put a (49 ∷ [])) ≡ Ok []
unfolding parent is_under same_path held_in nodes_in tree a ax b bx c dir file change d f
put_same = refl

no_parent : meaning One (tree []) (Put ax (49 ∷ [])) ≡ Err NoParent
unfolding parent is_under same_path held_in nodes_in tree a ax b bx c dir file change d f
no_parent = refl

not_empty : meaning One (tree (dir a ∷ file ax 49 ∷ [])) (Del a) ≡ Err NotEmpty
unfolding parent is_under same_path held_in nodes_in tree a ax b bx c dir file change d f
not_empty = refl
