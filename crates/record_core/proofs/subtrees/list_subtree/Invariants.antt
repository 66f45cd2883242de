use Rattle.std.proofs.Common.{◌-◌, ◌^◌, vec_len}
use Rattle.record_core.proofs.Listing.{IsListed}
use Rattle.record_core.proofs.subtrees.list_subtree.Given as goal

abbrev pub invariant-nodes : goal.invariant-nodes
invariant-nodes g l =
    IsListed l.path ((goal.Tree-dyn g (l.initial.tree.vtable, l.initial.tree.value)).live l.initial.tree.value) ((goal.Tree-dyn g (l.tree.vtable, l.tree.value)).live l.tree.value)
    l.found.items l.stack.items

abbrev pub decreases-nodes : goal.decreases-nodes
decreases-nodes g l = 2 ^ 64 - vec_len l.found
