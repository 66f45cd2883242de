use Rattle.std.proofs.Common.{◌+◌, ◌-◌, ◌*◌, ◌^◌, vec_len}
use Rattle.tree_port.proofs.Dumps.{IsWalked}
use Rattle.tree_port.proofs.dumping.read_rows.Given as goal

abbrev pub invariant-nodes : goal.invariant-nodes
invariant-nodes g l =
    IsWalked ((goal.Tree-dyn g (l.fn.tree.vtable, l.fn.tree.value)).live l.fn.tree.value) ((goal.Tree-dyn g (l.tree.vtable, l.tree.value)).live l.tree.value)
    l.rows.items l.stack.items

-- a node that is passed over leaves the stack, and any other has a row more
abbrev pub decreases-nodes : goal.decreases-nodes
decreases-nodes g l = (2 ^ 64 - vec_len l.rows) * 2 ^ 64 + vec_len l.stack
