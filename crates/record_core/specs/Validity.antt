-- Operations and trees of paths and values alone. Of these every command has a text.
use Rattle.std.specs.Prelude.{◌≡◌, false}
use Rattle.sync_path.specs.Paths.{Node, IsPath}
use Rattle.sync_command.specs.declared.values.Value.TheVariants as value
use Rattle.sync_command.specs.Values.{IsValue, is_empty}
use Rattle.sync_command.specs.Trees.{Holding}
use Rattle.record_core.specs.declared.ops.Op.{Op}
use Rattle.record_core.specs.declared.ops.Op.TheVariants as op

-- an operation: it names paths, and what it puts at one is a value
abbrev pub IsOp : Op → Type 0
IsOp (op.Mkdir p) = IsPath p
IsOp (op.Put p bytes) = IsPath p × IsValue (value.File bytes)
IsOp (op.Del p) = IsPath p
IsOp (op.Deltree p) = IsPath p
IsOp (op.Move p q) = IsPath p × IsPath q
IsOp (op.Copy p q) = IsPath p × IsPath q
IsOp (op.Label p label) = IsPath p × IsValue (value.Dir label)

-- the node is a path, and what it holds is a value
pub record HoldsValue (t : Holding) (n : Node) : Type 0 where
  pub path : IsPath n
  pub value : IsValue (t n)

-- each node that is not empty is a path that holds a value
abbrev pub HoldsValues : Holding → Type 0
HoldsValues t = (n : Node) → is_empty (t n) ≡ false → HoldsValue t n
