-- The operations of a script that is read.
use Rattle.std.specs.Prelude.{◌≡◌, List}
use Rattle.sync_command.specs.declared.values.Version.{Version}
use Rattle.record_core.specs.declared.ops.Op.{Op}
use Rattle.record_core.specs.declared.script.OpList.{OpList}

-- a first line of this version and these operations were read
pub record IsOpList (list : OpList) (past : Unit {0}) (found : Version × List Op) : Type 0 where
  pub version : list.version ≡ found.0
  pub ops : list.ops.items ≡ found.1
