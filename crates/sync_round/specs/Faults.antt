-- What a fault of a tree is to a round.
use Rattle.std.specs.Prelude.{ℕ}
use Rattle.resume_apply.specs.declared.faults.ApplyFault.{ApplyFault}
use Rattle.resume_apply.specs.declared.faults.ApplyFault.TheVariants as fault
use Rattle.sync_round.specs.declared.faults.RoundFault.{RoundFault}
use Rattle.sync_round.specs.declared.faults.RoundFault.TheVariants.{Tree, Memory}

-- out of memory names no tree
abbrev pub fault_of : ℕ → ApplyFault → RoundFault
fault_of number (fault.Diverged p) = Tree number (fault.Diverged p)
fault_of number (fault.Blocked p) = Tree number (fault.Blocked p)
fault_of number fault.Failed = Tree number fault.Failed
fault_of number fault.Denied = Tree number fault.Denied
fault_of number fault.Memory = Memory
