-- Refusals that are handed on.
use Rattle.sync_port.specs.declared.faults.PortFault.{PortFault}
use Rattle.sync_port.specs.declared.faults.PortFault.TheVariants.{Failed, Memory}
use Rattle.sync_port.specs.declared.faults.WholeFault.{WholeFault}
use Rattle.sync_port.specs.declared.faults.WholeFault.TheVariants as Whole

-- what a refused call of a file says of reading it as a whole
abbrev pub passed_on : PortFault → WholeFault
passed_on Failed = Whole.ReadFault
passed_on Memory = Whole.Memory
