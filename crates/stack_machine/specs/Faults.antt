-- Which fault a turn answers for a sink's.
use Rattle.papy_io.specs.declared.fault.IoFault.{IoFault}
use Rattle.papy_io.specs.declared.fault.IoFault.TheVariants as io
use Rattle.stack_machine.specs.declared.status.TurnFault.{TurnFault}
use Rattle.stack_machine.specs.declared.status.TurnFault.TheVariants as turn

abbrev pub fault_of_sink : IoFault → TurnFault
fault_of_sink io.Failed = turn.WriteFault
fault_of_sink io.OutOfMemory = turn.OutOfMemory
