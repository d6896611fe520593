-- What a line's fault is, by what its tokens lack.
use Rattle.papy_base.specs.declared.faults.Fault.{Fault}
use Rattle.papy_base.specs.declared.faults.Fault.TheVariants as form
use Rattle.line_parser.specs.declared.fault.NoForm.{NoForm}
use Rattle.line_parser.specs.declared.fault.LineFault.{LineFault}
use Rattle.line_parser.specs.declared.fault.LineFault.TheVariants.{Broken, OutOfMemory}
use Rattle.line_parser.specs.declared.fault.LineRule.TheVariants.{BadLine}

abbrev pub line_fault : Fault NoForm → LineFault
line_fault (form.Broken _) = Broken BadLine
line_fault form.OutOfMemory = OutOfMemory
