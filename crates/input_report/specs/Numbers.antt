-- The exit statuses of the program.
use Rattle.std.specs.Prelude.{ℕ}
use Rattle.input_report.specs.declared.status.Status.{Status}
use Rattle.input_report.specs.declared.status.Status.TheVariants.{Done, Usage, QueryRefused, OpenFault, WriteFault, ReadFault, InputFault, Full, ScriptFault, Memory, TooLong}

abbrev pub number_of : Status → ℕ
number_of Done = 0
number_of Usage = 1
number_of QueryRefused = 2
number_of OpenFault = 3
number_of WriteFault = 4
number_of ReadFault = 5
number_of InputFault = 6
number_of Full = 7
number_of ScriptFault = 8
number_of Memory = 9
number_of TooLong = 10
