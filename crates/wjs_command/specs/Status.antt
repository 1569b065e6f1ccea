-- The statuses by number.
use Rattle.std.specs.Prelude.{ℕ}
use Rattle.wjs_command.specs.declared.status.Status.{Status}
use Rattle.wjs_command.specs.declared.status.Status.TheVariants.{Done, Threw, StepsSpent, OutOfMemory, Refused, Usage, ReadFault, OutFault, ErrFault}

-- the number that the program ends with
abbrev pub code_of : Status → ℕ
code_of Done = 0
code_of Threw = 1
code_of StepsSpent = 2
code_of OutOfMemory = 3
code_of Refused = 4
code_of Usage = 5
code_of ReadFault = 6
code_of OutFault = 7
code_of ErrFault = 8
