-- The statuses with which the program ends.
use Rattle.std.specs.Prelude.{ℕ}
use Rattle.command_answers.specs.declared.statuses.Status.{Status}
use Rattle.command_answers.specs.declared.statuses.Status.TheVariants as status

abbrev pub code_of : Status → ℕ
code_of status.Done = 0
code_of status.Refused = 1
code_of status.Undecided = 2
code_of status.Spent = 3
code_of status.Countered = 4
code_of status.BadWords = 5
code_of status.BadInput = 6
code_of status.ReadFault = 7
code_of status.WriteFault = 8
code_of status.Memory = 9
code_of status.TooLong = 10

-- the statuses that come with a text that answers the input
abbrev pub IsAnswer : Status → Type 0
IsAnswer status.BadWords = ⊥
IsAnswer status.ReadFault = ⊥
IsAnswer status.WriteFault = ⊥
IsAnswer status.Memory = ⊥
IsAnswer status.TooLong = ⊥
IsAnswer _ = Unit {0}

-- the statuses at which nothing was written
abbrev pub IsSilent : Status → Type 0
IsSilent status.BadWords = Unit {0}
IsSilent status.ReadFault = Unit {0}
IsSilent status.Memory = Unit {0}
IsSilent status.TooLong = Unit {0}
IsSilent _ = ⊥
