-- What a command reads, and what holds of it.
use Rattle.std.proofs.Common.{◌≡◌, ℕ, ◌+◌, ◌≤◌, List, [], length, refl, sym, ap, subst, arith, length-append}
use Rattle.std.proofs.KnownBytes.{Consumes-whole}
use Rattle.std.specs.Io.KnownBytes.{Consumes}
use Rattle.std.specs.Prelude.{Option, Some, None, IfSome}
use Rattle.retro_ports.specs.Causes.{Rose}
use Rattle.retro_ports.specs.Ends.{ReadSome}
use Rattle.command_answers.specs.Limits.{most_bytes}
use Rattle.command_answers.specs.Inputs.{ReadsAll}
use Rattle.retro_top.specs.Answers.{ReadsBy, Unhindered}
use Rattle.retro_top.specs.Commands.{Reads}
use Rattle.retro_top.specs.declared.commands.Command.{Command}
use Rattle.retro_top.specs.declared.commands.Command.TheVariants.{Sample}

-- what a command read is one list of bytes
pub record IsRead (command : Command) (left new : Option (List ℕ)) (P : List ℕ → Type 0) : Type 0 where
  pub input : List ℕ
  pub read : ReadsBy command most_bytes left new (λ bytes. bytes ≡ input)
  pub holds : P input

pub one_read : (command : Command) (left new : Option (List ℕ)) (P : List ℕ → Type 0) → ReadsBy command most_bytes left new P → IsRead command left new P
one_read (Sample start games plies) left new P read = record { input = []; read = (read.0, refl); holds = read.1 }
one_read _ left new P read = record { input = read.0; read = (read.0, read.1, read.2, read.3, refl); holds = read.4 }

-- what holds of what a command read
pub of_read : (command : Command) (left new : Option (List ℕ)) (input : List ℕ) (P : List ℕ → Type 0) → ReadsBy command most_bytes left new (λ bytes. bytes ≡ input) → P input → ReadsBy command most_bytes left new P
of_read (Sample start games plies) left new input P read here = (read.0, subst P (sym read.1) here)
of_read _ left new input P read here = (read.0, read.1, read.2, read.3, subst P (sym read.4) here)

-- holds of all that was left, where it reads
of_all : (left new : Option (List ℕ)) (input : List ℕ) (P : List ℕ → Type 0) → ReadsAll most_bytes left new (λ bytes. bytes ≡ input) → P input → IfSome left P
of_all left new input P read here = Consumes-whole left new read.0 P read.1 read.2 (subst P (sym read.4) here)

pub of_left : (command : Command) (left new : Option (List ℕ)) (input : List ℕ) (P : List ℕ → Type 0) → Reads command → ReadsBy command most_bytes left new (λ bytes. bytes ≡ input) → P input → IfSome left P
of_left (Sample start games plies) left new input P reads read here = absurd reads
of_left _ left new input P reads read here = of_all left new input P read here

-- and where nothing fails
pub unhindered : (command : Command) (left new : Option (List ℕ)) (input : List ℕ) (f g h k : ℕ) (P : List ℕ → Type 0) → ReadsBy command most_bytes left new (λ bytes. bytes ≡ input) → P input → Unhindered command most_bytes left f g h k P
unhindered (Sample start games plies) left new input f g h k P read here = λ written. subst P (sym read.1) here
unhindered _ left new input f g h k P read here = λ unread unwritten. of_all left new input (λ bytes. length bytes ≤ most_bytes → P bytes) read (λ fits. here)

-- where the input is too long, nothing is said
never_fits : (left new : Option (List ℕ)) (bytes : List ℕ) (P : List ℕ → Type 0) → Consumes left new bytes → length bytes ≡ most_bytes + 1 → IfSome left (λ input. length input ≤ most_bytes → P input)
never_fits None new bytes P read long = tt
never_fits (Some xs) None bytes P read long = absurd read
never_fits (Some xs) (Some ys) bytes P read long = λ fits. absurd (omega (arith, fits, ap length read, length-append bytes ys, long))

pub hindered-long : (command : Command) (left new : Option (List ℕ)) (f g h k : ℕ) (P : List ℕ → Type 0) → Reads command → ReadSome left new (λ n. n ≡ most_bytes + 1) → Unhindered command most_bytes left f g h k P
hindered-long (Sample start games plies) left new f g h k P reads long = absurd reads
hindered-long _ left new f g h k P reads long = λ read written. never_fits left new long.0 P long.1 long.2

-- nor where a write failed
pub hindered-unwritten : (command : Command) (left : Option (List ℕ)) (f g h k : ℕ) (P : List ℕ → Type 0) → Rose h k → Unhindered command most_bytes left f g h k P
hindered-unwritten (Sample start games plies) left f g h k P rose = λ written. absurd (written rose)
hindered-unwritten _ left f g h k P rose = λ read written. absurd (written rose)
