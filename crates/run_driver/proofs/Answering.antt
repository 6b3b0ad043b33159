-- What a run over a source and a sink in memory answers.
use Rattle.std.proofs.Common.{ℕ, ◌≡◌, ◌≤◌, ◌↔◌, ◌++◌, List, [], append-nil, length, map, ap, sym, subst, ◌∙◌, arith}
use Rattle.std.specs.Global.{Global}
use Rattle.std.specs.Prelude.{Some, String, string_bytes}
use Rattle.retro_top.specs.Limits.{most_bytes}
use Rattle.retro_top.specs.Status.{Status}
use Rattle.retro_top.specs.Answers.{AnswersAs, ReadsBy, ReadsFor, WritesAnswer, WritesPart}
use Rattle.retro_top.specs.Commands.{AreWordsOf, Call, CallSome}
use Rattle.retro_top.specs.declared.commands.Command.{Command}
use Rattle.retro_top.specs.declared.commands.Command.TheVariants.{Sample}
use Rattle.retro_top.proofs.Headline.{one_command}
use Rattle.run_driver.specs.Runs.{CallNothing, Runs, RunsInPart, read_by}

-- what holds of what a command read of an input holds of what it reads of it
by-command : (input left : List ℕ) (holds : List ℕ → Type 0) (command : Command) → ReadsBy command most_bytes (Some input) (Some left) holds → (length (read_by command input) ≤ most_bytes) × holds (read_by command input)
by-command input left holds (Sample start games plies) read = (omega arith, read.1)
by-command input left holds command read =
    let whole : read.0 ≡ input = sym (append-nil read.0) ∙ ap (λ (l : List ℕ). read.0 ++ l) (sym read.2) ∙ sym read.1 in
    (subst (λ (l : List ℕ). length l ≤ most_bytes) whole read.3, subst holds whole read.4)

module _ (words : List (String Global)) (input : List ℕ) where
  runs : (command called : Command) (status : Status) (text : List ℕ) → Call words command → Call words called → length (read_by command input) ≤ most_bytes → AnswersAs called (read_by command input) status text → Runs (map string_bytes words) input status text
  runs command called status text call other short answers = record {
    command = command;
    words_are = call.words_are;
    in_range = call.in_range;
    short = short;
    answers = subst (λ (c : Command). AnswersAs c (read_by command input) status text) (one_command words command called call other) answers;
  }

  told : (taken : List ℕ) (status : Status) (command : Command) → Call words command → length (read_by command input) ≤ most_bytes → WritesAnswer words (read_by command input) status (Some []) (Some taken) → Runs (map string_bytes words) input status taken
  told taken status command call short (text, (called, other, answers), grown) = subst (Runs (map string_bytes words) input status) (sym grown) (runs command called status text call other short answers)

  told-part : (taken : List ℕ) (command : Command) → Call words command → length (read_by command input) ≤ most_bytes → WritesPart words (read_by command input) (Some []) (Some taken) → RunsInPart (map string_bytes words) input taken
  told-part taken command call short (status, text, (called, other, answers), (size, few, grown)) = record {
    status = status;
    text = text;
    size = size;
    runs = runs command called status text call other short answers;
    few = few;
    first = grown;
  }

  pub answered : (taken left : List ℕ) (status : Status) → ReadsFor words most_bytes (Some input) (Some left) (λ read. WritesAnswer words read status (Some []) (Some taken)) → Runs (map string_bytes words) input status taken
  answered taken left status (command, call, read) =
      let found = by-command input left (λ (l : List ℕ). WritesAnswer words l status (Some []) (Some taken)) command read in
      told taken status command call found.0 found.1

  pub answered-in-part : (taken left : List ℕ) → ReadsFor words most_bytes (Some input) (Some left) (λ read. WritesPart words read (Some []) (Some taken)) → RunsInPart (map string_bytes words) input taken
  answered-in-part taken left (command, call, read) =
      let found = by-command input left (λ (l : List ℕ). WritesPart words l (Some []) (Some taken)) command read in
      told-part taken command call found.0 found.1

-- the bytes of words call no command if and only if the words call none
pub none-called : (bad : Type 0) (words : List (String Global)) (bytes : List (List ℕ)) → map string_bytes words ≡ bytes → (bad ↔ (CallSome words → ⊥)) → bad ↔ CallNothing bytes
none-called bad words bytes same exact = (
  λ it command are in_range. exact.0 it (command, record { words_are = subst (λ (l : List (List ℕ)). AreWordsOf l command) (sym same) are; in_range = in_range }),
  λ nothing. exact.1 (λ some. nothing some.0 (subst (λ (l : List (List ℕ)). AreWordsOf l some.0) same some.1.words_are) some.1.in_range),
)
