-- What `solve` and `settle` both promise of the claim that they are given.
use Rattle.std.proofs.Common.{◌≡◌, ℕ, List, inl, inr, subst}
use Rattle.std.specs.Global.{Global}
use Rattle.std.specs.Io.KnownBytes.{Appends}
use Rattle.std.specs.Prelude.{IfSome, Option, String}
use Rattle.command_answers.specs.Limits.{most_bytes}
use Rattle.command_answers.specs.Settles.{AnswersSettle}
use Rattle.command_answers.specs.Solves.{AnswersSolve}
use Rattle.command_answers.specs.declared.statuses.Status.{Status}
use Rattle.command_answers.specs.declared.statuses.Status.TheVariants.{Countered, Done}
use Rattle.retro_top.specs.Answers.{AnswersAs, ReadsBy, StatesTrue, WritesGameAgainst}
use Rattle.retro_top.specs.Commands.{Call, CallSolver}
use Rattle.retro_top.specs.declared.commands.Command.{Command}
use Rattle.retro_top.specs.declared.commands.Command.TheVariants.{Settle, Solve}
use Rattle.retro_top.proofs.Headline.{CertificatesProve, as_called}
use Rattle.retro_top.proofs.Input.{of_left}
use Rattle.retro_top.proofs.Settling.{done-settled, unsettled-by}
use Rattle.retro_top.proofs.Solving.{CounteredBy, Solved, countered-by, done-solved}

-- the claim of a certificate that was written is true
solved-true : (input text : List ℕ) → Solved input text → StatesTrue input
solved-true input text solved = (solved.cert.claim, solved.cert.query, solved.states, solved.holds)

-- the game that was written contradicts the claim
countered-writes : (nodes : ℕ) (old new : Option (List ℕ)) (input text : List ℕ) → Appends old new text → CounteredBy nodes input text → WritesGameAgainst nodes input old new
countered-writes nodes old new input text taken found =
    (found.claim, found.query, found.game, found.states, found.contradicts, found.few, subst (Appends old new) found.line taken)

-- where `solve` or `settle` is done, the claim that its input states is true
pub solver-proves : CertificatesProve → (words : List (String Global)) (called : Command) (depth nodes : ℕ) (left new : Option (List ℕ)) (input : List ℕ) (ending : Status) (text : List ℕ) → CallSolver words depth nodes → Call words called → ReadsBy called most_bytes left new (λ bytes. bytes ≡ input) → AnswersAs called input ending text → ending ≡ Done → IfSome left StatesTrue
solver-proves law words called depth nodes left new input ending text call other read answers done = elim call [
  | inl solves ↦
      let ran = as_called words (Solve depth nodes) called left new input ending text solves other read answers in
      let told = subst (λ (s : Status). AnswersSolve depth nodes input s text) done ran.answers in
      of_left (Solve depth nodes) left new input StatesTrue tt ran.read (solved-true input text (done-solved law depth nodes input text told))
  | inr settles ↦
      let ran = as_called words (Settle depth nodes) called left new input ending text settles other read answers in
      let told = subst (λ (s : Status). AnswersSettle depth nodes input s text) done ran.answers in
      of_left (Settle depth nodes) left new input StatesTrue tt ran.read (solved-true input text (done-settled law depth nodes input text told))
]

-- where `solve` or `settle` says that the claim is countered, it writes a game against it
pub solver-counters : (words : List (String Global)) (called : Command) (depth nodes : ℕ) (left new : Option (List ℕ)) (input : List ℕ) (ending : Status) (text : List ℕ) (taken_old taken_new : Option (List ℕ)) → CallSolver words depth nodes → Call words called → ReadsBy called most_bytes left new (λ bytes. bytes ≡ input) → AnswersAs called input ending text → Appends taken_old taken_new text → ending ≡ Countered → IfSome left (λ bytes. WritesGameAgainst nodes bytes taken_old taken_new)
solver-counters words called depth nodes left new input ending text taken_old taken_new call other read answers taken countered = elim call [
  | inl solves ↦
      let ran = as_called words (Solve depth nodes) called left new input ending text solves other read answers in
      let told = subst (λ (s : Status). AnswersSolve depth nodes input s text) countered ran.answers in
      of_left (Solve depth nodes) left new input (λ bytes. WritesGameAgainst nodes bytes taken_old taken_new) tt ran.read
      (countered-writes nodes taken_old taken_new input text taken (countered-by depth nodes input text told))
  | inr settles ↦
      let ran = as_called words (Settle depth nodes) called left new input ending text settles other read answers in
      let told = subst (λ (s : Status). AnswersSettle depth nodes input s text) countered ran.answers in
      of_left (Settle depth nodes) left new input (λ bytes. WritesGameAgainst nodes bytes taken_old taken_new) tt ran.read
      (countered-writes nodes taken_old taken_new input text taken (unsettled-by depth nodes input text told))
]
