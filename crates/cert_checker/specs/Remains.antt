-- A check of bytes that come in pieces: what it still answers, and for which bytes it stands.
use Rattle.std.specs.Prelude.{ℕ, ◌≡◌, ◌≤◌, List, ◌++◌, length, Option, Some, None, Result, Ok, Err}
use Rattle.std.specs.Io.KnownBytes.{Consumes, IsAtEnd}
use Rattle.cert_text.specs.Lines.{cut}
use Rattle.cert_checker.specs.Walk.{unlisted, unsupported}
use Rattle.cert_checker.specs.Answers.{Answer, Answers, bad_text, fault, accepted}
use Rattle.cert_checker.specs.declared.refusals.Accepted.{Accepted}
use Rattle.cert_checker.specs.declared.refusals.StreamRefused.{StreamRefused}
use Rattle.cert_checker.specs.declared.refusals.StreamRefused.TheVariants as refused
use Rattle.cert_checker.specs.Stages.{Stage, Rest}

-- the stage before the line that comes next, the bytes of that line that came so far, its number, and how many bytes came in all
pub record Checking : Type 0 where
  pub stage : Stage
  pub gathered : List ℕ
  pub number : ℕ
  pub fed : ℕ

-- This is still answered where these bytes follow, and nothing after them. What was gathered goes before them, and lines are
-- counted on.
abbrev pub Remains : Checking → List ℕ → Answer → Type 0
Remains k others answer = Rest k.stage k.number (cut (k.gathered ++ others)) answer

-- So many bytes came, and whatever follows them, what is still answered is the answer to them and to what follows.
pub record StandsFor (k : Checking) (bytes : List ℕ) : Type 0 where
  pub fed : k.fed ≡ length bytes
  pub answers : (others : List ℕ) (answer : Answer) → Remains k others answer → Answers (cut (bytes ++ others)) answer

-- What a check of a source's bytes answers, unless they weren't read to their end.
abbrev pub streamed : Result Accepted StreamRefused → Option Answer
streamed (Ok a) = Some (accepted a.claim a.query)
streamed (Err (refused.BadText n)) = Some (bad_text n)
streamed (Err (refused.Unlisted n u)) = Some (fault n (unlisted u))
streamed (Err (refused.Unsupported n w)) = Some (fault n (unsupported w))
streamed (Err refused.TooLong) = None
streamed (Err refused.ReadFault) = None

-- At most so many bytes were read, to the end, and this is the answer to them. Where the source tells its bytes, they are all of them.
pub record AnswersAll (limit : ℕ) (before now : Option (List ℕ)) (answer : Answer) : Type 0 where
  pub bytes : List ℕ
  pub read : Consumes before now bytes
  pub ended : IsAtEnd now
  pub fits : length bytes ≤ limit
  pub answers : Answers (cut bytes) answer
