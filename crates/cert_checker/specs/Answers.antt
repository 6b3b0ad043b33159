-- What the check answers to lines.
use Rattle.std.specs.Prelude.{ℕ, ◌≡◌, Option, Some, None, Result, Ok, Err}
use Rattle.query_base.specs.Asked.{Asked}
use Rattle.query_base.specs.declared.claims.Claim.{Claim}
use Rattle.cert_text.specs.Certificate.{Lines, Certificate, AreLinesOf}
use Rattle.cert_text.specs.Texts.{IsBadAt}
use Rattle.cert_checker.specs.Proving.{ProvesClaim}
use Rattle.cert_checker.specs.Walk.{Fault, unlisted, unsupported, fault_at, WalksTo}
use Rattle.cert_checker.specs.declared.refusals.Accepted.{Accepted}
use Rattle.cert_checker.specs.declared.refusals.Refused.{Refused}
use Rattle.cert_checker.specs.declared.refusals.Refused.TheVariants as refused
use Rattle.cert_checker.specs.declared.refusals.Fault.{Fault as AFault}
use Rattle.cert_checker.specs.declared.refusals.Fault.TheVariants as by

-- the line where the text goes bad; the first fault of the walk, at a line; or a claim about a query
pub data Answer : Type 0 where
  bad_text : ℕ → Answer
  fault : ℕ → Fault → Answer
  accepted : Claim → Asked → Answer

-- This is the answer to the lines: they go bad there; they are the text of a certificate whose walk comes to this fault; or they
-- are the text of one that proves its claim.
abbrev pub Answers : Lines → Answer → Type 0
Answers lines (bad_text n) = IsBadAt AreLinesOf lines n
Answers lines (fault n f) = (cert : Certificate) × AreLinesOf lines cert × WalksTo cert (fault_at n f)
Answers lines (accepted claim query) = (cert : Certificate) × AreLinesOf lines cert × (cert.claim ≡ claim) × (cert.query ≡ query) × ProvesClaim cert

abbrev pub refused_as : Refused → Option Answer
refused_as (refused.BadText n) = Some (bad_text n)
refused_as (refused.Unlisted n u) = Some (fault n (unlisted u))
refused_as (refused.Unsupported n w) = Some (fault n (unsupported w))
refused_as refused.Memory = None

-- what a function answers, unless memory ran out
abbrev pub answered : Result Accepted Refused → Option Answer
answered (Ok a) = Some (accepted a.claim a.query)
answered (Err f) = refused_as f

-- what a check of bytes that come in pieces answers
abbrev pub answer_as : Result Accepted AFault → Answer
answer_as (Ok a) = accepted a.claim a.query
answer_as (Err (by.BadText n)) = bad_text n
answer_as (Err (by.Unlisted n u)) = fault n (unlisted u)
answer_as (Err (by.Unsupported n w)) = fault n (unsupported w)
