-- What a check of a source's bytes answers.
use Rattle.std.specs.Prelude.{ℕ, ◌≤◌, List, length, Option, Some, None, Result, Ok, Err}
use Rattle.std.specs.Io.KnownBytes.{Consumes, IsAtEnd}
use Rattle.cert_checker.specs.Walk.{unlisted, unsupported}
use Rattle.dossier_checker.specs.DossierAnswers.{DossierAnswer, AnswersDossier, no_head, unlisted_step, no_part, bad_text_in, fault_in, other_part, line_accepted}
use Rattle.dossier_checker.specs.declared.refusals.AcceptedLine.{AcceptedLine}
use Rattle.dossier_checker.specs.declared.refusals.DossierRefused.{DossierRefused}
use Rattle.dossier_checker.specs.declared.refusals.DossierRefused.TheVariants as refused

-- what a refusal answers to the bytes, unless they weren't read to their end
abbrev pub refused_as : DossierRefused → Option DossierAnswer
refused_as refused.Head = Some no_head
refused_as (refused.UnlistedStep i) = Some (unlisted_step i)
refused_as (refused.NoPart p) = Some (no_part p)
refused_as (refused.BadText p n) = Some (bad_text_in p n)
refused_as (refused.Unlisted p n u) = Some (fault_in p n (unlisted u))
refused_as (refused.Unsupported p n w) = Some (fault_in p n (unsupported w))
refused_as (refused.Other p) = Some (other_part p)
refused_as refused.TooLong = None
refused_as refused.ReadFault = None

-- what a check of a source's bytes answers, unless they weren't read to their end
abbrev pub dossier_answer : Result AcceptedLine DossierRefused → Option DossierAnswer
dossier_answer (Ok a) = Some (line_accepted a.claim a.query)
dossier_answer (Err r) = refused_as r

-- At most so many bytes were read, to the end, and this is the answer to them. Where the source tells its bytes, they are all of them.
pub record AnswersDossierAll (limit : ℕ) (before now : Option (List ℕ)) (answer : DossierAnswer) : Type 0 where
  pub bytes : List ℕ
  pub read : Consumes before now bytes
  pub ended : IsAtEnd now
  pub fits : length bytes ≤ limit
  pub answers : AnswersDossier bytes answer
