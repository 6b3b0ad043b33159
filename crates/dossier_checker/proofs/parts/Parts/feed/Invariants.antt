use Rattle.std.proofs.Common.{◌++◌, List, ℕ, length}
use Rattle.dossier_checker.specs.DossierAnswers.{DossierAnswer}
use Rattle.dossier_checker.specs.Remaining.{PartsRemain}
use Rattle.dossier_checker.proofs.parts.Parts.feed.Given as goal

abbrev pub invariant-pieces : goal.invariant-pieces
invariant-pieces l = (bytes : List ℕ) (a : DossierAnswer) → PartsRemain l.self (l.rest ++ bytes) a → PartsRemain l.fn.self (l.fn.piece ++ bytes) a

abbrev pub decreases-pieces : goal.decreases-pieces
decreases-pieces l = length l.rest
