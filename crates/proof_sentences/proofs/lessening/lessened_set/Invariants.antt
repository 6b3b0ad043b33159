use Rattle.cert_checker.specs.Reasons.{ReasonSupports}
use Rattle.proof_sentences.specs.Lessened.{IsLeftBelow, with_set}
use Rattle.proof_sentences.proofs.lessening.lessened_set.Given as goal

abbrev pub invariant-loop-i : goal.invariant-loop-i
invariant-loop-i l =
    record { supports : ReasonSupports l.query (with_set l.reason l.left); below : IsLeftBelow l.query l.reason l.fn.set l.i l.left }
