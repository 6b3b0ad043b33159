use Rattle.std.proofs.Common.{sym, ◌∙◌, inl, inr, refl}
use Rattle.std.proofs.lemmas.Bool.{both_ways}
use Rattle.proof_sentences.proofs.Parts.{left-whole}
use Rattle.proof_sentences.proofs.lessening.without_square.Goals as goal

pub returns-then-not-has-clause-left : goal.returns-then-not-has-clause-left
returns-then-not-has-clause-left c = inr (λ part h. both_ways _ (sym c.has.ensures.member ∙ c.if-not-has.true) h.0, refl)

pub returns-then-reason_supports-clause-left : goal.returns-then-reason_supports-clause-left
returns-then-reason_supports-clause-left c =
    inl (sym c.has.ensures.member ∙ c.if-not-has.false, rw c.without.ensures at c.part-part.ensures, rw c.with_set.ensures at (c.reason_supports.ensures.0 c.if-reason_supports.true))

pub returns-else-reason_supports-clause-left : goal.returns-else-reason_supports-clause-left
returns-else-reason_supports-clause-left c =
    left-whole c.args.query.now c.args.reason.now c.args.set c.args.s c.part-part.result (rw c.without.ensures at c.part-part.ensures)
    (λ h. both_ways _ c.if-reason_supports.false (c.reason_supports.ensures.1 (rw c.with_set.ensures h)))
