use Rattle.std.proofs.Common.{◌∙◌, sym, subst, arith, below_more}
use Rattle.proof_sentences.specs.Firsts.{IsFirst, is_changed}
use Rattle.proof_sentences.proofs.Changes.{none-changed}
use Rattle.proof_sentences.proofs.reasons.changed_square.Goals as goal

pub returns-then-is_changed-clause-first : goal.returns-then-is_changed-clause-first
returns-then-is_changed-clause-first c =
    subst (IsFirst (is_changed c.args.query.now.odds c.args.query.now.board c.args.set)) (sym c.known-s.ensures)
    (rw c.known-s.ensures at (sym c.is_changed.ensures ∙ c.if-is_changed.true), c.loop-i.invariant)

pub loop-i-preserved : goal.loop-i-preserved
loop-i-preserved c = below_more _ _ c.loop-i.invariant (rw c.known-s.ensures at (sym c.is_changed.ensures ∙ c.if-is_changed.false))

pub returns : goal.returns
returns c = absurd (c.requires.changed (none-changed c.args.query.now.odds c.args.query.now.board c.args.set c.loop-i.i c.requires.whole (omega arith) c.loop-i.invariant))
