use Rattle.std.proofs.Common.{◌≡◌, ℕ, ◌<◌, false}
use Rattle.proof_sentences.specs.Firsts.{is_changed}
use Rattle.proof_sentences.proofs.reasons.changed_square.Given as goal

abbrev pub invariant-loop-i : goal.invariant-loop-i
invariant-loop-i l = (s : ℕ) → s < l.i → is_changed l.query.odds l.query.board l.set s ≡ false
