use Rattle.std.proofs.Common.{◌≡◌, refl, sym, ◌∙◌, subst}
use Rattle.board_base.specs.Board.{AreOdds, no_odds}
use Rattle.board_base.specs.Squares.{squares_of}
use Rattle.board_base.proofs.Without.{are-no-odds}
use Rattle.board_base.proofs.odds.Odds.none.Goals as goal

no-squares : squares_of 0 ≡ no_odds
unfolding squares_of
no-squares = refl

pub invariant_of-result : goal.invariant_of-result
invariant_of-result c = subst AreOdds (sym (c.from_bits.ensures.squares ∙ no-squares)) are-no-odds

pub returns : goal.returns
returns c = c.from_bits.ensures.squares ∙ no-squares
