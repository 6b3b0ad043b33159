use Rattle.std.proofs.Common.{◌≡◌, ◌==◌, Bool, List, refl, ap, sym, ◌∙◌}
use Rattle.board_base.specs.Board.{is_in, rank}
use Rattle.board_base.specs.Legal.{pawn_rank}
use Rattle.board_base.specs.Squares.{squares_of}
use Rattle.board_base.specs.declared.men.Colour.{Colour}
use Rattle.board_base.specs.declared.men.Colour.TheVariants.{White, Black}
use Rattle.figures.specs.Frozen.{is_past_home}
use Rattle.figures.specs.Sets.{squares_that}
use Rattle.figures.proofs.Filling.{is_in-that}
use Rattle.sketch_sets.proofs.pieces.pawn_squares.Goals as goal

white-past : squares_of 72057594037862400 ≡ squares_that (λ s. is_past_home White s)
unfolding squares_of squares_that
white-past = refl

white-first : squares_of 65280 ≡ squares_that (λ s. rank s == pawn_rank White)
unfolding squares_of squares_that
white-first = refl

black-past : squares_of 281474976710400 ≡ squares_that (λ s. is_past_home Black s)
unfolding squares_of squares_that
black-past = refl

black-first : squares_of 71776119061217280 ≡ squares_that (λ s. rank s == pawn_rank Black)
unfolding squares_of squares_that
black-first = refl

pub returns-in-White : goal.returns-in-White
returns-in-White c = record {
  past = λ s low. ap (λ (l : List Bool). is_in l s) (c.from_bits.ensures.squares ∙ white-past) ∙ is_in-that (λ t. is_past_home White t) s low ∙ ap (λ (x : Colour). is_past_home x s) (sym c.in-White.is);
  first = λ s low. ap (λ (l : List Bool). is_in l s) (c.from_bits-in-White.ensures.squares ∙ white-first) ∙ is_in-that (λ t. rank t == pawn_rank White) s low ∙ ap (λ (x : Colour). rank s == pawn_rank x) (sym c.in-White.is);
}

pub returns-in-Black : goal.returns-in-Black
returns-in-Black c = record {
  past = λ s low. ap (λ (l : List Bool). is_in l s) (c.from_bits-in-Black.ensures.squares ∙ black-past) ∙ is_in-that (λ t. is_past_home Black t) s low ∙ ap (λ (x : Colour). is_past_home x s) (sym c.in-Black.is);
  first = λ s low. ap (λ (l : List Bool). is_in l s) (c.from_bits-in-Black-2.ensures.squares ∙ black-first) ∙ is_in-that (λ t. rank t == pawn_rank Black) s low ∙ ap (λ (x : Colour). rank s == pawn_rank x) (sym c.in-Black.is);
}
