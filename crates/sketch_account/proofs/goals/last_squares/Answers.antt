use Rattle.std.proofs.Common.{◌==◌, ◌∙◌, Bool, List, ap, sym}
use Rattle.board_base.specs.Board.{is_in, rank}
use Rattle.board_base.specs.Legal.{last_rank}
use Rattle.board_base.specs.declared.men.Colour.{Colour}
use Rattle.sketch_account.proofs.Aiming.{first-is, last-is}
use Rattle.sketch_account.proofs.goals.last_squares.Goals as goal

pub returns-in-White : goal.returns-in-White
returns-in-White c = λ s inside. ap (λ (l : List Bool). is_in l s) c.from_bits.ensures.squares ∙ last-is s inside ∙ ap (λ (x : Colour). rank s == last_rank x) (sym c.in-White.is)

pub returns-in-Black : goal.returns-in-Black
returns-in-Black c = λ s inside. ap (λ (l : List Bool). is_in l s) c.from_bits-in-Black.ensures.squares ∙ first-is s inside ∙ ap (λ (x : Colour). rank s == last_rank x) (sym c.in-Black.is)
