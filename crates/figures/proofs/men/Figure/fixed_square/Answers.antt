use Rattle.std.proofs.Common.{◌≡◌, ℕ, true, false, subst}
use Rattle.std.specs.Prelude.{MatchOption}
use Rattle.past_sketches.specs.Figures.{Figure, is_fixed_on}
use Rattle.figures.proofs.Singles.{fixed-matched}
use Rattle.figures.proofs.men.Figure.fixed_square.Goals as goal

pub returns-clause-square : goal.returns-clause-square
returns-clause-square c = subst (λ (f : Figure). MatchOption c.only_square.result ((s : ℕ) → is_fixed_on s f ≡ false) (λ s. is_fixed_on s f ≡ true)) c.self.view_is (fixed-matched c.only_square.result (record { colour = c.self.inside.colour; kinds = c.self.inside.kinds; squares = c.self.inside.squares; marked = c.self.inside.marked; place = c.self.inside.place }) c.is_whole.ensures c.only_square.ensures.one)
