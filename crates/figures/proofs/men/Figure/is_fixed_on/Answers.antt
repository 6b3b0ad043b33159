use Rattle.std.proofs.Common.{◌==◌, ℕ, sym, ap, ◌∙◌}
use Rattle.figures.proofs.Singles.{fixed-same}
use Rattle.figures.proofs.men.Figure.is_fixed_on.Goals as goal

pub returns-in-Some : goal.returns-in-Some
returns-in-Some c = ap (λ (n : ℕ). n == c.index-in-Some.result) c.index.ensures.number ∙ ap (λ (n : ℕ). c.args.s == n) c.index-in-Some.ensures.number ∙ fixed-same c.args.self.now _ c.args.s c.fixed_square.ensures.size c.in-Some.ensures.square

pub returns-in-None : goal.returns-in-None
returns-in-None c = sym (c.in-None.ensures.square c.args.s)
