use Rattle.std.proofs.Common.{◌≡◌, ℕ, ◌&&◌, ◌==◌, not, ap, ◌∙◌}
use Rattle.board_base.specs.Board.{file, rank}
use Rattle.board_base.specs.Legal.{last_rank}
use Rattle.figures.specs.Figures.{Figure}
use Rattle.sketch_list.specs.Listed.{Listed, is_advance}
use Rattle.sketch_walk.proofs.places.is_advance.Goals as goal

four : (a b r l a' b' r' l' : ℕ) → a ≡ a' → b ≡ b' → r ≡ r' → l ≡ l' → ((a == b) && not (r == l)) ≡ ((a' == b') && not (r' == l'))
four a b r l a' b' r' l' h1 h2 h3 h4 = cc

pub returns : goal.returns
unfolding is_advance
returns c = four c.file.result c.file-2.result c.rank.result c.last_rank.result _ _ _ _
    (c.file.ensures ∙ ap (λ (y : Listed). file y.from) c.step.view_is)
    (c.file-2.ensures ∙ ap (λ (y : Listed). file y.to) c.step.view_is)
    (c.rank.ensures ∙ ap (λ (y : Listed). rank y.to) c.step.view_is)
    (c.last_rank.ensures ∙ ap (λ (f : Figure). last_rank f.colour) c.figure.view_is)
