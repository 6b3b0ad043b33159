use Rattle.std.proofs.Common.{◌≡◌, ℕ, ap, ◌∙◌, subst}
use Rattle.std.specs.Prelude.{nat_lt}
use Rattle.board_base.specs.Board.{rank}
use Rattle.figures.specs.Sets.{squares_that}
use Rattle.figures.specs.Figures.{Figure}
use Rattle.sketch_sets.specs.Files.{is_above}
use Rattle.sketch_sets.specs.Tests.{meets}
use Rattle.sketch_sets.proofs.Sets.{meets-told}
use Rattle.sketch_sets.proofs.trims.stands_above.Goals as goal

pub returns : goal.returns
unfolding is_above
returns c = subst (λ (f : Figure). c.meets.result ≡ is_above c.args.e f) c.figure.view_is
    (c.meets.ensures ∙ ap (meets c.figure.inside.squares) (c.ranks_above.ensures ∙ ap (λ (n : ℕ). squares_that (λ q. nat_lt n (rank q))) c.rank.ensures) ∙ meets-told c.figure.inside.squares (λ q. nat_lt (rank c.args.e) (rank q)))
