use Rattle.std.proofs.Common.{◌≡◌, ◌&&◌, ◌==◌, ℕ, Bool, ap, ◌∙◌, subst}
use Rattle.std.specs.List.{list_all}
use Rattle.board_base.specs.Board.{file, same_kind}
use Rattle.board_base.specs.declared.men.Kind.TheVariants.{Pawn}
use Rattle.figures.specs.Sets.{squares_that}
use Rattle.figures.specs.Figures.{Figure}
use Rattle.sketch_sets.specs.Files.{is_beside}
use Rattle.sketch_sets.specs.Homes.{is_inside}
use Rattle.sketch_sets.proofs.Sets.{inside-told}
use Rattle.sketch_sets.proofs.trims.is_pawn_beside.Goals as goal

pub returns : goal.returns
unfolding is_beside
returns c = subst (λ (f : Figure). (c.is_only.result && c.is_within.result) ≡ is_beside c.args.e f) c.figure.view_is
    (ap (λ (b : Bool). b && c.is_within.result) c.is_only.ensures
    ∙ ap (λ (b : Bool). list_all (same_kind Pawn) c.figure.inside.kinds && b) (c.is_within.ensures ∙ ap (is_inside c.figure.inside.squares) (c.file_squares.ensures ∙ ap (λ (n : ℕ). squares_that (λ q. file q == n)) c.file.ensures) ∙ inside-told c.figure.inside.squares (λ q. file q == file c.args.e)))
