use Rattle.std.proofs.Common.{◌&&◌, List, Bool, ap, sym, ◌∙◌, rules}
use Rattle.std.specs.List.{list_all}
use Rattle.board_base.specs.Board.{is_in, same_kind}
use Rattle.board_base.specs.declared.men.Kind.TheVariants.{Pawn}
use Rattle.figures.specs.Sets.{squares_that}
use Rattle.figures.specs.Figures.{Figure}
use Rattle.sketch_sets.specs.Tests.{is_kept, kept_squares}
use Rattle.sketch_sets.specs.Remade.{set_of}
use Rattle.sketch_sets.proofs.Keeping.{kept-free}
use Rattle.sketch_sets.proofs.trims.kept_squares.Goals as goal

pub returns-then-not-is_only : goal.returns-then-not-is_only
returns-then-not-is_only c = c.free_squares.ensures ∙ kept-free c.args.sketch.now c.args.fixed c.args.figure (ap (λ (f : Figure). list_all (same_kind Pawn) f.kinds) (sym c.figure.view_is) ∙ sym c.is_only.ensures ∙ c.if-not-is_only.true)

pub returns : goal.returns
unfolding kept_squares
returns c = c.those_that.ensures (is_kept c.args.sketch.now c.args.fixed c.args.figure) (λ s b low member post. search rules) ∙ ap (λ (l : List Bool). squares_that (λ s. is_in l s && is_kept c.args.sketch.now c.args.fixed c.args.figure s)) (ap set_of c.figure.view_is)
