use Rattle.std.proofs.Common.{ℕ, Bool, ◌&&◌, ◌==◌, ap, ◌∙◌}
use Rattle.std.specs.List.{list_any, range_with_len}
use Rattle.board_base.specs.Board.{file, is_in}
use Rattle.board_base.specs.declared.men.Kind.TheVariants.{Pawn}
use Rattle.figures.specs.Figures.{Figure, may_be}
use Rattle.sketch_list.specs.Listed.{is_on_file}
use Rattle.sketch_walk.proofs.places.is_on_file.Goals as goal

pub returns : goal.returns
unfolding is_on_file
returns c =
    ap (λ (b : Bool). b && c.has_file.result) c.may_be.ensures
    ∙ ap (λ (b : Bool). may_be c.args.figure.now Pawn && b) (c.has_file.ensures ∙ ap (λ (n : ℕ). list_any (λ s. is_in c.figure.inside.squares s && (file s == n)) (range_with_len 0 64)) c.file.ensures ∙ ap (λ (f : Figure). list_any (λ s. is_in f.squares s && (file s == file c.args.s)) (range_with_len 0 64)) c.figure.view_is)
