use Rattle.std.proofs.Common.{List, [], ◌∷◌, ap, ◌∙◌}
use Rattle.board_base.specs.declared.men.Kind.{Kind}
use Rattle.board_base.specs.declared.men.Kind.TheVariants.{Knight, Rook, Queen}
use Rattle.figures.specs.Figures.{Figure}
use Rattle.sketch_walk.proofs.before.other_on.Goals as goal

pub returns : goal.returns
returns c =
    ap (λ (k : List Kind). record { colour = c.knight.inside.colour; kinds = k; squares = c.knight.inside.squares; marked = c.knight.inside.marked; place = c.knight.inside.place } ∷ []) c.knight_rook_queen.ensures
    ∙ ap (λ (g : Figure). record g { kinds = Knight ∷ Rook ∷ Queen ∷ [] } ∷ []) (c.knight.view_is ∙ c.victim_on-knight.ensures)
