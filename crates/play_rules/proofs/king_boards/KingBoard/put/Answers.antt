use Rattle.std.proofs.Common.{Bool, List, set, ap, sym, ◌∙◌}
use Rattle.std.proofs.lemmas.List.{map-set}
use Rattle.board_base.specs.Board.{is_a}
use Rattle.board_base.specs.declared.men.Kind.TheVariants.{King}
use Rattle.play_rules.specs.KingSets.{kings_on}
use Rattle.play_rules.proofs.king_boards.KingBoard.put.Goals as goal

pub invariant_of-self : goal.invariant_of-self
invariant_of-self c =
    ap kings_on c.put.ensures
    ∙ map-set (is_a King) c.self.inside.board c.args.s c.args.man
    ∙ ap (λ (l : List Bool). set l c.args.s (is_a King c.args.man)) c.self.invariant
    ∙ ap (set c.self.inside.kings c.args.s) (sym c.is_a.ensures)
    ∙ sym c.marked-self-inside.ensures
