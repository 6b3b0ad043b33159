use Rattle.std.proofs.Common.{sym, ◌∙◌}
use Rattle.std.proofs.lemmas.Bool.{eq-eqb, eqb-true}
use Rattle.board_base.specs.declared.men.Colour.TheVariants.{White, Black}
use Rattle.play_rules.proofs.boards.has_one_king_each.Goals as goal

pub returns : goal.returns
returns c = (
  λ black. elim [
    | White ↦ sym c.count_kings.ensures ∙ c.if-count_kings-ne1.false
    | Black ↦ sym c.count_kings-2.ensures ∙ eqb-true _ 1 black
  ],
  λ one. eq-eqb _ 1 (c.count_kings-2.ensures ∙ one Black),
)
