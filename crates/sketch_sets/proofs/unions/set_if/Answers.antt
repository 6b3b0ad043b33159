use Rattle.std.proofs.Common.{Bool, ◌&&◌, List, ap, sym, ◌∙◌}
use Rattle.std.proofs.lemmas.Bool.{and_left}
use Rattle.board_base.specs.Board.{is_in}
use Rattle.figures.proofs.Filling.{none-in-zero}
use Rattle.sketch_sets.proofs.unions.set_if.Goals as goal

pub returns-then-has : goal.returns-then-has
returns-then-has g c = λ e p low agrees. agrees c.args.kind c.sets.result c.sets.ensures ∙ sym (ap (λ (b : Bool). b && p c.args.kind) (sym c.has.ensures ∙ c.if-has.true))

pub returns-else-has : goal.returns-else-has
returns-else-has g c = λ e p low agrees. ap (λ (l : List Bool). is_in l e) c.from_bits.ensures.squares ∙ none-in-zero e ∙ sym (and_left _ (p c.args.kind) (sym c.has.ensures ∙ c.if-has.false))
