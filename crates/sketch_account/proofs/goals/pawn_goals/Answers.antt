use Rattle.std.proofs.Common.{◌≡◌, ◌==◌, ◌∙◌, ◌&&◌, not, Bool, true, false, List, ap, sym}
use Rattle.board_base.specs.Board.{is_in, rank}
use Rattle.board_base.specs.Legal.{last_rank}
use Rattle.board_base.specs.declared.men.Kind.TheVariants.{Pawn}
use Rattle.cage_rules.proofs.Filling.{none-in-zero}
use Rattle.figures.specs.Figures.{may_be}
use Rattle.sketch_account.proofs.Algebra.{in-both, in-outside}
use Rattle.sketch_account.proofs.goals.pawn_goals.Goals as goal

pub returns-then-may_be : goal.returns-then-may_be
returns-then-may_be c = λ s inside.
    let may : may_be c.args.figure.now Pawn ≡ true = sym c.may_be.ensures ∙ c.if-may_be.true in
    in-both c.args.free c.outside.result c.both.result s c.both.ensures inside
    ∙ ap (λ (b : Bool). is_in c.args.free s && b) (in-outside c.last_squares.result c.outside.result s c.outside.ensures inside ∙ ap not (c.last_squares.ensures s inside))
    ∙ ap (λ (b : Bool). b && is_in c.args.free s && not (rank s == last_rank c.args.side)) (sym may)

pub returns-else-may_be : goal.returns-else-may_be
returns-else-may_be c = λ s inside.
    let may : may_be c.args.figure.now Pawn ≡ false = sym c.may_be.ensures ∙ c.if-may_be.false in
    ap (λ (l : List Bool). is_in l s) c.from_bits.ensures.squares ∙ none-in-zero s ∙ ap (λ (b : Bool). b && is_in c.args.free s && not (rank s == last_rank c.args.side)) (sym may)
