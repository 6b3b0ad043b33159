use Rattle.std.proofs.Common.{◌≡◌, false, length, sym, ap, ◌∙◌}
use Rattle.board_base.specs.Board.{at, is_a}
use Rattle.board_base.specs.declared.men.Kind.TheVariants.{Pawn}
use Rattle.board_base.specs.Play.{double_of}
use Rattle.board_base.specs.declared.men.Colour.{Colour}
use Rattle.query_base.specs.Asked.{Asked}
use Rattle.unmove_gen.specs.Listed.{mover}
use Rattle.unmove_gen.proofs.PlainFitting.{fits-none, fits-other}
use Rattle.unmove_gen.proofs.captures.fits_en_passant.Goals as goal

pub returns-in-None : goal.returns-in-None
returns-in-None c =
    sym (fits-none c.args.query.now c.args.m.now (ap (λ (d : Colour). double_of c.args.m.now d) (ap mover (sym c.query.view_is) ∙ sym c.other.ensures) ∙ sym c.in-None.ensures))

pub returns-then-not-is_a : goal.returns-then-not-is_a
returns-then-not-is_a c =
    let whole : length c.args.query.now.board ≡ 64 = ap (λ (a : Asked). length a.board) (sym c.query.view_is) ∙ c.at.ensures.size in
    let other : is_a Pawn (at c.args.query.now.board c.args.m.now.to) ≡ false = ap (λ (a : Asked). is_a Pawn (at a.board c.args.m.now.to)) (sym c.query.view_is) ∙ ap (is_a Pawn) (sym c.at.ensures.man) ∙ sym c.is_a.ensures ∙ c.if-not-is_a.true in
    sym (fits-other c.args.query.now c.args.m.now whole other)
