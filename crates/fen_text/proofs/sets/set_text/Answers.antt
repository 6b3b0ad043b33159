use Rattle.std.proofs.Common.{List, Bool, length, refl, sym, ap, ◌∙◌, arith}
use Rattle.std.proofs.lemmas.Bool.{eq-eqb}
use Rattle.board_base.specs.SquareNumbers.{length-squares_of}
use Rattle.fen_text.specs.Sets.{set_of}
use Rattle.fen_text.proofs.HexTexts.{set_back}
use Rattle.fen_text.proofs.WrittenSets.{digits_begun, digits_done}
use Rattle.fen_text.proofs.sets.set_text.Goals as goal

pub loop-place-init : goal.loop-place-init
loop-place-init c = digits_begun c.args.set c.bits-bits.result _ c.bits-bits.ensures.number refl refl

pub returns-clause-read : goal.returns-clause-read
returns-clause-read c =
    ap set_of (digits_done c.args.set c.loop-place.place c.loop-place.bits c.loop-place.text (omega (arith, c.loop-place-test.false)) c.loop-place.invariant)
    ∙ set_back c.args.set (eq-eqb (length c.args.set) 64 (ap (λ (set : List Bool). length set) (sym c.bits-bits.ensures.squares) ∙ length-squares_of c.bits-bits.result))
