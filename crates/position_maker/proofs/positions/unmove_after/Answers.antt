use Rattle.std.proofs.Common.{◌≡◌, ◌∙◌, ap, sym, cond}
use Rattle.std.specs.Prelude.{Some}
use Rattle.std.proofs.lemmas.Bool.{cond-true, cond-false}
use Rattle.board_base.specs.Board.{Places, no_odds, at}
use Rattle.board_base.specs.Play.{goes_en_passant}
use Rattle.board_base.specs.declared.men.Kind.TheVariants.{Pawn}
use Rattle.play_rules.proofs.Standing.{legal-stands}
use Rattle.unmove_gen.specs.TakenBack.{kind_of}
use Rattle.position_maker.proofs.Queries.{unmove-is}
use Rattle.position_maker.proofs.positions.unmove_after.Goals as goal
use Rattle.position_maker.proofs.positions.unmove_after.Goals.{then-ep, else-ep}

pub returns : goal.returns
returns c g game stands =
    let captured : c.if-ep.captured ≡ cond c.goes_en_passant-ep.result (Some Pawn) (kind_of (at c.args.before.now.board c.args.m.now.to)) = elim c.if-ep.branch [
      | then-ep w ↦ w.captured-is ∙ sym (cond-true _ (Some Pawn) (kind_of (at c.args.before.now.board c.args.m.now.to)) w.if-ep.true)
      | else-ep w ↦ w.captured-is ∙ w.kind_of-captured.ensures ∙ ap kind_of (w.at.ensures.man ∙ ap (λ (b : Places). at b c.args.m.now.to) w.board-else-ep.ensures) ∙ sym (cond-false _ (Some Pawn) (kind_of (at c.args.before.now.board c.args.m.now.to)) w.if-ep.false)
    ] in
    unmove-is c.args.before.now g c.args.m.now c.if-ep.captured c.goes_en_passant-ep.result stands (sym (legal-stands c.args.before.now no_odds g game stands c.args.m.now) ∙ c.requires) (c.goes_en_passant-ep.ensures ∙ ap (λ (b : Places). goes_en_passant b c.args.m.now) c.board.ensures) captured
