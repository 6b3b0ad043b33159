use Rattle.std.proofs.Common.{◌≡◌, true, Some, sym, ap, ◌∙◌}
use Rattle.board_base.specs.Board.{Places}
use Rattle.board_base.specs.Play.{double_of}
use Rattle.board_base.specs.Legal.{in_check}
use Rattle.ep_history.specs.Fits.{stand_after}
use Rattle.ep_history.proofs.Captured.{fits-if-safe}
use Rattle.ep_history.proofs.fits.ep_fits.Goals as goal

pub returns : goal.returns
returns c =
    let answers : double_of c.args.m.now c.args.side ≡ Some c.in-Some.double = sym c.double_of.ensures ∙ c.in-Some.is in
    let stands : stand_after c.args.board.now c.args.side c.args.m.now c.in-Some.double ≡ true = sym c.stand_after.ensures ∙ c.if-not-stand_after.false in
    fits-if-safe c.args.board.now c.args.side c.args.m.now c.in-Some.double answers stands c.in_check.result (c.in_check.ensures ∙ ap (λ (b : Places). in_check b c.args.side) c.after_capture.ensures)
