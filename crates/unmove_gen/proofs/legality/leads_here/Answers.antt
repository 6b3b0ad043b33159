use Rattle.std.proofs.Common.{◌≡◌, Bool, true, ◌&&◌, sym, ap, ◌∙◌}
use Rattle.board_base.specs.Board.{Places}
use Rattle.board_base.specs.Play.{play}
use Rattle.board_base.specs.declared.men.Colour.{Colour}
use Rattle.query_base.specs.Asked.{Asked}
use Rattle.unmove_gen.specs.Listed.{is_legal_before, leads_here, mover, same_places}
use Rattle.unmove_gen.proofs.Marking.{same-boards}
use Rattle.unmove_gen.proofs.legality.leads_here.Goals as goal

pub returns-in-Ok : goal.returns-in-Ok
returns-in-Ok c =
    let q : Asked = c.args.query.now in
    let board : Places = c.args.board.now in
    let side : mover q ≡ c.other.result = ap mover (sym c.query.view_is) ∙ sym c.other.ensures in
    let legal : is_legal_before board (mover q) c.args.u.now ≡ true = ap (λ (d : Colour). is_legal_before board d c.args.u.now) side ∙ sym c.state_before.ensures.legal ∙ c.in-Ok.ensures.here.0 in
    let played : c.board.result.now ≡ play board c.args.u.now.mv = c.board.ensures ∙ c.in-Ok.ensures.here.1.board_is ∙ ap (λ (b : Places). play b c.args.u.now.mv) c.state_before.ensures.board in
    same-boards c.board.result.now c.query.inside.board c.is_same.result c.is_same.ensures
    ∙ ap (λ (b : Places). same_places b c.query.inside.board) played
    ∙ ap (λ (a : Asked). same_places (play board c.args.u.now.mv) a.board) c.query.view_is
    ∙ sym (ap (λ (b : Bool). b && leads_here board q c.args.u.now.mv) legal)
