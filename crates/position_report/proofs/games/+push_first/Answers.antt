use Rattle.std.proofs.Common.{List, sym, subst, ◌∙◌}
use Rattle.std.proofs.lemmas.Bool.{both_ways}
use Rattle.std.proofs.lemmas.Result.{on_ok_weaker}
use Rattle.board_base.specs.declared.moves.Move.{Move}
use Rattle.san_text.specs.FromArray.{Tells}
use Rattle.position_report.specs.Lengths.{LeadsHere, TellsGame}
use Rattle.position_report.proofs.Playing.{behind-first}
use Rattle.position_report.proofs.Telling.{games-first, games-later}
use Rattle.position_report.proofs.games.+push_first.Goals as goal

pub returns-then-not-leads_here : goal.returns-then-not-leads_here
returns-then-not-leads_here t c =
    let same = c.as_slice.ensures.value ∙ c.in_ok-moves-in-len1-up.ensures in
    on_ok_weaker c.push_first.result
    (λ w. games-later c.args.query.now c.args.whose.now c.args.games.now c.game-item.result _ _ c.in-len1-up.len_at_least c.game-item.is
    (λ here. both_ways _ c.if-not-leads_here.true (c.leads_here.ensures.1 (subst (λ (g : List Move). LeadsHere g c.args.query.now) (sym same) here)))
    (w.0, subst (λ (gs : List (List Move)). TellsGame c.args.query.now c.args.whose.now gs w.0) (behind-first c.args.games.now) w.1, w.2))
    c.push_first.ensures

pub returns-in_ok-text-in-len1-up : goal.returns-in_ok-text-in-len1-up
returns-in_ok-text-in-len1-up t c =
    let same = c.as_slice.ensures.value ∙ c.in_ok-moves-in-len1-up.ensures in
    let here = subst (λ (g : List Move). LeadsHere g c.args.query.now) same (c.leads_here.ensures.0 c.if-not-leads_here.false) in
    let same_again = c.as_slice-in-len1-up.ensures.value ∙ c.in_ok-moves-in-len1-up.ensures in
    let told = subst (Tells c.args.query.now.odds c.in_ok-text-in-len1-up.text.items) same_again c.in_ok-text-in-len1-up.ensures in
    on_ok_weaker c.push_game.result
    (λ e. games-first c.args.query.now c.args.whose.now c.args.games.now c.game-item.result c.in_ok-text-in-len1-up.text.items _ _ c.in-len1-up.len_at_least c.game-item.is here told (rw c.as_slice-in-len1-up-2.ensures.value at e))
    c.push_game.ensures
