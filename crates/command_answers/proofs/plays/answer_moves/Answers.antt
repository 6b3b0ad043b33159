use Rattle.std.proofs.Common.{◌≡◌, Bool, List, refl, ap, inl, inr, sym, subst}
use Rattle.std.proofs.lemmas.Bool.{both_ways}
use Rattle.board_base.specs.Game.{IsGame}
use Rattle.play_rules.specs.States.{StandsFor}
use Rattle.game_text.specs.Replay.{FirstIllegal}
use Rattle.query_base.specs.Asked.{Asked}
use Rattle.command_answers.proofs.plays.answer_moves.Goals as goal

pub returns-in_ok-from_slice : goal.returns-in_ok-from_slice
returns-in_ok-from_slice c =
    let odds : c.query.inside.odds ≡ c.args.query.now.odds = ap (λ (q : Asked). q.odds) c.query.view_is in
    let game = subst (λ (o : List Bool). IsGame o c.args.moves.now × StandsFor c.in-Ok.state o c.args.moves.now) odds c.in-Ok.ensures in
    let ends = c.matches_end.ensures.in_games _ game.0 game.1 (sym c.last_of.ensures) in
    inl (ends.0 c.if-matches_end.true, c.in_ok-from_slice.ensures.items)

pub returns-in_ok-from_slice-2 : goal.returns-in_ok-from_slice-2
returns-in_ok-from_slice-2 c =
    let odds : c.query.inside.odds ≡ c.args.query.now.odds = ap (λ (q : Asked). q.odds) c.query.view_is in
    let game = subst (λ (o : List Bool). IsGame o c.args.moves.now × StandsFor c.in-Ok.state o c.args.moves.now) odds c.in-Ok.ensures in
    let ends = c.matches_end.ensures.in_games _ game.0 game.1 (sym c.last_of.ensures) in
    inl (game.0, λ reached. both_ways _ c.if-matches_end.false (ends.1 reached), c.in_ok-from_slice-2.ensures.items)

pub returns-in-Err : goal.returns-in-Err
returns-in-Err c =
    let odds : c.query.inside.odds ≡ c.args.query.now.odds = ap (λ (q : Asked). q.odds) c.query.view_is in
    inr (c.in-Err.illegal.ply, subst (λ (o : List Bool). FirstIllegal o c.args.moves.now c.in-Err.illegal.ply) odds c.in-Err.ensures, refl, c.in_ok-write_ply-in-Err.ensures)
