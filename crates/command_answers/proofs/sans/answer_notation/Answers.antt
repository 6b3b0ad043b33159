use Rattle.std.proofs.Common.{◌≡◌, Bool, List, [], ap, sym, subst}
use Rattle.board_base.specs.Game.{IsGame}
use Rattle.query_base.specs.Asked.{Asked}
use Rattle.play_rules.proofs.Games.{no_moves}
use Rattle.command_answers.proofs.sans.answer_notation.Goals as goal

pub answer_told-requires-clause-game : goal.answer_told-requires-clause-game
answer_told-requires-clause-game c =
    let odds : c.query.inside.odds ≡ c.args.query.now.odds = ap (λ (q : Asked). q.odds) c.query.view_is in
    let game : IsGame c.query.inside.odds c.in-Ok.moves.items = c.in-Ok.ensures.in_games c.query.inside.odds [] (no_moves c.query.inside.odds) c.start_of.ensures in
    subst (λ (o : List Bool). IsGame o c.deref.result.now) odds (subst (IsGame c.query.inside.odds) (sym c.deref.ensures.value) game)
