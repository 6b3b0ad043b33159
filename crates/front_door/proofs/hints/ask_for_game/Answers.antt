use Rattle.front_door.proofs.Asking.{asks-game}
use Rattle.front_door.proofs.hints.ask_for_game.Goals as goal

pub returns-in-Some : goal.returns-in-Some
returns-in-Some c game =
    asks-game c.args.words.now c.in-Some.row.name.now c.in-Some.row.input c.in-Some.ensures.named c.in-Some.ensures.reading (c.is_game.ensures game)
