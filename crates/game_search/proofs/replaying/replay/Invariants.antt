use Rattle.std.proofs.Common.{◌≡◌, take}
use Rattle.board_base.specs.Game.{IsGame, last_move}
use Rattle.play_rules.specs.States.{StandsFor}
use Rattle.game_search.proofs.replaying.replay.Given as goal

abbrev pub invariant-loop-m : goal.invariant-loop-m
invariant-loop-m l = IsGame l.fn.query.odds l.game × StandsFor l.state l.fn.query.odds l.game × (last_move l.game ≡ l.last) × (l.game ≡ take l.m-index l.moves)
