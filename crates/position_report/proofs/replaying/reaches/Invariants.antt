use Rattle.std.proofs.Common.{◌≡◌, take}
use Rattle.board_base.specs.Game.{IsGame, last_move}
use Rattle.play_rules.specs.States.{StandsFor}
use Rattle.position_report.proofs.replaying.reaches.Given as goal

abbrev pub invariant-loop-m : goal.invariant-loop-m
invariant-loop-m l = record {
  game : IsGame l.fn.query.odds (take l.m-index l.moves);
  state : StandsFor l.state l.fn.query.odds (take l.m-index l.moves);
  last : last_move (take l.m-index l.moves) ≡ l.last;
}
