use Rattle.std.proofs.Common.{◌≡◌, take}
use Rattle.board_base.specs.Game.{IsGame, last_move}
use Rattle.play_rules.specs.States.{StandsFor}
use Rattle.claim_findings.proofs.games.reaches.Given as goal

abbrev pub invariant-loop-i : goal.invariant-loop-i
invariant-loop-i l = record {
  game : IsGame l.query.odds (take l.i l.game);
  state : StandsFor l.state l.query.odds (take l.i l.game);
  last : last_move (take l.i l.game) ≡ l.last;
}
