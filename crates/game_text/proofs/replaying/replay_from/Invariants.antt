use Rattle.std.proofs.Common.{take}
use Rattle.board_base.specs.Game.{IsGame}
use Rattle.play_rules.specs.States.{StandsFor}
use Rattle.game_text.proofs.replaying.replay_from.Given as goal

abbrev pub invariant-loop-i : goal.invariant-loop-i
invariant-loop-i l = IsGame l.fn.odds (take l.i l.moves) × StandsFor l.state l.fn.odds (take l.i l.moves)
