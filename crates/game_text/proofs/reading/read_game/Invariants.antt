use Rattle.std.proofs.Common.{map}
use Rattle.game_text.specs.Words.{AreTextsOf}
use Rattle.game_text.proofs.reading.read_game.Given as goal

abbrev pub invariant-loop-word : goal.invariant-loop-word
invariant-loop-word l = AreTextsOf (map (λ w. w.now) l.yielded) l.moves.items
