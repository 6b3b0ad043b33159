use Rattle.std.proofs.Common.{◌≡◌, [], take}
use Rattle.san_text.specs.Pieces.{added_all}
use Rattle.san_text.specs.SpelledGames.{AreLegal, spelled_words, state_after}
use Rattle.san_text.proofs.spelling.write_san_game.Given as goal

abbrev pub invariant-loop-i : goal.invariant-loop-i
invariant-loop-i l =
    AreLegal l.fn.start (take l.i l.moves) × (l.state ≡ state_after l.fn.start (take l.i l.moves)) × (l.text.items ≡ added_all [] (spelled_words l.fn.start 0 (take l.i l.moves)))
