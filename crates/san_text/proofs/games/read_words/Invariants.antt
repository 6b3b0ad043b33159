use Rattle.std.proofs.Common.{◌≡◌, length, map}
use Rattle.san_text.proofs.Told.{HasRead}
use Rattle.san_text.proofs.games.read_words.Given as goal

abbrev pub invariant-loop-word : goal.invariant-loop-word
invariant-loop-word l = (l.count ≡ length l.yielded) × HasRead l.ended (map (λ w. w.now) l.yielded) l.said.items
