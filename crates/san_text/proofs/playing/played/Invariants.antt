use Rattle.std.proofs.Common.{take}
use Rattle.san_text.specs.Games.{LeadTo}
use Rattle.san_text.proofs.playing.played.Given as goal

abbrev pub invariant-loop-i : goal.invariant-loop-i
invariant-loop-i l = LeadTo l.fn.start (take l.i l.said) l.moves.items l.state
