use Rattle.std.proofs.Common.{sym, ap, ◌∙◌}
use Rattle.fen_text.specs.Fen.{unnumbered, fen_of_four}
use Rattle.fen_text.proofs.OneText.{four_long}
use Rattle.fen_text.proofs.positions.read_four_fields.Goals as goal

pub returns-then-text-gt-LONGEST-clause-read : goal.returns-then-text-gt-LONGEST-clause-read
returns-then-text-gt-LONGEST-clause-read c = sym (four_long c.args.text.now c.if-text-gt-LONGEST.true)

pub returns-in-Ok-clause-read : goal.returns-in-Ok-clause-read
unfolding fen_of_four
returns-in-Ok-clause-read c = c.without_numbers.ensures.read ∙ ap unnumbered (sym c.in-Ok.ensures.read)

pub returns-in-Err-clause-read : goal.returns-in-Err-clause-read
unfolding fen_of_four
returns-in-Err-clause-read c = ap unnumbered (sym c.in-Err.ensures.read.place.unknown)
