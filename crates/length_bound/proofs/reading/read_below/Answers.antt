use Rattle.std.proofs.Common.{◌∷◌, rules}
use Rattle.cert_text.specs.Lines.{cut}
use Rattle.length_bound.specs.LengthText.{AreLengthLines, length_head}
use Rattle.length_bound.proofs.LengthGrammar.{below_later, below_read, fen_missing}
use Rattle.length_bound.proofs.reading.read_below.Goals as goal

pub returns-in_default-clause-bad : goal.returns-in_default-clause-bad
returns-in_default-clause-bad c = fen_missing _ _ _ _ c.take_odds-odds.ensures.odds c.take_odds-odds.ensures.lines c.in_default.ensures

pub returns-in-Ok-clause-ok : goal.returns-in-Ok-clause-ok
returns-in-Ok-clause-ok c =
    let read : AreLengthLines (length_head ∷ cut c.args.bytes.now) (record { query = c.in-Some.first.query; at_least = c.in-Ok.at_least; side = c.in-Ok.side; potentials = c.in-Ok.potentials }) = below_read _ _ _ _ _ _ _ _ c.take_odds-odds.ensures.odds c.in-Some.ensures c.in-Ok.ensures.ok in
    search rules

pub returns-in-Err-clause-bad : goal.returns-in-Err-clause-bad
returns-in-Err-clause-bad c = below_later _ _ _ _ _ _ _ c.take_odds-odds.ensures.odds c.take_odds-odds.ensures.lines c.in-Some.ensures c.in-Err.ensures.bad
