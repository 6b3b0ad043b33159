use Rattle.std.proofs.Common.{◌-◌, drop, length, take}
use Rattle.line_claims.proofs.LineTexts.{castles_may, line_may}
use Rattle.line_claims.proofs.reading.read_line_claim.Goals as goal

pub returns-then-starts_with-clause-grammar : goal.returns-then-starts_with-clause-grammar
returns-then-starts_with-clause-grammar c = castles_may (take (length c.args.line.now - 14) (drop 14 c.args.line.now)) c.read_castles.result c.read_castles.ensures

pub returns-then-starts_with-2-clause-grammar : goal.returns-then-starts_with-2-clause-grammar
returns-then-starts_with-2-clause-grammar c = line_may (take (length c.args.line.now - 11) (drop 11 c.args.line.now)) c.read_line.result c.read_line.ensures
