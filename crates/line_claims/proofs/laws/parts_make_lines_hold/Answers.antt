use Rattle.line_claims.proofs.Ending.{holds_by_parts}
use Rattle.line_claims.proofs.laws.parts_make_lines_hold.Goals as goal

pub returns : goal.returns
returns c = holds_by_parts
