use Rattle.line_claims.proofs.LineTexts.{equal, short, spelled, written}
use Rattle.line_claims.proofs.laws.one_text_of_a_line_claim.Goals as goal

pub returns : goal.returns
returns c = record { spelled = spelled; written = written; equal = equal; short = short }
