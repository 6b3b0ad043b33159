use Rattle.std.proofs.Common.{List, ap, arith}
use Rattle.board_base.specs.declared.unmoves.Unmove.{Unmove}
use Rattle.line_claims.specs.declared.claims.LineClaim.TheVariants.{Line}
use Rattle.position_report.proofs.Lasting.{list-given, one-line}
use Rattle.position_report.proofs.line_help.claim_of_one.Goals as goal

pub unwrap-requires : goal.unwrap-requires
unwrap-requires c = list-given c.new.result _ _ c.new.ensures (omega arith, omega arith)

pub returns-clause-is : goal.returns-clause-is
returns-clause-is c = ap (λ (us : List Unmove). Line us) ((rw c.unwrap.ensures at c.new.ensures).1)

pub returns-clause-text : goal.returns-clause-text
returns-clause-text c = one-line c.args.u _ (ap (λ (us : List Unmove). Line us) ((rw c.unwrap.ensures at c.new.ensures).1)) c.requires
