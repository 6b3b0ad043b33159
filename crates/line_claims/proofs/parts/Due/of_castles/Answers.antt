use Rattle.std.proofs.Common.{subst, sym}
use Rattle.line_claims.specs.Listing.{AreListed}
use Rattle.line_claims.proofs.Listings.{listed-none}
use Rattle.line_claims.proofs.parts.Due.of_castles.Goals as goal

pub invariant_of-result : goal.invariant_of-result
invariant_of-result c = subst (AreListed c.args.query.now) (sym c.none.ensures) (listed-none c.args.query.now)
