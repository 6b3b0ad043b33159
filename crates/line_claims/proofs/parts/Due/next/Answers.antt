use Rattle.line_claims.proofs.Listings.{listed-first, listed-rest}
use Rattle.line_claims.proofs.parts.Due.next.Goals as goal

pub pred-self-inside-requires : goal.pred-self-inside-requires
pred-self-inside-requires c = listed-first c.self.inside.query c.self.inside.steps c.next-2.new.self c.in-Some-next.step c.self.invariant c.in-Some-next.ensures

pub invariant_of-self-2 : goal.invariant_of-self-2
invariant_of-self-2 c = listed-rest c.self.inside.query c.pred-self-inside.result c.self.inside.steps c.next-2.new.self c.in-Some-next.step c.self.invariant c.in-Some-next.ensures c.pred-self-inside.ensures
