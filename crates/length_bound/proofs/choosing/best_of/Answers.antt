use Rattle.std.proofs.Common.{refl, arith}
use Rattle.length_bound.proofs.Longer.{none_shown, some_shown}
use Rattle.length_bound.proofs.choosing.best_of.Goals as goal

pub returns-in_default : goal.returns-in_default
returns-in_default c = none_shown c.args.side c.args.query.now (c.in_default.ensures.none.0 refl)

pub returns : goal.returns
returns c = record {
  best = record {
    query = refl;
    bound = c.in-Some.ensures.bounded;
    greatest = c.in-Some.ensures.greatest;
    at_least = some_shown c.args.side c.args.query.now c.in-Some.potentials.u c.in-Some.potentials.v c.in-Some-length_of.at_least (λ many. let none = c.in-Some.ensures.none.1 many in absurd cc) c.in-Some.ensures.greatest c.in-Some-length_of.ensures.answer.1;
  };
  side = refl;
  small = let few = c.in-Some-length_of.ensures.small in omega arith;
}
