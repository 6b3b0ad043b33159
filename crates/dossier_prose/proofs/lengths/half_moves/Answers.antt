use Rattle.std.proofs.Common.{inl, inr, length, refl}
use Rattle.std.proofs.lemmas.Bool.{cases_lt}
use Rattle.board_base.specs.Board.{men_squares}
use Rattle.length_bound.proofs.Longer.{some_shown}
use Rattle.dossier_prose.proofs.lengths.half_moves.Goals as goal

pub returns-in_default : goal.returns-in_default
returns-in_default c = c.in_default.ensures.none.0 refl

pub returns : goal.returns
returns c = record {
  few = elim (cases_lt 16 (length (men_squares c.args.side c.args.query.now.board))) [
    | inl many ↦ absurd (let none = c.in-Some.ensures.none.1 many in cc)
    | inr few ↦ few
  ];
  length_is = some_shown c.args.side c.args.query.now c.in-Some.potentials.u c.in-Some.potentials.v c.in-Some-length_of.n (λ many. let none = c.in-Some.ensures.none.1 many in absurd cc) c.in-Some.ensures.greatest c.in-Some-length_of.ensures.answer.1;
  least = c.in-Some-length_of.ensures.least;
}
