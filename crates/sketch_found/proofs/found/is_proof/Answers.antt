use Rattle.std.proofs.Common.{◌≤◌, ◌∙◌, ap, is_some, length, rules, sym}
use Rattle.std.specs.Prelude.{SomeIff}
use Rattle.past_sketches.specs.Figures.{sketch_of}
use Rattle.sketch_found.proofs.FewFigures.{sketch-given}
use Rattle.sketch_found.proofs.found.is_proof.Goals as goal

pub returns-in_default-sketch_of-clause-all : goal.returns-in_default-sketch_of-clause-all
returns-in_default-sketch_of-clause-all c =
    let given : SomeIff c.sketch_of.result (length (sketch_of c.args.query.now.board) ≤ 32) (sketch_of c.args.query.now.board) = search rules in
    λ can _ _. sym (ap is_some c.in_default-sketch_of.is) ∙ sketch-given c.args.query.now.odds (sketch_of c.args.query.now.board) c.sketch_of.result given can
