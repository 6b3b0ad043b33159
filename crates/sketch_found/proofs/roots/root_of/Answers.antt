use Rattle.std.proofs.Common.{◌≤◌, length, rules}
use Rattle.std.specs.Prelude.{SomeIff}
use Rattle.past_sketches.specs.Figures.{sketch_of}
use Rattle.sketch_checker.specs.Beginning.{CanBegin}
use Rattle.sketch_found.proofs.FewFigures.{sketch-given}
use Rattle.sketch_found.proofs.roots.root_of.Goals as goal

pub returns-then-is_root-clause-all : goal.returns-then-is_root-clause-all
returns-then-is_root-clause-all c =
    let given : SomeIff c.sketch_of.result (length (sketch_of c.args.query.now.board) ≤ 32) (sketch_of c.args.query.now.board) = search rules in
    let can : CanBegin c.args.query.now.odds (sketch_of c.args.query.now.board) = search rules in
    λ _. sketch-given c.args.query.now.odds (sketch_of c.args.query.now.board) c.sketch_of.result given can
