use Rattle.std.proofs.Common.{◌≤◌, length, refl, arith}
use Rattle.std.specs.Prelude.{IsTrue}
use Rattle.std.proofs.lemmas.Bool.{both_ways}
use Rattle.board_base.specs.declared.unmoves.Unmove.{Unmove}
use Rattle.line_claims.specs.Lines.{has_text}
use Rattle.diagram_study.proofs.LastMoves.{ends_few, ends_keep, whole_truth}
use Rattle.diagram_study.proofs.possible.find_ends.Goals as goal

pub returns-in_ok-ends-clause-found : goal.returns-in_ok-ends-clause-found
returns-in_ok-ends-clause-found c =
    let are = c.in_ok-ends.ensures in
    record {
      few = λ _. (c.in_ok-ends.ends, record { are = are; whole = whole_truth c.args.games.now.found.items c.args.query.now c.args.left.now c.in_ok-ends.ends are c.requires.among }, refl);
      none = λ many. absurd (many (c.has_few_left.ensures.0 c.if-has_few_left.true));
    }

pub returns-in_ok-ends-clause-texts : goal.returns-in_ok-ends-clause-texts
returns-in_ok-ends-clause-texts c =
    let few : length c.in_ok-ends.ends ≤ length c.args.left.now = ends_few c.args.games.now.found.items c.args.query.now c.args.left.now c.in_ok-ends.ends c.in_ok-ends.ensures in
    let most = c.requires.texts.few in
    record { few = omega (arith, few, most); texts = ends_keep (λ (u : Unmove). IsTrue (has_text u)) c.args.games.now.found.items c.args.query.now c.args.left.now c.in_ok-ends.ends c.in_ok-ends.ensures c.requires.texts.texts }

pub returns-else-has_few_left-clause-found : goal.returns-else-has_few_left-clause-found
returns-else-has_few_left-clause-found c = record { few = λ few. absurd (both_ways _ c.if-has_few_left.false (c.has_few_left.ensures.1 few)); none = λ _. refl }
