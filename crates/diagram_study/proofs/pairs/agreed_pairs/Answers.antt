use Rattle.std.proofs.Common.{◌≡◌, ◌∷◌, [], length, ap, sym, ◌∙◌, arith}
use Rattle.std.specs.Vec.Iter.{into_iter_items}
use Rattle.diagram_study.specs.Decisions.{IsPairAgreed, IsPairSought}
use Rattle.diagram_study.specs.Pairs.{pair_of}
use Rattle.diagram_study.proofs.Seeking.{each_told, same_pair, nothing_left, told_all, told_more}
use Rattle.diagram_study.proofs.pairs.agreed_pairs.Goals as goal

pub loop-each-preserved : goal.loop-each-preserved
loop-each-preserved c =
    let at = c.loop-each in
    let was = c.in-Some.each in
    let games = c.args.games.now.found.items in
    let next : into_iter_items at.each-iterator ≡ was ∷ into_iter_items c.next.new.self = c.in-Some.ensures.steps.0 in
    record {
      pairs = told_more pair_of _ _ _ _ was c.agreed_pair.result _ (same_pair c.agreed_pair.result was c.agreed_pair.ensures.first c.agreed_pair.ensures.second) c.in_ok-push.ensures.items next at.invariant.pairs;
      found = λ most nodes all. each_told (IsPairSought c.args.subject.now.query most nodes games) (IsPairAgreed c.args.subject.now.query most nodes games) _ _ _ _ was c.agreed_pair.result (c.agreed_pair.ensures.found most nodes) c.in_ok-push.ensures.items next (at.invariant.found most nodes all);
      len = let len = at.invariant.len in let gone = c.in-Some.ensures.steps.1 in let short = ap length next in omega arith;
    }

pub returns-clause-pairs : goal.returns-clause-pairs
returns-clause-pairs c =
    let at = c.loop-each in
    let empty : into_iter_items at.each-iterator ≡ [] = nothing_left _ (sym at.invariant.len ∙ c.in-None.ensures.steps.0) in
    told_all pair_of _ _ _ empty at.invariant.pairs

pub returns-clause-found : goal.returns-clause-found
returns-clause-found c = λ most nodes all. (c.loop-each.invariant.found most nodes all).0
