use Rattle.std.proofs.Common.{◌≡◌, ◌∷◌, [], length, ap, sym, ◌∙◌, arith}
use Rattle.std.specs.Vec.Iter.{into_iter_items}
use Rattle.claim_findings.specs.Findings.{is_proved}
use Rattle.diagram_study.specs.Decisions.{IsRightAgreed, IsRightSought}
use Rattle.diagram_study.specs.declared.rights.RightFound.{RightFound}
use Rattle.diagram_study.proofs.Seeking.{each_told, nothing_left, told_all, told_more}
use Rattle.diagram_study.proofs.rights.agreed_rights.Goals as goal

pub loop-each-preserved : goal.loop-each-preserved
loop-each-preserved c =
    let at = c.loop-each in
    let was = c.in-Some.each in
    let games = c.args.games.now.found.items in
    let next : into_iter_items at.each-iterator ≡ was ∷ into_iter_items c.next.new.self = c.in-Some.ensures.steps.0 in
    record {
      rights = told_more (λ (f : RightFound). f.right) _ _ _ _ was c.agreed_right.result _ c.agreed_right.ensures.right c.in_ok-push.ensures.items next at.invariant.rights;
      proved = told_more (λ (f : RightFound). is_proved f.finding) _ _ _ _ was c.agreed_right.result _ c.agreed_right.ensures.proved c.in_ok-push.ensures.items next at.invariant.proved;
      found = λ most nodes all. each_told (IsRightSought c.args.subject.now.query most nodes games) (IsRightAgreed c.args.subject.now.query most nodes games) _ _ _ _ was c.agreed_right.result (c.agreed_right.ensures.found most nodes) c.in_ok-push.ensures.items next (at.invariant.found most nodes all);
      len = let len = at.invariant.len in let gone = c.in-Some.ensures.steps.1 in let short = ap length next in omega arith;
    }

pub returns-clause-rights : goal.returns-clause-rights
returns-clause-rights c =
    let at = c.loop-each in
    let empty : into_iter_items at.each-iterator ≡ [] = nothing_left _ (sym at.invariant.len ∙ c.in-None.ensures.steps.0) in
    told_all (λ (f : RightFound). f.right) _ _ _ empty at.invariant.rights

pub returns-clause-proved : goal.returns-clause-proved
returns-clause-proved c =
    let at = c.loop-each in
    let empty : into_iter_items at.each-iterator ≡ [] = nothing_left _ (sym at.invariant.len ∙ c.in-None.ensures.steps.0) in
    told_all (λ (f : RightFound). is_proved f.finding) _ _ _ empty at.invariant.proved

pub returns-clause-found : goal.returns-clause-found
returns-clause-found c = λ most nodes all. (c.loop-each.invariant.found most nodes all).0
