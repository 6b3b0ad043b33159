use Rattle.std.proofs.Common.{◌≡◌, ◌+◌, ◌-◌, suc, ℕ, List, subst, arith}
use Rattle.std.proofs.lemmas.Bool.{both_ways}
use Rattle.claim_findings.specs.Outcomes.{HasProof}
use Rattle.diagram_study.specs.Looks.{AreHeights}
use Rattle.diagram_study.specs.declared.retractions.Looked.{Looked}
use Rattle.diagram_study.proofs.JoinedTrees.{but_for, joined_proof}
use Rattle.diagram_study.proofs.Looking.{heights_low}
use Rattle.diagram_study.proofs.joining.joined_height.Goals as goal

pub overflow_add-result : goal.overflow_add-result
overflow_add-result c =
    let heights = subst (λ (l : List Looked). AreHeights c.args.but.now l c.in-Some.height) c.as_slice.ensures.value c.in-Some.ensures.heights in
    let low = heights_low c.args.subject.now.query (c.args.subject.now.limits.depth - 1) c.args.subject.now.limits.nodes c.args.but.now c.args.seen.now.looked.items c.in-Some.height heights c.requires.looked.found in
    omega (arith, low, c.args.subject.now.limits.shallow)

pub returns-in-Some-clause-proof : goal.returns-in-Some-clause-proof
returns-in-Some-clause-proof c =
    let heights = subst (λ (l : List Looked). AreHeights c.args.but.now l c.in-Some.height) c.as_slice.ensures.value c.in-Some.ensures.heights in
    let next : suc c.in-Some.height ≡ c.in-Some.height + 1 = omega arith in
    subst (λ (h : ℕ). HasProof (but_for c.args.subject.now.query c.args.but.now) h c.args.subject.now.limits.depth) next
    (joined_proof c.args.subject.now.query c.args.subject.now.limits.depth c.args.subject.now.limits.nodes c.args.but.now c.args.seen.now.left c.args.seen.now.looked.items c.in-Some.height c.args.subject.now.plain (omega (arith, c.if-subject-eq0.false)) (λ here. both_ways _ c.if-is_array.false (c.is_array.ensures.1 here)) c.requires.looked heights)
