use Rattle.std.proofs.Common.{◌≡◌, None, true}
use Rattle.query_base.specs.Asked.{Asked}
use Rattle.query_base.specs.declared.claims.Claim.{Claim}
use Rattle.cert_text.specs.ClaimLines.{promotes_well}
use Rattle.dossier_search.proofs.Begun.{all_afforded, all_proved, all_there, at_next, with_part}
use Rattle.dossier_search.proofs.Claims.{parts_promote}
use Rattle.dossier_search.proofs.solving.solve_line.Goals as goal

pub solve_part-requires-clause-unbarred : goal.solve_part-requires-clause-unbarred
solve_part-requires-clause-unbarred c =
    at_next (λ (part : Claim × Asked). part.1.barred ≡ None) _ _ _ _ _ _ _ _ _ c.loop-claimed.invariant c.in-Some-next.ensures (c.parts_bar_no_move.ensures c.args.claim.now c.args.query.now c.requires.unbarred)

pub solve_part-requires-clause-promotion : goal.solve_part-requires-clause-promotion
solve_part-requires-clause-promotion c =
    at_next (λ (part : Claim × Asked). promotes_well part.0 ≡ true) _ _ _ _ _ _ _ _ _ c.loop-claimed.invariant c.in-Some-next.ensures (parts_promote c.args.claim.now c.args.query.now c.requires.lined)

pub loop-claimed-preserved : goal.loop-claimed-preserved
loop-claimed-preserved c =
    let proof = rw c.in-Proved.is at c.in_ok-proof.ensures.proof in
    with_part _ _ _ _ _ c.in-Proved.proof.items _ _ _ _ _ c.loop-claimed.invariant c.in-Some-next.ensures proof (rw c.deref.ensures.value at c.in_ok-push_part-in-Proved.ensures)

pub returns-clause-written : goal.returns-clause-written
returns-clause-written c = all_there c.args.depth c.args.nodes c.args.claim.now c.args.query.now c.loop-claimed.text.items _ _ c.loop-claimed.invariant c.in_default-next.ensures.0

pub returns-clause-proved : goal.returns-clause-proved
returns-clause-proved c = all_proved c.args.depth c.args.nodes c.args.claim.now c.args.query.now c.loop-claimed.text.items _ _ c.loop-claimed.invariant c.in_default-next.ensures.0

pub returns-clause-afforded : goal.returns-clause-afforded
returns-clause-afforded c = all_afforded c.args.depth c.args.nodes c.args.claim.now c.args.query.now c.loop-claimed.text.items _ _ c.loop-claimed.invariant c.in_default-next.ensures.0

pub returns-clause-holds : goal.returns-clause-holds
returns-clause-holds c =
    c.dossiers_prove.ensures c.loop-claimed.text.items c.args.claim.now c.args.query.now (all_there c.args.depth c.args.nodes c.args.claim.now c.args.query.now c.loop-claimed.text.items _ _ c.loop-claimed.invariant c.in_default-next.ensures.0)
