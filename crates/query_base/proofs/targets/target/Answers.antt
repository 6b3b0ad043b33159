use Rattle.std.proofs.Common.{◌≡◌, true, false, Option, ap, sym, ◌∙◌}
use Rattle.std.proofs.lemmas.Bool.{cond-true, cond-false}
use Rattle.board_base.specs.Play.{double_of}
use Rattle.board_base.specs.Rights.{Rights}
use Rattle.board_base.specs.declared.moves.Move.{Move}
use Rattle.play_rules.specs.Fits.{ep_fits}
use Rattle.query_base.specs.Asked.{Asked}
use Rattle.query_base.specs.Targets.{target}
use Rattle.query_base.proofs.EnPassant.{by-target}
use Rattle.query_base.proofs.targets.target.Goals as goal

pub returns-in-Lost-clause-query : goal.returns-in-Lost-clause-query
returns-in-Lost-clause-query c =
    let q : Asked = record { board = c.query.inside.board; turn = c.query.inside.turn; odds = c.query.inside.odds; held = c.query.inside.held; only = c.query.inside.only; barred = c.query.inside.barred; clock = c.query.inside.clock } in
    ap (λ (held : Rights). record q { held = held }) c.with-target-inside.ensures ∙ ap (target q) (sym c.in-Lost.is) ∙ ap (λ (p : Asked). target p c.args.claim.now) c.query.view_is

pub returns-then-ep_fits-clause-contradicted : goal.returns-then-ep_fits-clause-contradicted
returns-then-ep_fits-clause-contradicted c =
    let q : Asked = record { board = c.query.inside.board; turn = c.query.inside.turn; odds = c.query.inside.odds; held = c.query.inside.held; only = c.query.inside.only; barred = c.query.inside.barred; clock = c.query.inside.clock } in
    let fits : ep_fits q.board q.turn c.in-Ep.m ≡ true = sym c.ep_fits.ensures ∙ c.if-ep_fits.true in
    by-target c.args.query.now q (record q { barred = c.double_of-target-inside.result }) c.in-Ep.m c.args.claim.now c.query.view_is c.in-Ep.is c.requires
    (cond-true _ (record q { barred = double_of c.in-Ep.m q.turn }) q fits ∙ ap (λ (o : Option Move). record q { barred = o }) (sym c.double_of-target-inside.ensures))

pub returns-else-ep_fits-clause-contradicted : goal.returns-else-ep_fits-clause-contradicted
returns-else-ep_fits-clause-contradicted c =
    let q : Asked = record { board = c.query.inside.board; turn = c.query.inside.turn; odds = c.query.inside.odds; held = c.query.inside.held; only = c.query.inside.only; barred = c.query.inside.barred; clock = c.query.inside.clock } in
    let other : ep_fits q.board q.turn c.in-Ep.m ≡ false = sym c.ep_fits.ensures ∙ c.if-ep_fits.false in
    by-target c.args.query.now q q c.in-Ep.m c.args.claim.now c.query.view_is c.in-Ep.is c.requires (cond-false _ (record q { barred = double_of c.in-Ep.m q.turn }) q other)
