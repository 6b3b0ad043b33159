use Rattle.std.proofs.Common.{◌-◌, arith, drop, length, length-drop, length-take}
use Rattle.std.proofs.lemmas.Result.{on_ok_weaker}
use Rattle.position_report.proofs.Joining.{plain-first, plain-rest}
use Rattle.position_report.proofs.Telling.{proofs-first, proofs-later}
use Rattle.position_report.proofs.proofs.+push_proofs.Goals as goal

pub certificate_of-requires : goal.certificate_of-requires
certificate_of-requires t c = plain-first c.args.all.now c.shown-item.result c.in-len1-up.len_at_least c.shown-item.is c.requires.plain

pub returns-in-None : goal.returns-in-None
returns-in-None t c =
    on_ok_weaker c.push_proofs.result
    (proofs-later c.args.limits.depth c.args.limits.nodes c.args.number c.args.all.now c.shown-item.result _ _ c.in-len1-up.len_at_least c.shown-item.is (rw c.in-None.is at c.in_ok-certificate_of-in-len1-up.ensures))
    c.push_proofs.ensures

pub push_proofs-requires : goal.push_proofs-requires
push_proofs-requires t c = (
  omega (arith, c.in-len1-up.len_at_least, length-drop 1 c.args.all.now, length-take (length c.args.all.now - 1) (drop 1 c.args.all.now)),
  (omega (arith, c.requires.room, length-drop 1 c.args.all.now, length-take (length c.args.all.now - 1) (drop 1 c.args.all.now)), plain-rest c.args.all.now c.requires.plain),
)

pub push_proofs-requires-in-Some : goal.push_proofs-requires-in-Some
push_proofs-requires-in-Some t c = (
  omega (arith, c.in-len1-up.len_at_least, length-drop 1 c.args.all.now, length-take (length c.args.all.now - 1) (drop 1 c.args.all.now)),
  (omega (arith, c.requires.room, c.in-len1-up.len_at_least, length-drop 1 c.args.all.now, length-take (length c.args.all.now - 1) (drop 1 c.args.all.now)), plain-rest c.args.all.now c.requires.plain),
)

pub returns-in_ok-push_proof-in-Some : goal.returns-in_ok-push_proof-in-Some
returns-in_ok-push_proof-in-Some t c =
    on_ok_weaker c.push_proofs-in-Some.result
    (proofs-first c.args.limits.depth c.args.limits.nodes c.args.number c.args.all.now c.shown-item.result c.args.out.now.items _ _ c.in-len1-up.len_at_least c.shown-item.is c.in_ok-push_proof-in-Some.ensures)
    c.push_proofs-in-Some.ensures
