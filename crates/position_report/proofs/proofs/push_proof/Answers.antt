use Rattle.std.proofs.lemmas.Result.{on_ok_weaker}
use Rattle.cert_text.specs.SeenCert.{cert_of}
use Rattle.position_report.proofs.Telling.{proof-told}
use Rattle.position_report.proofs.proofs.push_proof.Goals as goal

pub words_of-requires : goal.words_of-requires
words_of-requires c = c.requires.proof.proves

pub returns : goal.returns
returns c =
    on_ok_weaker c.push_check.result
    (proof-told c.args.limits.depth c.args.limits.nodes c.args.number c.args.shown.now (cert_of c.args.cert.now) c.args.out.now.items _ _ _ _ c.in_ok-text.text.items c.requires.proof (rw c.is_some.ensures at c.in_ok-text.ensures) c.in_ok-push_title.ensures c.in_ok-push_aim.ensures (rw c.as_slice.ensures.value at c.in_ok-say.ensures))
    c.push_check.ensures
