use Rattle.prose_words.proofs.Behind.{behind}
use Rattle.proof_prose.specs.Labels.{label_words}
use Rattle.dossier_prose.specs.Claims.{separator}
use Rattle.dossier_prose.proofs.claims.push_step.Goals as goal

pub returns : goal.returns
returns c =
    let h0 = rw c.separator.ensures at c.in_ok-say.ensures in
    behind c.push_label.result c.args.out.now.items _ _ (separator c.args.first) (label_words c.args.query.now c.args.step.now) h0 (c.push_label.ensures)
