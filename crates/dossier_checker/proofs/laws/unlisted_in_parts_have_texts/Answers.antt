use Rattle.cert_checker.specs.Walk.{unlisted}
use Rattle.dossier_checker.proofs.AcceptedDossiers.{faulty}
use Rattle.dossier_checker.proofs.laws.unlisted_in_parts_have_texts.Goals as goal

pub returns-clause-promotion : goal.returns-clause-promotion
returns-clause-promotion c bytes p n u answers =
    let part = faulty bytes p n (unlisted u) answers in c.unlisted_have_texts.ensures.promotion part.0 n u part.1

pub returns-clause-capture : goal.returns-clause-capture
returns-clause-capture c bytes p n u answers =
    let part = faulty bytes p n (unlisted u) answers in c.unlisted_have_texts.ensures.capture part.0 n u part.1
