use Rattle.std.proofs.Common.{[]}
use Rattle.cert_text.specs.Certificate.{root_at}
use Rattle.cert_checker.specs.Proving.{target_of}
use Rattle.cert_checker.proofs.Unlisted.{unlisted-of}
use Rattle.unmove_gen.proofs.Spelled.{captures_spelled, promotions_spelled}
use Rattle.cert_checker.proofs.laws.unlisted_have_texts.Goals as goal

pub returns-clause-promotion : goal.returns-clause-promotion
returns-clause-promotion c lines n u answers =
    let some = unlisted-of answers.0.root (target_of answers.0) [] (root_at answers.0.query) n u answers.2 in promotions_spelled some.0 u some.1

pub returns-clause-capture : goal.returns-clause-capture
returns-clause-capture c lines n u answers =
    let some = unlisted-of answers.0.root (target_of answers.0) [] (root_at answers.0.query) n u answers.2 in captures_spelled some.0 u some.1
