use Rattle.std.proofs.Common.{sym, ap, ◌∙◌}
use Rattle.query_base.specs.Asked.{Asked}
use Rattle.cert_checker.proofs.Unbarred.{query_unbarred}
use Rattle.cert_checker.proofs.laws.accepted_bar_no_move.Goals as goal

pub returns : goal.returns
returns c lines claim q answers = ap (λ (p : Asked). p.barred) (sym answers.3) ∙ query_unbarred lines answers.0 answers.1
