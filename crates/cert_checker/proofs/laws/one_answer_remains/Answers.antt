use Rattle.std.specs.Prelude.{◌++◌}
use Rattle.cert_text.specs.Lines.{cut}
use Rattle.cert_checker.proofs.OneRest.{remains_true, rest_one, rest_some}
use Rattle.cert_checker.proofs.laws.one_answer_remains.Goals as goal

pub returns : goal.returns
returns c = record {
  some = λ k others. rest_some (cut (k.gathered ++ others)) k.stage k.number;
  one = λ k others. rest_one (cut (k.gathered ++ others)) k.stage k.number;
  exact = remains_true;
}
