use Rattle.std.proofs.Common.{sym, ◌∙◌}
use Rattle.std.proofs.lemmas.Bool.{both_ways}
use Rattle.std.proofs.lemmas.Slice.Eq.{bytes_eq-Decides}
use Rattle.length_bound.specs.LengthText.{length_head}
use Rattle.length_bound.proofs.LengthGrammar.{all_1, all_1-end, all_later, all_read}
use Rattle.length_bound.proofs.reading.read_length.Goals as goal

pub returns-in_default-clause-bad : goal.returns-in_default-clause-bad
returns-in_default-clause-bad c = all_1-end _ c.in_default.ensures

pub returns-then-not-is_head-clause-bad : goal.returns-then-not-is_head-clause-bad
returns-then-not-is_head-clause-bad c =
    all_1 _ _ _ c.in-Some.ensures (λ e. both_ways _ (sym c.is_head.ensures ∙ c.if-not-is_head.true) ((bytes_eq-Decides c.in-Some.line.now length_head).1 e))

pub returns-in-Ok-clause-ok : goal.returns-in-Ok-clause-ok
returns-in-Ok-clause-ok c =
    all_read _ _ _ _ c.in-Some.ensures ((bytes_eq-Decides c.in-Some.line.now length_head).0 (sym c.is_head.ensures ∙ c.if-not-is_head.false)) c.in-Ok.ensures.ok

pub returns-in-Err-clause-bad : goal.returns-in-Err-clause-bad
returns-in-Err-clause-bad c =
    all_later _ _ _ _ c.in-Some.ensures ((bytes_eq-Decides c.in-Some.line.now length_head).0 (sym c.is_head.ensures ∙ c.if-not-is_head.false)) c.in-Err.ensures.bad
