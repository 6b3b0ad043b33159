use Rattle.std.proofs.Common.{length, sym, ap, ◌∙◌}
use Rattle.std.proofs.lemmas.Bool.{eqb-false}
use Rattle.cert_checker.proofs.Pieces.{rest_unended}
use Rattle.cert_checker.proofs.checkers.end.Goals as goal

pub returns-else-is_empty : goal.returns-else-is_empty
returns-else-is_empty c =
    rest_unended c.no_long_lines.ensures.unended c.args.walk.now c.args.number c.args.gathered.now _ c.answer_halted.ensures.low c.requires
    (λ none. eqb-false _ 0 (sym c.is_empty.ensures ∙ c.if-is_empty.false) (ap length none)) c.answer_halted.ensures.answer
