use Rattle.std.proofs.Common.{ap, ◌∙◌, cond}
use Rattle.std.specs.Prelude.{Bool, List, None, Some}
use Rattle.ledger_lines.specs.declared.lines.Line.TheVariants.{Pawn as PawnLine}
use Rattle.ledger_told.specs.Due.{is_pawn_news}
use Rattle.ledger_told.proofs.pawns.told_pawn.Goals as goal

pub returns : goal.returns
returns c = record {
  number = c.most_taken-number.result;
  took = c.most_taken-number.ensures.took;
  most = c.most_taken-number.ensures.most;
  exact = c.is_known-exact.result;
  exact_is = c.is_known-exact.ensures;
  line_is = c.line_if.ensures
      ∙ ap (λ (b : Bool). cond b (Some (PawnLine c.args.s c.homes_left-homes.result c.most_taken-number.result c.is_known-exact.result)) None) c.is_news-news.ensures
      ∙ ap (λ (homes : List Bool). cond (is_pawn_news homes c.args.s c.most_taken-number.result) (Some (PawnLine c.args.s homes c.most_taken-number.result c.is_known-exact.result)) None) c.homes_left-homes.ensures;
}
