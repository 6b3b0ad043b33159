use Rattle.std.proofs.Common.{sym, ◌∙◌}
use Rattle.std.proofs.lemmas.Bool.{both_ways}
use Rattle.board_base.specs.Board.{no_odds}
use Rattle.board_base.specs.SameSets.{sets_decide}
use Rattle.fen_text.specs.OddsLines.{is_no_odds}
use Rattle.position_report.proofs.checking.push_odds.Goals as goal

pub push_some_odds-requires : goal.push_some_odds-requires
push_some_odds-requires c = λ none. both_ways (is_no_odds c.args.odds) (sym c.is_no_odds.ensures ∙ c.if-is_no_odds.false) ((sets_decide c.args.odds no_odds).1 none)
