use Rattle.std.proofs.Common.{◌≡◌, ◌≢◌, Bool, ℕ, List, [], ◌++◌, inl, inr, sym, ap}
use Rattle.std.proofs.lemmas.Bool.{both_ways, cases_Bool, cond-false}
use Rattle.std.proofs.lemmas.Result.{IfOk-equal}
use Rattle.board_base.specs.Board.{no_odds}
use Rattle.board_base.specs.SameSets.{sets_decide}
use Rattle.fen_text.specs.OddsLines.{is_no_odds}
use Rattle.proof_prose.specs.Heads.{odds_given, odds_words}
use Rattle.proof_prose.proofs.heads.push_odds.Goals as goal

some-words : (odds : List Bool) → odds ≢ no_odds → odds_given odds ≡ odds_words odds
some-words odds some = elim (cases_Bool (is_no_odds odds)) [
  | inl none ↦ absurd (some ((sets_decide odds no_odds).0 none))
  | inr is ↦ cond-false (is_no_odds odds) [] (odds_words odds) is
]

pub returns : goal.returns
returns c =
    let some : c.args.odds ≢ no_odds = λ none. both_ways c.is_none.result c.if-is_none.false (c.is_none.ensures.1 none) in
    IfOk-equal c.push_odds_words.result c.push_odds_words.new.out.items _ _ c.push_odds_words.ensures
    (ap (λ (l : List ℕ). c.args.out.now.items ++ l) (sym (some-words c.args.odds some)))
