use Rattle.std.proofs.Common.{◌≡◌, ◌≢◌, Bool, ℕ, List, [], ◌∷◌, ◌++◌, inl, inr, sym, ap, ◌∙◌, append_assoc}
use Rattle.std.proofs.lemmas.Bool.{both_ways, cases_Bool, cond-false}
use Rattle.board_base.specs.Board.{no_odds}
use Rattle.board_base.specs.SameSets.{sets_decide}
use Rattle.fen_text.specs.OddsLines.{is_no_odds, odds_text}
use Rattle.command_answers.specs.Checks.{odds_words}
use Rattle.command_answers.proofs.told.put_odds.Goals as goal

some-words : (odds : List Bool) → odds ≢ no_odds → odds_words odds ≡ 32 ∷ odds_text odds
some-words odds some = elim (cases_Bool (is_no_odds odds)) [
  | inl none ↦ absurd (some ((sets_decide odds no_odds).0 none))
  | inr is ↦ cond-false (is_no_odds odds) [] (32 ∷ odds_text odds) is
]

pub returns-clause-items : goal.returns-clause-items
returns-clause-items c =
    let some : c.args.odds ≢ no_odds = λ none. both_ways c.is_none.result c.if-is_none.false (c.is_none.ensures.1 none) in
    c.put.ensures.items ∙ ap (λ (l : List ℕ). l ++ c.as_slice.result.now) c.push.ensures.items ∙ append_assoc c.args.line.now.items (32 ∷ []) c.as_slice.result.now
    ∙ ap (λ (t : List ℕ). c.args.line.now.items ++ 32 ∷ t) (c.as_slice.ensures.value ∙ c.write_odds.ensures.text)
    ∙ ap (λ (l : List ℕ). c.args.line.now.items ++ l) (sym (some-words c.args.odds some))
