use Rattle.std.proofs.Common.{◌≡◌, Bool, true, inl, inr, sym, ◌∙◌}
use Rattle.std.proofs.lemmas.Bool.{both_ways, cases_Bool, false_from_ne_true}
use Rattle.board_base.specs.Board.{no_odds}
use Rattle.board_base.specs.SameSets.{sets_decide}
use Rattle.fen_text.specs.OddsLines.{is_no_odds}
use Rattle.position_report.proofs.checking.is_no_odds.Goals as goal

same-tests : (a b : Bool) → (a ≡ true → b ≡ true) → (b ≡ true → a ≡ true) → a ≡ b
same-tests a b f g = elim (cases_Bool a) [
  | inl holds ↦ holds ∙ sym (f holds)
  | inr fails ↦ fails ∙ sym (false_from_ne_true b (λ h. both_ways a fails (g h)))
]

pub returns : goal.returns
returns c = same-tests c.is_none.result (is_no_odds c.args.odds) (λ h. (sets_decide c.args.odds no_odds).1 (c.is_none.ensures.0 h)) (λ h. c.is_none.ensures.1 ((sets_decide c.args.odds no_odds).0 h))
