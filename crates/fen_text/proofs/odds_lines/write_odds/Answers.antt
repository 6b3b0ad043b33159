use Rattle.std.proofs.Common.{List, ℕ, ◌++◌, ap, ◌∙◌}
use Rattle.std.specs.Prelude.{codes}
use Rattle.fen_text.specs.OddsLines.{odds_line}
use Rattle.fen_text.specs.Sets.{set_text}
use Rattle.fen_text.proofs.OddsTexts.{odds_back}
use Rattle.fen_text.proofs.odds_lines.write_odds.Goals as goal

pub returns-clause-read : goal.returns-clause-read
returns-clause-read c =
    ap odds_line (c.push_text-2.ensures.text ∙ ap (λ (l : List ℕ). l ++ c.set_text-digits.result) (c.push_text.ensures.text ∙ ap (λ (l : List ℕ). l ++ codes "odds ") c.requires.empty) ∙ ap (λ (l : List ℕ). codes "odds " ++ l) (c.set_text-digits.ensures.text ∙ ap set_text c.set.ensures.value))
    ∙ odds_back c.args.odds c.set.ensures.odds c.requires.some
