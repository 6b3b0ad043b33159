use Rattle.std.proofs.Common.{◌≡◌, ℕ, true, false, List, Some, sym, ap, ◌∙◌, nat_eq}
use Rattle.std.proofs.lemmas.Bool.{cond-true, cond-false}
use Rattle.std.specs.List.{starts_with}
use Rattle.std.specs.Prelude.{codes}
use Rattle.board_base.specs.Board.{no_odds}
use Rattle.fen_text.specs.OddsLines.{odds_line}
use Rattle.question_text.specs.InputLines.{after_first, first_line}
use Rattle.question_text.specs.Questions.{names_odds}
use Rattle.question_text.proofs.questions.take_odds.Goals as goal

pub returns-then-not-begins_as_odds-clause-odds : goal.returns-then-not-begins_as_odds-clause-odds
returns-then-not-begins_as_odds-clause-odds c =
    let no : names_odds c.args.input.now ≡ false = ap (λ (l : List ℕ). starts_with nat_eq l (codes "odds ")) (sym c.split_first_line.ensures.line) ∙ sym c.begins_as_odds.ensures ∙ c.if-not-begins_as_odds.true in
    cond-false _ (odds_line (first_line c.args.input.now)) (Some no_odds) no ∙ ap Some (sym c.none.ensures)

pub returns-then-not-begins_as_odds-clause-lines : goal.returns-then-not-begins_as_odds-clause-lines
returns-then-not-begins_as_odds-clause-lines c =
    let no : names_odds c.args.input.now ≡ false = ap (λ (l : List ℕ). starts_with nat_eq l (codes "odds ")) (sym c.split_first_line.ensures.line) ∙ sym c.begins_as_odds.ensures ∙ c.if-not-begins_as_odds.true in
    sym (cond-false _ 1 0 no)

pub returns-then-not-begins_as_odds-clause-rest : goal.returns-then-not-begins_as_odds-clause-rest
returns-then-not-begins_as_odds-clause-rest c =
    let no : names_odds c.args.input.now ≡ false = ap (λ (l : List ℕ). starts_with nat_eq l (codes "odds ")) (sym c.split_first_line.ensures.line) ∙ sym c.begins_as_odds.ensures ∙ c.if-not-begins_as_odds.true in
    sym (cond-false _ (after_first c.args.input.now) c.args.input.now no)

pub returns-in-Some-clause-odds : goal.returns-in-Some-clause-odds
returns-in-Some-clause-odds c =
    let yes : names_odds c.args.input.now ≡ true = ap (λ (l : List ℕ). starts_with nat_eq l (codes "odds ")) (sym c.split_first_line.ensures.line) ∙ sym c.begins_as_odds.ensures ∙ c.if-not-begins_as_odds.false in
    cond-true _ (odds_line (first_line c.args.input.now)) (Some no_odds) yes ∙ ap odds_line (sym c.split_first_line.ensures.line) ∙ sym c.read_odds.ensures ∙ c.in-Some.is

pub returns-in-Some-clause-lines : goal.returns-in-Some-clause-lines
returns-in-Some-clause-lines c =
    let yes : names_odds c.args.input.now ≡ true = ap (λ (l : List ℕ). starts_with nat_eq l (codes "odds ")) (sym c.split_first_line.ensures.line) ∙ sym c.begins_as_odds.ensures ∙ c.if-not-begins_as_odds.false in
    sym (cond-true _ 1 0 yes)

pub returns-in-Some-clause-rest : goal.returns-in-Some-clause-rest
returns-in-Some-clause-rest c =
    let yes : names_odds c.args.input.now ≡ true = ap (λ (l : List ℕ). starts_with nat_eq l (codes "odds ")) (sym c.split_first_line.ensures.line) ∙ sym c.begins_as_odds.ensures ∙ c.if-not-begins_as_odds.false in
    c.split_first_line.ensures.rest ∙ sym (cond-true _ (after_first c.args.input.now) c.args.input.now yes)

pub returns-in-None-clause-odds : goal.returns-in-None-clause-odds
returns-in-None-clause-odds c =
    let yes : names_odds c.args.input.now ≡ true = ap (λ (l : List ℕ). starts_with nat_eq l (codes "odds ")) (sym c.split_first_line.ensures.line) ∙ sym c.begins_as_odds.ensures ∙ c.if-not-begins_as_odds.false in
    cond-true _ (odds_line (first_line c.args.input.now)) (Some no_odds) yes ∙ ap odds_line (sym c.split_first_line.ensures.line) ∙ sym c.read_odds.ensures ∙ c.in-None.is
