use Rattle.std.proofs.Common.{◌≡◌, ℕ, true, false, List, Some, None, sym, ap, ◌∙◌, nat_eq}
use Rattle.std.proofs.lemmas.Bool.{cond-true, cond-false}
use Rattle.std.specs.List.{starts_with}
use Rattle.std.specs.Prelude.{codes}
use Rattle.std.specs.Option.{option_map}
use Rattle.fen_text.specs.ClockLines.{clock_line}
use Rattle.question_text.specs.InputLines.{after_first, first_line}
use Rattle.question_text.specs.Questions.{names_clock}
use Rattle.question_text.proofs.questions.take_clock.Goals as goal

pub returns-then-not-begins_as_clock-clause-clock : goal.returns-then-not-begins_as_clock-clause-clock
returns-then-not-begins_as_clock-clause-clock c =
    let no : names_clock c.args.input.now ≡ false = ap (λ (l : List ℕ). starts_with nat_eq l (codes "clock ")) (sym c.split_first_line.ensures.line) ∙ sym c.begins_as_clock.ensures ∙ c.if-not-begins_as_clock.true in
    cond-false _ (option_map (λ n. Some n) (clock_line (first_line c.args.input.now))) (Some None) no

pub returns-then-not-begins_as_clock-clause-lines : goal.returns-then-not-begins_as_clock-clause-lines
returns-then-not-begins_as_clock-clause-lines c =
    let no : names_clock c.args.input.now ≡ false = ap (λ (l : List ℕ). starts_with nat_eq l (codes "clock ")) (sym c.split_first_line.ensures.line) ∙ sym c.begins_as_clock.ensures ∙ c.if-not-begins_as_clock.true in
    sym (cond-false _ 1 0 no)

pub returns-then-not-begins_as_clock-clause-rest : goal.returns-then-not-begins_as_clock-clause-rest
returns-then-not-begins_as_clock-clause-rest c =
    let no : names_clock c.args.input.now ≡ false = ap (λ (l : List ℕ). starts_with nat_eq l (codes "clock ")) (sym c.split_first_line.ensures.line) ∙ sym c.begins_as_clock.ensures ∙ c.if-not-begins_as_clock.true in
    sym (cond-false _ (after_first c.args.input.now) c.args.input.now no)

pub returns-in-Some-clause-clock : goal.returns-in-Some-clause-clock
returns-in-Some-clause-clock c =
    let yes : names_clock c.args.input.now ≡ true = ap (λ (l : List ℕ). starts_with nat_eq l (codes "clock ")) (sym c.split_first_line.ensures.line) ∙ sym c.begins_as_clock.ensures ∙ c.if-not-begins_as_clock.false in
    cond-true _ (option_map (λ n. Some n) (clock_line (first_line c.args.input.now))) (Some None) yes ∙ ap (option_map (λ n. Some n)) (ap clock_line (sym c.split_first_line.ensures.line) ∙ sym c.read_clock.ensures.clock ∙ c.in-Some.is)

pub returns-in-Some-clause-lines : goal.returns-in-Some-clause-lines
returns-in-Some-clause-lines c =
    let yes : names_clock c.args.input.now ≡ true = ap (λ (l : List ℕ). starts_with nat_eq l (codes "clock ")) (sym c.split_first_line.ensures.line) ∙ sym c.begins_as_clock.ensures ∙ c.if-not-begins_as_clock.false in
    sym (cond-true _ 1 0 yes)

pub returns-in-Some-clause-rest : goal.returns-in-Some-clause-rest
returns-in-Some-clause-rest c =
    let yes : names_clock c.args.input.now ≡ true = ap (λ (l : List ℕ). starts_with nat_eq l (codes "clock ")) (sym c.split_first_line.ensures.line) ∙ sym c.begins_as_clock.ensures ∙ c.if-not-begins_as_clock.false in
    c.split_first_line.ensures.rest ∙ sym (cond-true _ (after_first c.args.input.now) c.args.input.now yes)

pub returns-in-None-clause-clock : goal.returns-in-None-clause-clock
returns-in-None-clause-clock c =
    let yes : names_clock c.args.input.now ≡ true = ap (λ (l : List ℕ). starts_with nat_eq l (codes "clock ")) (sym c.split_first_line.ensures.line) ∙ sym c.begins_as_clock.ensures ∙ c.if-not-begins_as_clock.false in
    cond-true _ (option_map (λ n. Some n) (clock_line (first_line c.args.input.now))) (Some None) yes ∙ ap (option_map (λ n. Some n)) (ap clock_line (sym c.split_first_line.ensures.line) ∙ sym c.read_clock.ensures.clock ∙ c.in-None.is)
