-- What `length` and `atleast` answer, and what holds where they are done.
use Rattle.std.proofs.Common.{◌≡◌, ◌≤◌, ℕ, List, length, refl, sym, ap, ◌∙◌, subst, arith}
use Rattle.board_base.specs.declared.men.Colour.{Colour}
use Rattle.board_base.specs.declared.men.Colour.TheVariants.{White, Black}
use Rattle.board_base.specs.declared.moves.Move.{Move}
use Rattle.board_base.specs.Board.{men_squares}
use Rattle.query_base.specs.Asked.{Asked}
use Rattle.query_base.specs.Reach.{Reaches}
use Rattle.cert_text.specs.Certificate.{Lines}
use Rattle.cert_text.specs.Lines.{cut}
use Rattle.length_bound.specs.LengthAnswers.{IsShown, LengthAnswer, at_least, bad_text, unsupported}
use Rattle.length_bound.specs.LengthAnswers as bounds
use Rattle.length_bound.specs.LengthText.{AreLengthLines}
use Rattle.length_bound.specs.Longest.{IsBest}
use Rattle.length_bound.specs.declared.texts.LengthText.{LengthText}
use Rattle.length_bound.proofs.Longer.{some_men}
use Rattle.question_text.specs.Positions.{IsLonePosition, IsNoLonePosition}
use Rattle.retro_top.specs.Answers.{BoundsGames}
use Rattle.command_answers.specs.AtLeasts.{AnswersAtLeast, ShowsLength, TellsBound, bound_line}
use Rattle.command_answers.specs.Lengths.{AnswersLength, AnswersLengthOf, AsksForLength, TellsLength}
use Rattle.command_answers.specs.declared.statuses.Status.{Status}
use Rattle.command_answers.specs.declared.statuses.Status.TheVariants.{Done, Undecided}
use Rattle.retro_top.proofs.Asking.{done-one, said-plain}

-- there is one answer to a text of a length
abbrev pub OneLength : Type 0
OneLength = (lines : Lines) (a b : LengthAnswer) → bounds.AnswersLength lines a → bounds.AnswersLength lines b → a ≡ b

-- what potentials show holds of every game, and the best ones show their number
abbrev pub ShownHold : Type 0
ShownHold = (text : LengthText) → IsShown text → (g : List Move) → Reaches g text.query → text.at_least ≤ length g

abbrev pub BestAreShown : Type 0
BestAreShown = (q : Asked) (text : LengthText) → IsBest q text → IsShown text

few-done : (c : Colour) (q : Asked) (ending : Status) (text : List ℕ) → AnswersLengthOf q ending text → length (men_squares c q.board) ≤ 16 → ending ≡ Done
few-done c q Done text answers few = refl
few-done White q Undecided text answers few = absurd (omega (arith, answers.0))
few-done Black q Undecided text answers few = absurd (omega (arith, answers.1))
few-done c q _ text answers few = absurd answers

pub length-done : (input : List ℕ) (ending : Status) (text : List ℕ) → AnswersLength input ending text → AsksForLength input → ending ≡ Done
length-done input ending text answers good =
    let said = said-plain AnswersLengthOf (λ q. length (men_squares good.1 q.board) ≤ 16) input good.0 ending text answers good.2 good.3 in
    few-done good.1 said.0 ending text said.2 said.1

pub done-length : (input text : List ℕ) → AnswersLength input Done text → AsksForLength input
done-length input text answers =
    let done = done-one (IsLonePosition input) (IsNoLonePosition input) AnswersLengthOf text answers in
    (done.0, done.2.said.side, done.1, some_men done.2.said.side done.0 done.2.said.at_least done.2.best.at_least)

bound-done : (answer : LengthAnswer) (n : ℕ) (q : Asked) (ending : Status) (text : List ℕ) → answer ≡ at_least n q → TellsBound answer ending text → ending ≡ Done
bound-done (at_least m r) n q ending text same tells = tells.0
bound-done (bad_text m) n q ending text same tells = cc
bound-done unsupported n q ending text same tells = cc

pub shown-done : OneLength → (input : List ℕ) (ending : Status) (text : List ℕ) → AnswersAtLeast input ending text → ShowsLength input → ending ≡ Done
shown-done one input ending text answers good =
    bound-done answers.0 good.0.at_least good.0.query ending text (one (cut input) answers.0 (at_least good.0.at_least good.0.query) answers.1 (good.0, good.1, good.2, refl, refl)) answers.2

-- what `atleast` accepts
pub record Bounded (input text : List ℕ) : Type 0 where
  pub said : LengthText
  pub lines : AreLengthLines (cut input) said
  pub shown : IsShown said
  pub line : text ≡ bound_line said.at_least said.query

bounded-by : (input : List ℕ) (answer : LengthAnswer) (text : List ℕ) → bounds.AnswersLength (cut input) answer → TellsBound answer Done text → Bounded input text
bounded-by input (at_least n q) text is tells = record {
  said = is.0;
  lines = is.1;
  shown = is.2;
  line = tells.1 ∙ ap (λ (k : ℕ). bound_line k q) (sym is.3) ∙ ap (bound_line is.0.at_least) (sym is.4);
}
bounded-by input (bad_text n) text is tells = let e = tells.0 in cc
bounded-by input unsupported text is tells = let e = tells.0 in cc

pub done-bounded : (input text : List ℕ) → AnswersAtLeast input Done text → Bounded input text
done-bounded input text answers = bounded-by input answers.0 text answers.1 answers.2

pub done-shown : (input text : List ℕ) → AnswersAtLeast input Done text → ShowsLength input
done-shown input text answers = let b = done-bounded input text answers in (b.said, b.lines, b.shown)

-- what `length` writes
pub record Measured (input text : List ℕ) : Type 0 where
  pub query : Asked
  pub asks : IsLonePosition input query
  pub told : TellsLength query text
  pub holds : BoundsGames query told.said.at_least

best-holds : ShownHold → BestAreShown → (q : Asked) (said : LengthText) → IsBest q said → BoundsGames q said.at_least
best-holds hold shown q said best = subst (λ (r : Asked). BoundsGames r said.at_least) best.query (hold said (shown q said best))

pub done-measured : ShownHold → BestAreShown → (input text : List ℕ) → AnswersLength input Done text → Measured input text
done-measured hold shown input text answers =
    let done = done-one (IsLonePosition input) (IsNoLonePosition input) AnswersLengthOf text answers in
    record { query = done.0; asks = done.1; told = done.2; holds = best-holds hold shown done.0 done.2.said done.2.best }
