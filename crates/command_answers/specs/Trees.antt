-- What `tree` answers.
use Rattle.std.specs.Prelude.{ℕ, ◌≡◌, ◌≤◌, List}
use Rattle.query_base.specs.Asked.{Asked}
use Rattle.tree_browser.specs.Trees.{HasMoreLines, IsTreeText}
use Rattle.question_text.specs.Questions.{AsksAlone}
use Rattle.command_answers.specs.Questions.{AnswersAlone}
use Rattle.command_answers.specs.Solves.{spent_line}
use Rattle.command_answers.specs.declared.statuses.Status.{Status}
use Rattle.command_answers.specs.declared.statuses.Status.TheVariants as status

-- what is said of a query: the text of its tree, or that this has more lines than so many
abbrev pub AnswersTreeOf : ℕ → ℕ → Asked → Status → List ℕ → Type 0
AnswersTreeOf depth nodes q status.Done text = (n : ℕ) × IsTreeText q depth n text × (n ≤ nodes)
AnswersTreeOf depth nodes q status.Spent text = HasMoreLines q depth nodes × (text ≡ spent_line nodes)
AnswersTreeOf depth nodes q _ text = ⊥

-- the status and the text with which `tree` answers these bytes, which are to be the lines of a query
abbrev pub AnswersTree : ℕ → ℕ → List ℕ → Status → List ℕ → Type 0
AnswersTree depth nodes input ending text = AnswersAlone (AnswersTreeOf depth nodes) input ending text

-- the input is the lines of a query whose tree has at most so many lines
abbrev pub AsksForFewLines : ℕ → ℕ → List ℕ → Type 0
AsksForFewLines depth nodes input =
    (q : Asked) × (n : ℕ) × (text : List ℕ) × AsksAlone input q × IsTreeText q depth n text × (n ≤ nodes)

-- the input is the lines of a query whose tree has more lines
abbrev pub AsksForMoreLines : ℕ → ℕ → List ℕ → Type 0
AsksForMoreLines depth nodes input = (q : Asked) × AsksAlone input q × HasMoreLines q depth nodes
