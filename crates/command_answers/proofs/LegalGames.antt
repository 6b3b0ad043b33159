-- What `play` says of a legal game.
use Rattle.std.proofs.Common.{inl, inr, ℕ, List}
use Rattle.std.proofs.lemmas.Bool.{both_ways}
use Rattle.board_base.specs.Game.{IsGame}
use Rattle.board_base.specs.declared.moves.Move.{Move}
use Rattle.query_base.specs.Asked.{Asked}
use Rattle.command_answers.specs.Plays.{AnswersEnd, AnswersMoves}
use Rattle.command_answers.specs.declared.statuses.Status.{Status}

-- of a legal game nothing is said but how it ends
pub game_ends : (q : Asked) (g : List Move) (ending : Status) (text : List ℕ) → IsGame q.odds g → AnswersMoves q g ending text → AnswersEnd q g ending text
game_ends q g ending text game answers = elim answers [
  | inl end ↦ end
  | inr first ↦ absurd (both_ways _ first.1.illegal (game first.1.before first.1.after first.1.move first.1.split))
]
