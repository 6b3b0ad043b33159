-- What is said of a game is done exactly where the input tells such a one.
use Rattle.std.proofs.Common.{◌≡◌, inl, inr, ℕ, Bool, List, [], ◌∷◌, ◌++◌, map, refl, sym, ap, ◌∙◌, subst}
use Rattle.std.proofs.lemmas.Bool.{both_ways}
use Rattle.std.specs.Prelude.{Some, None}
use Rattle.board_base.specs.Board.{no_odds}
use Rattle.board_base.specs.Game.{IsGame}
use Rattle.board_base.specs.Texts.{move_of}
use Rattle.board_base.specs.declared.moves.Move.{Move}
use Rattle.query_base.specs.Asked.{Asked}
use Rattle.query_base.specs.Reach.{Reaches}
use Rattle.game_text.specs.Words.{words, AreTextsOf}
use Rattle.san_text.specs.FromArray.{Tells, TellsNone}
use Rattle.san_text.specs.declared.games.SanGameFault.{SanGameFault}
use Rattle.san_text.specs.declared.games.SanGameFault.TheVariants as fault
use Rattle.question_text.specs.Questions.{after_question}
use Rattle.question_text.proofs.OneQuestion.{asks-one, asks-some}
use Rattle.retro_top.specs.Answers.{TellsGame, TellsMoves, TellsNotation}
use Rattle.command_answers.proofs.LegalGames.{game_ends}
use Rattle.command_answers.specs.Plays.{AnswersPlay, AnswersGame, AnswersMoves, AnswersEnd}
use Rattle.command_answers.specs.Sans.{AnswersSan, AnswersSanGame, IsFaultLine}
use Rattle.command_answers.specs.Spells.{AnswersSpell, AnswersSpelling}
use Rattle.command_answers.specs.declared.statuses.Status.{Status}
use Rattle.command_answers.specs.declared.statuses.Status.TheVariants.{Done, Refused, Undecided, Spent, Countered, BadWords, BadInput, ReadFault, WriteFault, Memory, TooLong}

-- a text of algebraic notation tells one game at most
abbrev pub OneGame : Type 0
OneGame = (o : List Bool) (text : List ℕ) (g h : List Move) → Tells o text g → Tells o text h → g ≡ h

-- and none where it has a fault
abbrev pub NoGameFault : Type 0
NoGameFault = (o : List Bool) (text : List ℕ) (g : List Move) (f : SanGameFault) → Tells o text g → TellsNone o text f → f ≡ fault.Memory

same-moves : (g h : List Move) → map (λ m. Some m) g ≡ map (λ m. Some m) h → g ≡ h
same-moves [] [] e = refl
same-moves [] (n ∷ h) e = cc
same-moves (m ∷ g) [] e = cc
same-moves (m ∷ g) (n ∷ h) e =
    let first : m ≡ n = cc in
    let rest : map (λ k. Some k) g ≡ map (λ k. Some k) h = cc in
    ap (λ (k : Move). k ∷ g) first ∙ ap (λ (l : List Move). n ∷ l) (same-moves g h rest)

-- among the texts of moves each is one
no-bad : (before : List (List ℕ)) (text : List ℕ) (after : List (List ℕ)) (g : List Move) → map move_of (before ++ text ∷ after) ≡ map (λ m. Some m) g → move_of text ≡ None → ⊥
no-bad [] text after [] e bad = cc
no-bad [] text after (m ∷ g) e bad = let first : move_of text ≡ Some m = cc in cc
no-bad (b ∷ before) text after [] e bad = cc
no-bad (b ∷ before) text after (m ∷ g) e bad = let rest : map move_of (before ++ text ∷ after) ≡ map (λ k. Some k) g = cc in no-bad before text after g rest bad

end-done : (q : Asked) (g : List Move) (ending : Status) (text : List ℕ) → AnswersEnd q g ending text → Reaches g q → ending ≡ Done
end-done q g Done text answers reached = refl
end-done q g Refused text answers reached = absurd (answers.1 reached)
end-done q g Undecided text answers reached = absurd answers
end-done q g Spent text answers reached = absurd answers
end-done q g Countered text answers reached = absurd answers
end-done q g BadWords text answers reached = absurd answers
end-done q g BadInput text answers reached = absurd answers
end-done q g ReadFault text answers reached = absurd answers
end-done q g WriteFault text answers reached = absurd answers
end-done q g Memory text answers reached = absurd answers
end-done q g TooLong text answers reached = absurd answers

game-done : (q : Asked) (bytes : List ℕ) (g : List Move) (ending : Status) (text : List ℕ) → AnswersGame q bytes ending text → AreTextsOf (words bytes) g → Reaches g q → ending ≡ Done
game-done q bytes g ending text answers are reached = elim answers [
  | inl told ↦
      let same : g ≡ told.0 = same-moves g told.0 (sym are ∙ told.1) in
      let ends = subst (λ (h : List Move). Reaches h q) same reached in
      end-done q told.0 ending text (game_ends q told.0 ending text ends.game told.2) ends
  | inr bad ↦ absurd (no-bad bad.1.before bad.1.text bad.1.after g (ap (map move_of) (sym bad.1.split) ∙ are) bad.1.bad)
]

pub play-done : (input : List ℕ) (ending : Status) (text : List ℕ) → AnswersPlay input ending text → TellsGame input → ending ≡ Done
play-done input ending text answers game = elim answers [
  | inl asked ↦
      let same : game.0 ≡ asked.0 = asks-one input game.0 asked.0 game.2 asked.1 in
      game-done asked.0 (after_question input) game.1 ending text asked.2 game.3 (subst (λ (q : Asked). Reaches game.1 q) same game.4)
  | inr none ↦ absurd (asks-some input game.0 none.0 game.2 none.1)
]

no-line : (f : SanGameFault) (text : List ℕ) → f ≡ fault.Memory → IsFaultLine f text → ⊥
no-line f text e line = subst (λ (g : SanGameFault). IsFaultLine g text) e line

notation-done : OneGame → NoGameFault → (q : Asked) (bytes : List ℕ) (g : List Move) (ending : Status) (text : List ℕ) → AnswersSanGame q bytes ending text → Tells q.odds bytes g → Reaches g q → ending ≡ Done
notation-done one sound q bytes g ending text answers tells reached = elim answers [
  | inl told ↦ end-done q told.0 ending text told.2 (subst (λ (h : List Move). Reaches h q) (one q.odds bytes g told.0 tells told.1) reached)
  | inr bad ↦ absurd (no-line bad.0 text (sound q.odds bytes g bad.0 tells bad.1) bad.3)
]

pub san-done : OneGame → NoGameFault → (input : List ℕ) (ending : Status) (text : List ℕ) → AnswersSan input ending text → TellsNotation input → ending ≡ Done
san-done one sound input ending text answers game = elim answers [
  | inl asked ↦
      let same : game.0 ≡ asked.0 = asks-one input game.0 asked.0 game.2 asked.1 in
      notation-done one sound asked.0 (after_question input) game.1 ending text asked.2 (subst (λ (q : Asked). Tells q.odds (after_question input) game.1) same game.3) (subst (λ (q : Asked). Reaches game.1 q) same game.4)
  | inr none ↦ absurd (asks-some input game.0 none.0 game.2 none.1)
]

spelling-done : (g : List Move) (ending : Status) (text : List ℕ) → AnswersSpelling g ending text → IsGame no_odds g → ending ≡ Done
spelling-done g Done text answers game = refl
spelling-done g Refused text answers game = absurd (both_ways _ answers.1.illegal (game answers.1.before answers.1.after answers.1.move answers.1.split))
spelling-done g Undecided text answers game = absurd answers
spelling-done g Spent text answers game = absurd answers
spelling-done g Countered text answers game = absurd answers
spelling-done g BadWords text answers game = absurd answers
spelling-done g BadInput text answers game = absurd answers
spelling-done g ReadFault text answers game = absurd answers
spelling-done g WriteFault text answers game = absurd answers
spelling-done g Memory text answers game = absurd answers
spelling-done g TooLong text answers game = absurd answers

pub spell-done : (input : List ℕ) (ending : Status) (text : List ℕ) → AnswersSpell input ending text → TellsMoves input → ending ≡ Done
spell-done input ending text answers game = elim answers [
  | inl told ↦ spelling-done told.0 ending text told.2 (subst (IsGame no_odds) (same-moves game.0 told.0 (sym game.1 ∙ told.1)) game.2)
  | inr bad ↦ absurd (no-bad bad.1.before bad.1.text bad.1.after game.0 (ap (map move_of) (sym bad.1.split) ∙ game.1) bad.1.bad)
]

done-end : (q : Asked) (g : List Move) (text : List ℕ) → AnswersMoves q g Done text → Reaches g q
done-end q g text answers = elim answers [
  | inl end ↦ end.0
  | inr first ↦ let e = first.2 in cc
]

pub done-game : (input text : List ℕ) → AnswersPlay input Done text → TellsGame input
done-game input text answers = elim answers [
  | inl asked ↦ elim asked.2 [
    | inl told ↦ (asked.0, told.0, asked.1, told.1, done-end asked.0 told.0 text told.2)
    | inr bad ↦ let e = bad.2 in cc
  ]
  | inr none ↦ let e = none.2 in cc
]

pub done-notation : (input text : List ℕ) → AnswersSan input Done text → TellsNotation input
done-notation input text answers = elim answers [
  | inl asked ↦ elim asked.2 [
    | inl told ↦ (asked.0, told.0, asked.1, told.1, told.2.0)
    | inr bad ↦ let e = bad.2 in cc
  ]
  | inr none ↦ let e = none.2 in cc
]

pub done-moves : (input text : List ℕ) → AnswersSpell input Done text → TellsMoves input
done-moves input text answers = elim answers [
  | inl told ↦ (told.0, told.1, told.2.0)
  | inr bad ↦ let e = bad.2 in cc
]
