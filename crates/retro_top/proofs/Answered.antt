-- The statuses of a command's own answers.
use Rattle.std.proofs.Common.{◌≡◌, inl, inr, ℕ, List, sym, subst}
use Rattle.board_base.specs.declared.moves.Move.{Move}
use Rattle.query_base.specs.Asked.{Asked}
use Rattle.query_base.specs.declared.claims.Claim.{Claim}
use Rattle.cert_text.specs.Certificate.{Lines}
use Rattle.cert_text.specs.Lines.{cut}
use Rattle.cert_checker.specs.Answers.{Answer, accepted, bad_text, fault}
use Rattle.retro_top.specs.Answers.{AnswersAs}
use Rattle.command_answers.specs.Checks.{Tells}
use Rattle.command_answers.specs.Plays.{AnswersEnd, AnswersGame, AnswersMoves}
use Rattle.command_answers.specs.Sans.{AnswersSanGame}
use Rattle.command_answers.specs.Spells.{AnswersSpelling}
use Rattle.codex_verdict.specs.declared.kinds.Right.{Right}
use Rattle.line_claims.specs.declared.claims.LineClaim.{LineClaim}
use Rattle.command_answers.specs.DossierAnswers.{DossierAnswer}
use Rattle.command_answers.specs.DossierAnswers as dossiers
use Rattle.length_bound.specs.LengthAnswers.{LengthAnswer}
use Rattle.length_bound.specs.LengthAnswers as bounds
use Rattle.question_text.specs.Positions.{IsLonePosition, IsNoLonePosition}
use Rattle.question_text.specs.Questions.{AsksAlone, IsNoLoneQuestion, after_question}
use Rattle.question_text.specs.declared.faults.InputFault.{InputFault}
use Rattle.command_answers.specs.AtLeasts.{TellsBound}
use Rattle.command_answers.specs.Dossiers.{AnswersLineClaim}
use Rattle.command_answers.specs.Lines.{TellsDossier}
use Rattle.command_answers.specs.Lengths.{AnswersLengthOf}
use Rattle.command_answers.specs.Questions.{AnswersOne}
use Rattle.command_answers.specs.Settles.{AnswersSettling}
use Rattle.command_answers.specs.Solves.{AnswersClaim}
use Rattle.command_answers.specs.Unmoves.{ListsUnmoves}
use Rattle.command_answers.specs.Statuses.{IsAnswer}
use Rattle.command_answers.specs.Trees.{AnswersTreeOf}
use Rattle.command_answers.specs.Verdicts.{AnswersPosition, AnswersRights}
use Rattle.command_answers.specs.Studies.{AnswersStudyOf}
use Rattle.command_answers.specs.Reports.{AnswersReportOf}
use Rattle.retro_top.proofs.Explaining.{explain-answered}
use Rattle.retro_top.specs.declared.commands.Command.{Command}
use Rattle.retro_top.specs.declared.commands.Command.TheVariants.{Check, Explain, Play, San, Spell, Unmoves, Solve, Settle, Verdict, Study, Report, Tree, Length, AtLeast, Line, Dossier, Sample}
use Rattle.command_answers.specs.declared.statuses.Status.{Status}
use Rattle.command_answers.specs.declared.statuses.Status.TheVariants.{Done, Refused, Undecided, Spent, Countered, BadInput}

as-answer : (known ending : Status) → ending ≡ known → IsAnswer known → IsAnswer ending
as-answer known ending e = subst IsAnswer (sym e)

told-answered : (lines : Lines) (answer : Answer) (ending : Status) (text : List ℕ) → Tells lines answer ending text → IsAnswer ending
told-answered lines (accepted claim q) ending text tells = as-answer Done ending tells.0 tt
told-answered lines (bad_text n) ending text tells = as-answer Refused ending tells.0 tt
told-answered lines (fault n f) ending text tells = as-answer Refused ending tells.0 tt

end-answered : (q : Asked) (g : List Move) (ending : Status) (text : List ℕ) → AnswersEnd q g ending text → IsAnswer ending
end-answered q g Done text answers = tt
end-answered q g Refused text answers = tt
end-answered q g _ text answers = absurd answers

moves-answered : (q : Asked) (g : List Move) (ending : Status) (text : List ℕ) → AnswersMoves q g ending text → IsAnswer ending
moves-answered q g ending text answers = elim answers [
  | inl end ↦ end-answered q g ending text end
  | inr first ↦ as-answer Refused ending first.2 tt
]

game-answered : (q : Asked) (bytes : List ℕ) (ending : Status) (text : List ℕ) → AnswersGame q bytes ending text → IsAnswer ending
game-answered q bytes ending text answers = elim answers [
  | inl told ↦ moves-answered q told.0 ending text told.2
  | inr bad ↦ as-answer Refused ending bad.2 tt
]

notation-answered : (q : Asked) (bytes : List ℕ) (ending : Status) (text : List ℕ) → AnswersSanGame q bytes ending text → IsAnswer ending
notation-answered q bytes ending text answers = elim answers [
  | inl told ↦ end-answered q told.0 ending text told.2
  | inr bad ↦ as-answer Refused ending bad.2 tt
]

spelling-answered : (g : List Move) (ending : Status) (text : List ℕ) → AnswersSpelling g ending text → IsAnswer ending
spelling-answered g Done text answers = tt
spelling-answered g Refused text answers = tt
spelling-answered g _ text answers = absurd answers

claim-answered : (depth nodes : ℕ) (claim : Claim) (q : Asked) (ending : Status) (text : List ℕ) → AnswersClaim depth nodes claim q ending text → IsAnswer ending
claim-answered depth nodes claim q Done text answers = tt
claim-answered depth nodes claim q Undecided text answers = tt
claim-answered depth nodes claim q Spent text answers = tt
claim-answered depth nodes claim q Countered text answers = tt
claim-answered depth nodes claim q _ text answers = absurd answers

settling-answered : (depth nodes : ℕ) (claim : Claim) (q : Asked) (ending : Status) (text : List ℕ) → AnswersSettling depth nodes claim q ending text → IsAnswer ending
settling-answered depth nodes claim q Done text answers = tt
settling-answered depth nodes claim q Undecided text answers = tt
settling-answered depth nodes claim q Spent text answers = tt
settling-answered depth nodes claim q Countered text answers = tt
settling-answered depth nodes claim q _ text answers = absurd answers

rights-answered : (depth nodes : ℕ) (q : Asked) (rights : List Right) (ending : Status) (text : List ℕ) → AnswersRights depth nodes q rights ending text → IsAnswer ending
rights-answered depth nodes q rights Done text answers = tt
rights-answered depth nodes q rights Spent text answers = tt
rights-answered depth nodes q rights _ text answers = absurd answers

tree-answered : (depth nodes : ℕ) (q : Asked) (ending : Status) (text : List ℕ) → AnswersTreeOf depth nodes q ending text → IsAnswer ending
tree-answered depth nodes q Done text answers = tt
tree-answered depth nodes q Spent text answers = tt
tree-answered depth nodes q _ text answers = absurd answers

length-answered : (q : Asked) (ending : Status) (text : List ℕ) → AnswersLengthOf q ending text → IsAnswer ending
length-answered q Done text answers = tt
length-answered q Undecided text answers = tt
length-answered q _ text answers = absurd answers

bound-answered : (answer : LengthAnswer) (ending : Status) (text : List ℕ) → TellsBound answer ending text → IsAnswer ending
bound-answered (bounds.at_least n q) ending text tells = as-answer Done ending tells.0 tt
bound-answered (bounds.bad_text n) ending text tells = as-answer Refused ending tells.0 tt
bound-answered bounds.unsupported ending text tells = as-answer Refused ending tells.0 tt

dossier-answered : (answer : DossierAnswer) (ending : Status) (text : List ℕ) → TellsDossier answer ending text → IsAnswer ending
dossier-answered dossiers.no_head ending text tells = as-answer Refused ending tells.0 tt
dossier-answered (dossiers.unlisted_step i) ending text tells = as-answer Refused ending tells.0 tt
dossier-answered (dossiers.no_part p) ending text tells = as-answer Refused ending tells.0 tt
dossier-answered (dossiers.bad_text_in p n) ending text tells = as-answer Refused ending tells.0 tt
dossier-answered (dossiers.fault_in p n f) ending text tells = as-answer Refused ending tells.0 tt
dossier-answered (dossiers.other_part p) ending text tells = as-answer Refused ending tells.0 tt
dossier-answered (dossiers.line_accepted claim q) ending text tells = as-answer Done ending tells.0 tt

line_claim-answered : (depth nodes : ℕ) (claim : LineClaim) (q : Asked) (ending : Status) (text : List ℕ) → AnswersLineClaim depth nodes claim q ending text → IsAnswer ending
line_claim-answered depth nodes claim q Done text answers = tt
line_claim-answered depth nodes claim q Refused text answers = tt
line_claim-answered depth nodes claim q Undecided text answers = tt
line_claim-answered depth nodes claim q Spent text answers = tt
line_claim-answered depth nodes claim q _ text answers = absurd answers

one-answered : (AsksFor : Asked → Type 0) (HasFault : InputFault → Type 0) (Said : Asked → Status → List ℕ → Type 0) → ((q : Asked) (ending : Status) (text : List ℕ) → Said q ending text → IsAnswer ending) → (ending : Status) (text : List ℕ) → AnswersOne AsksFor HasFault Said ending text → IsAnswer ending
one-answered AsksFor HasFault Said law ending text answers = elim answers [
  | inl asked ↦ law asked.0 ending text asked.2
  | inr none ↦ as-answer BadInput ending none.2 tt
]

study-answered : (depth nodes : ℕ) (q : Asked) (ending : Status) (text : List ℕ) → AnswersStudyOf depth nodes q ending text → IsAnswer ending
study-answered depth nodes q Done text answers = tt
study-answered depth nodes q _ text answers = absurd answers

report-answered : (depth nodes : ℕ) (q : Asked) (ending : Status) (text : List ℕ) → AnswersReportOf depth nodes q ending text → IsAnswer ending
report-answered depth nodes q Done text answers = tt
report-answered depth nodes q _ text answers = absurd answers

-- a command's own answer has the status of an answer
pub answered : (command : Command) (input : List ℕ) (ending : Status) (text : List ℕ) → AnswersAs command input ending text → IsAnswer ending
answered Check input ending text answers = told-answered (cut input) answers.0 ending text answers.2
answered Explain input ending text answers = explain-answered input ending text answers
answered Play input ending text answers = elim answers [
  | inl asked ↦ game-answered asked.0 (after_question input) ending text asked.2
  | inr none ↦ as-answer BadInput ending none.2 tt
]
answered San input ending text answers = elim answers [
  | inl asked ↦ notation-answered asked.0 (after_question input) ending text asked.2
  | inr none ↦ as-answer BadInput ending none.2 tt
]
answered Spell input ending text answers = elim answers [
  | inl told ↦ spelling-answered told.0 ending text told.2
  | inr bad ↦ as-answer Refused ending bad.2 tt
]
answered Unmoves input ending text answers = one-answered (AsksAlone input) (IsNoLoneQuestion input) ListsUnmoves (λ q other lines said. as-answer Done other said.0 tt) ending text answers
answered (Solve depth nodes) input ending text answers = elim answers [
  | inl said ↦ claim-answered depth nodes said.0 said.1 ending text said.3
  | inr none ↦ as-answer BadInput ending none.2 tt
]
answered (Settle depth nodes) input ending text answers = elim answers [
  | inl said ↦ settling-answered depth nodes said.0 said.1 ending text said.3
  | inr none ↦ as-answer BadInput ending none.2 tt
]
answered (Verdict depth nodes) input ending text answers =
    one-answered (AsksAlone input) (IsNoLoneQuestion input) (AnswersPosition depth nodes) (λ q other lines said. rights-answered depth nodes q said.0 other lines said.2) ending text answers
answered (Study depth nodes) input ending text answers = one-answered (AsksAlone input) (IsNoLoneQuestion input) (AnswersStudyOf depth nodes) (study-answered depth nodes) ending text answers
answered (Report depth nodes) input ending text answers = one-answered (AsksAlone input) (IsNoLoneQuestion input) (AnswersReportOf depth nodes) (report-answered depth nodes) ending text answers
answered (Tree depth nodes) input ending text answers = one-answered (AsksAlone input) (IsNoLoneQuestion input) (AnswersTreeOf depth nodes) (tree-answered depth nodes) ending text answers
answered Length input ending text answers = one-answered (IsLonePosition input) (IsNoLonePosition input) AnswersLengthOf length-answered ending text answers
answered AtLeast input ending text answers = bound-answered answers.0 ending text answers.2
answered Line input ending text answers = dossier-answered answers.0 ending text answers.2
answered (Dossier depth nodes) input ending text answers = elim answers [
  | inl said ↦ line_claim-answered depth nodes said.0 said.1 ending text said.3
  | inr none ↦ as-answer BadInput ending none.2 tt
]
answered (Sample start games plies) input ending text answers = as-answer Done ending answers.done tt
