-- What the program answers.
use Rattle.std.specs.Prelude.{ℕ, ◌≡◌, ◌≤◌, ◌⊎◌, Bool, IsTrue, List, [], length, String, Option, None, IfSome}
use Rattle.std.specs.Global.{Global}
use Rattle.std.specs.Io.KnownBytes.{Appends, Keeps}
use Rattle.retro_ports.specs.Causes.{Rose}
use Rattle.retro_ports.specs.Ends.{TakesPrefix}
use Rattle.board_base.specs.Board.{no_odds}
use Rattle.board_base.specs.Game.{IsGame}
use Rattle.board_base.specs.declared.moves.Move.{Move}
use Rattle.query_base.specs.Asked.{Asked}
use Rattle.query_base.specs.Reach.{Contradicts, Holds, Reaches}
use Rattle.query_base.specs.Targets.{target}
use Rattle.query_base.specs.declared.claims.Claim.{Claim}
use Rattle.cert_text.specs.Lines.{cut}
use Rattle.cert_text.specs.Certificate.{Certificate, IsTextOf}
use Rattle.game_text.specs.Words.{words, AreTextsOf}
use Rattle.san_text.specs.FromArray.{Tells}
use Rattle.cert_checker.specs.Proving.{ProvesClaim}
use Rattle.price_search.specs.FlatPrices.{FlatPricesSupport}
use Rattle.command_answers.specs.Settlements.{IsCounterable}
use Rattle.command_answers.specs.Answers.{IsProofOf}
use Rattle.command_answers.specs.Plain.{HasPlainSketch}
use Rattle.command_answers.specs.Refutable.{IsRefutable}
use Rattle.retro_top.specs.SmallSearches.{IsSmallSearch}
use Rattle.codex_verdict.specs.Rights.{AreRights, claim_of}
use Rattle.codex_verdict.specs.declared.kinds.Right.{Right}
use Rattle.retro_top.specs.Commands.{Call, TakesMemory}
use Rattle.command_answers.specs.Inputs.{ReadsAll}
use Rattle.command_answers.specs.Checks.{AnswersCheck, accepted_line}
use Rattle.command_answers.specs.Plays.{AnswersPlay}
use Rattle.command_answers.specs.Sans.{AnswersSan}
use Rattle.command_answers.specs.Spells.{AnswersSpell}
use Rattle.line_claims.specs.Holding.{HoldsLine}
use Rattle.line_claims.specs.declared.claims.LineClaim.{LineClaim}
use Rattle.length_bound.specs.LengthAnswers.{IsShown}
use Rattle.length_bound.specs.LengthText.{AreLengthLines}
use Rattle.length_bound.specs.declared.texts.LengthText.{LengthText}
use Rattle.question_text.specs.Positions.{IsLonePosition}
use Rattle.question_text.specs.Questions.{Asks, AsksAlone, AsksForOne, after_question}
use Rattle.command_answers.specs.Unmoves.{AnswersUnmoves}
use Rattle.command_answers.specs.Samples.{AnswersSample}
use Rattle.command_answers.specs.Statements.{States, StatesLine}
use Rattle.command_answers.specs.Settles.{AnswersSettle}
use Rattle.command_answers.specs.Solves.{AnswersSolve, IsCheap, countered_line}
use Rattle.command_answers.specs.Trees.{AnswersTree, AsksForFewLines}
use Rattle.command_answers.specs.Lengths.{AnswersLength, AsksForLength, TellsLength}
use Rattle.command_answers.specs.Explains.{AnswersExplain}
use Rattle.command_answers.specs.Dossiers.{AnswersDossier, StatesCheapLine, StatesClearLine, StatesProvedLine}
use Rattle.command_answers.specs.Lines.{AnswersLine, ProvesLine, accepted_steps_line}
use Rattle.command_answers.specs.Proving.{IsDossier}
use Rattle.command_answers.specs.AtLeasts.{AnswersAtLeast, ShowsLength, bound_line}
use Rattle.command_answers.specs.Studies.{AnswersStudy}
use Rattle.command_answers.specs.Reports.{AnswersReport}
use Rattle.command_answers.specs.PositionReports.{IsReport}
use Rattle.command_answers.specs.Facts.{SaysTrue}
use Rattle.command_answers.specs.DiagramStudyStudies.{IsStudy}
use Rattle.command_answers.specs.Verdicts.{AnswersVerdict, AsksForCheap, Each, verdicts_text}
use Rattle.command_answers.specs.declared.statuses.Status.{Status}
use Rattle.command_answers.specs.declared.statuses.Status.TheVariants.{Done, Refused, Undecided, Countered, Memory}
use Rattle.retro_top.specs.declared.commands.Command.{Command}
use Rattle.retro_top.specs.declared.commands.Command.TheVariants.{Check, Explain, Play, San, Spell, Unmoves, Solve, Settle, Verdict, Study, Report, Tree, Length, AtLeast, Line, Dossier, Sample}

-- the status and the text with which a command answers an input
abbrev pub AnswersAs : Command → List ℕ → Status → List ℕ → Type 0
AnswersAs Check input status text = AnswersCheck input status text
AnswersAs Explain input status text = AnswersExplain input status text
AnswersAs Play input status text = AnswersPlay input status text
AnswersAs San input status text = AnswersSan input status text
AnswersAs Spell input status text = AnswersSpell input status text
AnswersAs Unmoves input status text = AnswersUnmoves input status text
AnswersAs (Solve depth nodes) input status text = AnswersSolve depth nodes input status text
AnswersAs (Settle depth nodes) input status text = AnswersSettle depth nodes input status text
AnswersAs (Verdict depth nodes) input status text = AnswersVerdict depth nodes input status text
AnswersAs (Study depth nodes) input status text = AnswersStudy depth nodes input status text
AnswersAs (Report depth nodes) input status text = AnswersReport depth nodes input status text
AnswersAs (Tree depth nodes) input status text = AnswersTree depth nodes input status text
AnswersAs Length input status text = AnswersLength input status text
AnswersAs AtLeast input status text = AnswersAtLeast input status text
AnswersAs Line input status text = AnswersLine input status text
AnswersAs (Dossier depth nodes) input status text = AnswersDossier depth nodes input status text
AnswersAs (Sample start games plies) input status text = AnswersSample start games plies status text

-- the status and the text with which the words answer an input
abbrev pub Answers : List (String Global) → List ℕ → Status → List ℕ → Type 0
Answers words input status text = (command : Command) × Call words command × AnswersAs command input status text

-- what was taken grew by the text that answers the input with this status
abbrev pub WritesAnswer : List (String Global) → List ℕ → Status → Option (List ℕ) → Option (List ℕ) → Type 0
WritesAnswer words input status old new = (text : List ℕ) × Answers words input status text × Appends old new text

-- what was taken grew by a part of a text that answers the input, from its front on
abbrev pub WritesPart : List (String Global) → List ℕ → Option (List ℕ) → Option (List ℕ) → Type 0
WritesPart words input old new = (status : Status) × (text : List ℕ) × Answers words input status text × TakesPrefix old new text

-- The command reads all of an input of at most so many bytes, and this holds of it. `sample` reads nothing, and it holds of no bytes.
abbrev pub ReadsBy : Command → ℕ → Option (List ℕ) → Option (List ℕ) → (List ℕ → Type 0) → Type 0
ReadsBy (Sample start games plies) limit old new holds = Keeps old new × holds []
ReadsBy command limit old new holds = ReadsAll limit old new holds

-- the words call a command, and this holds of what it reads
abbrev pub ReadsFor : List (String Global) → ℕ → Option (List ℕ) → Option (List ℕ) → (List ℕ → Type 0) → Type 0
ReadsFor words limit old new holds = (command : Command) × Call words command × ReadsBy command limit old new holds

-- what was taken grew by one line, `accepted` with a claim and a position, and no game contradicts the claim
abbrev pub Accepts : Option (List ℕ) → Option (List ℕ) → Type 0
Accepts old new = (claim : Claim) × (q : Asked) × (q.barred ≡ None) × Appends old new (accepted_line claim q) × Holds claim q

-- the bytes are the text of a certificate that proves its claim
abbrev pub ProvesSome : List ℕ → Type 0
ProvesSome input = (cert : Certificate) × IsTextOf input cert × ProvesClaim cert

-- the bytes are the text of no certificate that proves its claim
abbrev pub ProvesNothing : List ℕ → Type 0
ProvesNothing input = ProvesSome input → ⊥

-- the bytes prove something, and so `check`, `line` or `atleast` accepts them: they are a certificate or a dossier that proves its claim, or the
-- text of a length that its potentials show
abbrev pub IsProof : List ℕ → Type 0
IsProof input = ProvesSome input ⊎ ProvesLine input ⊎ ShowsLength input

-- each game that reaches the query has at least so many half-moves
abbrev pub BoundsGames : Asked → ℕ → Type 0
BoundsGames q n = (g : List Move) → Reaches g q → n ≤ length g

-- the bytes are the text of a certificate whose claim no game contradicts
abbrev pub IsTrueCertificate : List ℕ → Type 0
IsTrueCertificate input = (cert : Certificate) × IsTextOf input cert × Holds cert.claim cert.query

-- the bytes are a dossier whose claim holds
abbrev pub IsTrueDossier : List ℕ → Type 0
IsTrueDossier input = (claim : LineClaim) × (q : Asked) × IsDossier input claim q × HoldsLine claim q

-- the bytes are the text of a length that no game undercuts
abbrev pub IsTrueLength : List ℕ → Type 0
IsTrueLength input = (text : LengthText) × AreLengthLines (cut input) text × BoundsGames text.query text.at_least

-- what the bytes say, as a certificate, a dossier or the text of a length, holds of every game
abbrev pub ProvesTrue : List ℕ → Type 0
ProvesTrue input = IsTrueCertificate input ⊎ IsTrueDossier input ⊎ IsTrueLength input

-- what was taken grew by the proof in plain words of what the input is
abbrev pub WritesExplanation : List ℕ → Option (List ℕ) → Option (List ℕ) → Type 0
WritesExplanation input old new = (text : List ℕ) × AnswersExplain input Done text × Appends old new text

-- the bytes prove nothing, and what was taken grew by the line with which `check`, `line` or `atleast` refuses them
abbrev pub WritesRefusal : List ℕ → Option (List ℕ) → Option (List ℕ) → Type 0
WritesRefusal input old new = (IsProof input → ⊥) × ((line : List ℕ) × AnswersExplain input Refused line × Appends old new line)

-- If the source tells its bytes, they are no more than the limit, and its count of faults and the sink's didn't rise: this
-- holds of the bytes then. `sample` reads nothing: whatever the source does, it holds of no bytes.
abbrev pub Unhindered : Command → ℕ → Option (List ℕ) → ℕ → ℕ → ℕ → ℕ → (List ℕ → Type 0) → Type 0
Unhindered (Sample start games plies) limit left source_old source_new sink_old sink_new holds = (Rose sink_old sink_new → ⊥) → holds []
Unhindered command limit left source_old source_new sink_old sink_new holds =
    (Rose source_old source_new → ⊥) → (Rose sink_old sink_new → ⊥) → IfSome left (λ input. length input ≤ limit → holds input)

-- memory isn't wanting, where the command takes any
abbrev pub HasMemory : Command → Status → Type 0
HasMemory command status = TakesMemory command → status ≡ Memory → ⊥

-- the input's words after the lines of its query are the moves of a legal game, which reaches that query
abbrev pub TellsGame : List ℕ → Type 0
TellsGame input = (q : Asked) × (g : List Move) × Asks input q × AreTextsOf (words (after_question input)) g × Reaches g q

-- The input's words after the lines of its query are those of a game in algebraic notation: each names the only legal move that fits
-- it, and the game reaches that query.
abbrev pub TellsNotation : List ℕ → Type 0
TellsNotation input = (q : Asked) × (g : List Move) × Asks input q × Tells q.odds (after_question input) g × Reaches g q

-- the input's words are the moves of a legal game from the full array
abbrev pub TellsMoves : List ℕ → Type 0
TellsMoves input = (g : List Move) × AreTextsOf (words input) g × IsGame no_odds g

-- the input states a claim whose target is refutable at the depth
abbrev pub StatesRefutable : ℕ → List ℕ → Type 0
StatesRefutable depth input = (claim : Claim) × (q : Asked) × States input claim q × IsRefutable (target q claim) depth []

-- the input states a claim whose target has a cost of at most so many nodes
abbrev pub StatesCheap : ℕ → ℕ → List ℕ → Type 0
StatesCheap depth nodes input =
    (claim : Claim) × (q : Asked) × States input claim q × IsCheap depth nodes claim q

-- the input states a claim whose target flat prices support
abbrev pub StatesPriced : List ℕ → Type 0
StatesPriced input = (claim : Claim) × (q : Asked) × States input claim q × FlatPricesSupport (target q claim)

-- the input states a claim whose target one node of a sketch refutes, without exact files, prices and marks
abbrev pub StatesSketched : List ℕ → Type 0
StatesSketched input = (claim : Claim) × (q : Asked) × States input claim q × HasPlainSketch (target q claim)

-- the input states a claim whose target has a whole search, to the depth, of at most so many nodes
abbrev pub StatesSmall : ℕ → ℕ → List ℕ → Type 0
StatesSmall depth nodes input =
    (claim : Claim) × (q : Asked) × States input claim q × IsSmallSearch (target q claim) depth nodes

-- the input states a claim that a certificate proves, of at most 500,000 nodes, which goes back no further than the depth
abbrev pub StatesProved : ℕ → List ℕ → Type 0
StatesProved depth input = (claim : Claim) × (q : Asked) × (cert : Certificate) × States input claim q × IsProofOf depth cert claim q

-- only with such an input does the command succeed
abbrev pub Succeeds : Command → List ℕ → Type 0
Succeeds Check input = ProvesSome input
Succeeds Explain input = IsProof input
Succeeds Play input = TellsGame input
Succeeds San input = TellsNotation input
Succeeds Spell input = TellsMoves input
Succeeds Unmoves input = AsksForOne input
Succeeds (Solve depth nodes) input = StatesRefutable depth input
Succeeds (Settle depth nodes) input = StatesProved depth input
Succeeds (Verdict depth nodes) input = AsksForOne input
Succeeds (Study depth nodes) input = AsksForOne input
Succeeds (Report depth nodes) input = AsksForOne input
Succeeds (Tree depth nodes) input = AsksForFewLines depth nodes input
Succeeds Length input = AsksForLength input
Succeeds AtLeast input = ShowsLength input
Succeeds Line input = ProvesLine input
Succeeds (Dossier depth nodes) input = StatesProvedLine depth input
Succeeds (Sample start games plies) input = Unit {0}

-- With such an input the command succeeds: a search, where the nodes suffice; `settle` and `dossier` also where flat prices support the
-- target, or one node of a sketch refutes it.
abbrev pub MustSucceed : Command → List ℕ → Type 0
MustSucceed (Solve depth nodes) input = StatesRefutable depth input × StatesCheap depth nodes input
MustSucceed (Settle depth nodes) input = (StatesRefutable depth input × StatesCheap depth nodes input) ⊎ StatesPriced input ⊎ StatesSketched input
MustSucceed (Dossier depth nodes) input = StatesClearLine depth input × StatesCheapLine depth nodes input
MustSucceed (Verdict depth nodes) input = AsksForCheap depth nodes input
MustSucceed command input = Succeeds command input

-- the input states a claim that a search by rule lines alone must counter: its target's first open line at the depth ends at the array,
-- and its target has a cost of at most so many nodes
abbrev pub StatesCounterable : ℕ → ℕ → List ℕ → Type 0
StatesCounterable depth nodes input =
    (claim : Claim) × (q : Asked) × States input claim q × IsCounterable depth nodes claim q

-- with such an input the command must come to a game against the claim: `settle` with the same as `solve`
abbrev pub MustCounter : Command → List ℕ → Type 0
MustCounter (Solve depth nodes) input = StatesCounterable depth nodes input
MustCounter (Settle depth nodes) input = StatesCounterable depth nodes input
MustCounter command input = ⊥

-- no game contradicts the claim of the input's first line about the query of the others
abbrev pub StatesTrue : List ℕ → Type 0
StatesTrue input = (claim : Claim) × (q : Asked) × States input claim q × Holds claim q

-- What was taken grew by one line, with a legal game of at most so many moves that reaches the query that the input states a claim about,
-- and contradicts this.
abbrev pub WritesGameAgainst : ℕ → List ℕ → Option (List ℕ) → Option (List ℕ) → Type 0
WritesGameAgainst most input old new =
    (claim : Claim) × (q : Asked) × (game : List Move) × States input claim q × Contradicts game claim q × (length game ≤ most) × Appends old new (countered_line game)

-- No game contradicts the claim of a right that is settled: that a castling is lost which isn't permitted, or that a capture en
-- passant is legal which is permitted.
abbrev pub Decides : Asked → Right → Bool → Type 0
Decides q right settled = IsTrue settled → Holds (claim_of right) q

-- What was taken grew by a line for each of the rights that the position seems to give. Each says whether the right is settled, and
-- what is settled holds.
abbrev pub WritesVerdicts : ℕ → List ℕ → Option (List ℕ) → Option (List ℕ) → Type 0
WritesVerdicts depth input old new =
    (q : Asked) × (rights : List Right) × (settled : List Bool) × AsksAlone input q × AreRights q.board q.turn rights × Appends old new (verdicts_text depth rights settled) × Each (Decides q) rights settled

-- What was taken grew by the study of the query that the input asks: each fact that it tells of the query holds of every game.
abbrev pub WritesStudy : ℕ → ℕ → List ℕ → Option (List ℕ) → Option (List ℕ) → Type 0
WritesStudy depth nodes input old new = (q : Asked) × (text : List ℕ) × AsksAlone input q × IsStudy q depth nodes text × Appends old new text

-- What was taken grew by the report of the query that the input asks: each of its sentences says what is so of every game that reaches the
-- query, or what a game shows, and each of its proofs is that of a certificate that proves its claim.
abbrev pub WritesReport : ℕ → ℕ → List ℕ → Option (List ℕ) → Option (List ℕ) → Type 0
WritesReport depth nodes input old new = (q : Asked) × (text : List ℕ) × AsksAlone input q × IsReport q depth nodes text × Appends old new text

-- What was taken grew by a text whose lines say what is so of the query that the input asks, and then perhaps of it without its demands.
abbrev pub WritesTruths : List ℕ → Option (List ℕ) → Option (List ℕ) → Type 0
WritesTruths input old new = (q : Asked) × (text : List ℕ) × AsksAlone input q × SaysTrue q text × Appends old new text

-- What was taken grew by the text of a length of the games that reach the input's query, and each has at least as many half-moves.
abbrev pub WritesLength : List ℕ → Option (List ℕ) → Option (List ℕ) → Type 0
WritesLength input old new =
    (q : Asked) × (text : List ℕ) × (told : TellsLength q text) × IsLonePosition input q × Appends old new text × BoundsGames q told.said.at_least

-- What was taken grew by one line, with the number and the position that the input carries. The input is the text of a length that its
-- potentials show, and each game that reaches the position has at least so many half-moves.
abbrev pub WritesBound : List ℕ → Option (List ℕ) → Option (List ℕ) → Type 0
WritesBound input old new =
    (text : LengthText) × AreLengthLines (cut input) text × IsShown text × Appends old new (bound_line text.at_least text.query) × BoundsGames text.query text.at_least

-- what was taken grew by one line, `accepted` with a claim of several steps and a position, and the claim holds
abbrev pub AcceptsLine : Option (List ℕ) → Option (List ℕ) → Type 0
AcceptsLine old new = (claim : LineClaim) × (q : Asked) × (q.barred ≡ None) × Appends old new (accepted_steps_line claim q) × HoldsLine claim q

-- the claim of several steps of the input's first line about the query of the others holds
abbrev pub StatesTrueLine : List ℕ → Type 0
StatesTrueLine input = (claim : LineClaim) × (q : Asked) × StatesLine input claim q × HoldsLine claim q

-- the nodes suffice for what the command searches with this input
abbrev pub Suffices : Command → List ℕ → Type 0
Suffices (Solve depth nodes) input = StatesCheap depth nodes input
Suffices (Settle depth nodes) input = (StatesRefutable depth input × StatesCheap depth nodes input) ⊎ StatesPriced input ⊎ StatesSketched input ⊎ StatesSmall depth nodes input
Suffices (Verdict depth nodes) input = AsksForCheap depth nodes input
Suffices (Dossier depth nodes) input = StatesCheapLine depth nodes input
Suffices (Study depth nodes) input = AsksForOne input
Suffices (Report depth nodes) input = AsksForOne input
Suffices (Tree depth nodes) input = AsksForFewLines depth nodes input
Suffices command input = ⊥

-- the search came to its end: with a certificate, a dossier, verdicts or a tree, with an open line or part, or with a game
abbrev pub IsUnspent : Status → Type 0
IsUnspent Done = Unit {0}
IsUnspent Undecided = Unit {0}
IsUnspent Countered = Unit {0}
IsUnspent status = ⊥
