-- What a report says of a position, and that it is so.
use Rattle.std.specs.Prelude.{ℕ, ◌≡◌, codes, false, IfSome, IsTrue, List, ◌++◌, ◌∷◌, [], Option, Some, None}
use Rattle.std.specs.List.{All, flat_map}
use Rattle.board_base.specs.declared.moves.Move.{Move}
use Rattle.board_base.specs.declared.unmoves.Unmove.{Unmove}
use Rattle.query_base.specs.Asked.{Asked}
use Rattle.query_base.specs.Reach.{Reaches}
use Rattle.ledger_prose.specs.Saying.{SentenceSays}
use Rattle.ledger_prose.specs.Sentences.{sentences_of}
use Rattle.ledger_prose.specs.Words.{prose_text}
use Rattle.ledger_told.specs.Told.{IsLineTrue}
use Rattle.diagram_study.specs.Finding.{Finding}
use Rattle.diagram_study.specs.Findings.{IsFoundOf, finding_of}
use Rattle.diagram_study.specs.Studies.{makes_demands, without_demands}
use Rattle.diagram_study.specs.declared.findings.Findings.{Findings}
use Rattle.diagram_study.specs.declared.findings.Findings.TheVariants.{Impossible, Unproved}
use Rattle.diagram_study.specs.declared.findings.Found.{Found}
use Rattle.proof_prose.specs.Heads.{drawn_text}
use Rattle.verdict_prose.specs.Verdicts.{IsSo}
use Rattle.verdict_prose.specs.Sentences.{verdict_text}
use Rattle.verdict_prose.specs.declared.verdicts.Verdict.{Verdict}
use Rattle.verdict_prose.specs.declared.verdicts.Verdict.TheVariants.{AtLeast}
use Rattle.position_report.specs.Asking.{last_ask, plain_ask}
use Rattle.position_report.specs.Held.{IsIfSo, held_prose}
use Rattle.position_report.specs.LastMoves.{HasLone, TellsLast, proved_steps}
use Rattle.position_report.specs.Lengths.{TellsGame, TellsOther, is_other_told, length_text}
use Rattle.position_report.specs.Open.{all_open}
use Rattle.position_report.specs.Parts.{parts_text}
use Rattle.position_report.specs.Proofs.{TellsProofs, line_help}
use Rattle.position_report.specs.Sayings.{impossible_of, shown_of, unsettled_text}
use Rattle.position_report.specs.Shown.{illegal_shown, shown_claims}

-- the sentences of these verdicts
unfoldable pub verdicts_text : Asked → List Verdict → List ℕ
verdicts_text q verdicts = flat_map (verdict_text q) verdicts

-- What is told of a position that isn't proved to be illegal: that it isn't settled whether a game leads there, if it isn't; what is proved
-- and what games show, a sentence each, and each is so; the last moves; the paragraph of the ledger, whose lines are true of every game
-- that reaches the position, and so is what its sentences say; those of what it says only if a right is held; the proofs; how to ask
-- without a last move that is given; how a proof of several last moves is to be had, or of what the last one captured if it alone is left;
-- which rights aren't settled; how long games are, and a game.
pub record TellsFound (q : Asked) (depth nodes : ℕ) (by : List (List Move)) (f : Found) (text : List ℕ) : Type 0 where
  pub so : All (IsSo q) (shown_of q f)
  pub last : List ℕ
  pub last_told : TellsLast q f last
  pub true_ : All (IsLineTrue q) f.ledger.items
  pub says : (g : List Move) → Reaches g q → All (SentenceSays q g) (sentences_of q f.ledger.items)
  pub if_so : All (IsIfSo q f.ledger.items) f.held.items
  pub proofs : List ℕ
  pub proofs_told : TellsProofs depth nodes 1 (shown_claims q f) proofs
  pub lone : Option Unmove
  pub lone_is : HasLone q f.left lone
  pub long : IfSome f.length (λ n. IsSo q (AtLeast n))
  pub game : List ℕ
  pub game_told : TellsGame q [] by game
  pub text_is : text ≡ parts_text ((unsettled_text f.illegal.finding ++ verdicts_text q (shown_of q f) ++ last) ∷ prose_text q (sentences_of q f.ledger.items) ∷ held_prose q f.ledger.items f.held.items ∷ proofs ∷ last_ask q depth nodes ∷ line_help depth nodes q (proved_steps f.steps) lone ∷ all_open q f ∷ (length_text q f.length ++ game) ∷ [])

-- What was found of the position without its demands, as by a study: of the claim that it is illegal, and a game that leads there.
pub record PlainIsFound (q : Asked) (depth nodes : ℕ) (plain : Finding) (game : List ℕ) : Type 0 where
  pub by : List (List Move)
  pub findings : Findings
  pub found : IsFoundOf (without_demands q) depth nodes by findings
  pub finding_is : plain ≡ finding_of findings
  pub game_told : TellsGame (without_demands q) (codes " without that") by game

-- that, if it makes any
abbrev pub IsPlainFound : Asked → ℕ → ℕ → Option Finding → List ℕ → Type 0
IsPlainFound q depth nodes None game = (makes_demands q ≡ false) × (game ≡ [])
IsPlainFound q depth nodes (Some plain) game = IsTrue (makes_demands q) × PlainIsFound q depth nodes plain game

-- What is told of a position that is illegal: that it is, what was found with the other side to move, or without its demands if it makes any,
-- the proof, a game that leads there with the other side to move, if it is said that one does, and one that does without its demands, and how
-- to ask for a report without them.
pub record TellsImpossible (q : Asked) (depth nodes : ℕ) (by : List (List Move)) (against : Finding) (text : List ℕ) : Type 0 where
  pub plain : Option Finding
  pub plain_game : List ℕ
  pub plain_found : IsPlainFound q depth nodes plain plain_game
  pub so : All (IsSo q) (impossible_of against plain)
  pub proofs : List ℕ
  pub proofs_told : TellsProofs depth nodes 1 (illegal_shown q ∷ []) proofs
  pub game : List ℕ
  pub game_told : TellsOther q by (is_other_told against plain) game
  pub text_is : text ≡ parts_text (verdicts_text q (impossible_of against plain) ∷ proofs ∷ game ∷ plain_game ∷ plain_ask q depth nodes plain ∷ [])

-- what is told of what was found
abbrev pub TellsFindings : Asked → ℕ → ℕ → List (List Move) → Findings → List ℕ → Type 0
TellsFindings q depth nodes by (Impossible finding against) text = TellsImpossible q depth nodes by against text
TellsFindings q depth nodes by (Unproved f) text = TellsFound q depth nodes by f text

-- The report of a position: the diagram with what is given, and what was found, as by a study within the same limits.
pub record IsReport (q : Asked) (depth nodes : ℕ) (text : List ℕ) : Type 0 where
  pub by : List (List Move)
  pub findings : Findings
  pub found : IsFoundOf q depth nodes by findings
  pub own : List ℕ
  pub told : TellsFindings q depth nodes by findings own
  pub text_is : text ≡ drawn_text q ++ own
