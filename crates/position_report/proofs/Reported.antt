-- What a report says, part by part.
use Rattle.std.proofs.Common.{◌≡◌, ℕ, List, [], ◌∷◌, ◌++◌, map}
use Rattle.std.specs.Prelude.{Option, codes}
use Rattle.std.specs.List.{All}
use Rattle.std.proofs.lemmas.List.Elements.{All-weaker}
use Rattle.board_base.specs.declared.moves.Move.{Move}
use Rattle.board_base.specs.declared.unmoves.Unmove.{Unmove}
use Rattle.query_base.specs.Asked.{Asked}
use Rattle.query_base.specs.Reach.{Holds, Reaches}
use Rattle.query_base.specs.declared.claims.Claim.TheVariants.{Illegal}
use Rattle.ledger_told.specs.Line.{Line}
use Rattle.ledger_told.specs.Told.{IsLineTrue, TellsLines}
use Rattle.ledger_prose.specs.News.{news_of}
use Rattle.ledger_prose.specs.Saying.{SentenceSays}
use Rattle.ledger_prose.specs.Sentences.{sentences_of}
use Rattle.ledger_prose.specs.Words.{prose_text}
use Rattle.diagram_study.specs.ClaimFindings.{IsFound}
use Rattle.diagram_study.specs.Finding.{Finding}
use Rattle.diagram_study.specs.Findings.{AreFindings, IsFoundOf, finding_of, other_side}
use Rattle.diagram_study.specs.Studies.{without_demands}
use Rattle.diagram_study.specs.declared.findings.Findings.{Findings}
use Rattle.diagram_study.specs.declared.findings.Found.{Found}
use Rattle.proof_prose.specs.Heads.{drawn_text}
use Rattle.ledger_told.specs.Held.{with_held}
use Rattle.diagram_study.specs.Held.{IsHeldFound}
use Rattle.diagram_study.specs.declared.held.HeldFound.{HeldFound}
use Rattle.position_report.specs.Asking.{last_ask, plain_ask}
use Rattle.position_report.specs.Held.{IsIfSo, held_prose, if_lines}
use Rattle.position_report.specs.LastMoves.{HasLone, TellsLast, proved_steps}
use Rattle.position_report.specs.Lengths.{TellsGame, TellsOther, is_other_told, length_text}
use Rattle.position_report.specs.Open.{all_open}
use Rattle.position_report.specs.Parts.{part_text, parts_text}
use Rattle.position_report.specs.Proofs.{TellsProofs, line_help}
use Rattle.position_report.specs.Reports.{IsPlainFound, IsReport, PlainIsFound, TellsFindings, TellsFound, TellsImpossible, verdicts_text}
use Rattle.position_report.specs.Sayings.{impossible_of, shown_of, unsettled_text}
use Rattle.position_report.specs.Shown.{illegal_shown, shown_claims}
use Rattle.position_report.proofs.Joining.{eight-parts, five-parts, from-text}
use Rattle.position_report.proofs.Saying.{impossible-so, length-so, shown-so}

-- what was found without the demands, with a game
pub plain-told : (q : Asked) (depth nodes : ℕ) (by : List (List Move)) (findings : Findings) (plain : Finding) (o r : List ℕ) → IsFoundOf (without_demands q) depth nodes by findings → plain ≡ finding_of findings → (game : List ℕ) × TellsGame (without_demands q) (codes " without that") by game × (r ≡ o ++ game) → (game : List ℕ) × PlainIsFound q depth nodes plain game × (r ≡ o ++ game)
plain-told q depth nodes by findings plain o r found is (game, told, e) =
    (game, record { by = by; findings = findings; found = found; finding_is = is; game_told = told }, e)

two-same : (a b c d e x y : List ℕ) → a ≡ x → e ≡ y → parts_text (a ∷ b ∷ c ∷ d ∷ e ∷ []) ≡ parts_text (x ∷ b ∷ c ∷ d ∷ y ∷ [])
two-same a b c d e x y ax ey = cc

-- the parts of a position that is illegal
pub impossible-told : (q : Asked) (depth nodes : ℕ) (by : List (List Move)) (against : Finding) (plain : Option Finding) (o p1 p2 p3 p4 p5 said proofs game without ask : List ℕ) → Holds Illegal q → IsFound (other_side q) Illegal depth nodes against → IsPlainFound q depth nodes plain without → said ≡ verdicts_text q (impossible_of against plain) → TellsProofs depth nodes 1 (illegal_shown q ∷ []) proofs → TellsOther q by (is_other_told against plain) game → ask ≡ plain_ask q depth nodes plain → p1 ≡ o ++ part_text said → p2 ≡ p1 ++ part_text proofs → p3 ≡ p2 ++ part_text game → p4 ≡ p3 ++ part_text without → p5 ≡ p4 ++ part_text ask → (own : List ℕ) × TellsImpossible q depth nodes by against own × (p5 ≡ o ++ own)
impossible-told q depth nodes by against plain o p1 p2 p3 p4 p5 said proofs game without ask holds found plainly says told shows asks e1 e2 e3 e4 e5 = (
  parts_text (said ∷ proofs ∷ game ∷ without ∷ ask ∷ []),
  record {
    plain = plain;
    plain_game = without;
    plain_found = plainly;
    so = impossible-so q depth nodes against plain without holds found plainly;
    proofs = proofs;
    proofs_told = told;
    game = game;
    game_told = shows;
    text_is = two-same said proofs game without ask _ _ says asks;
  },
  five-parts o p1 p2 p3 p4 p5 said proofs game without ask e1 e2 e3 e4 e5,
)

-- the laws of a ledger's lines, and of its sentences
abbrev pub LinesHold : Type 0
LinesHold = (q : Asked) (lines : List Line) → TellsLines q lines → All (IsLineTrue q) lines

abbrev pub SentencesHold : Type 0
SentencesHold =
    (q : Asked) (lines : List Line) → All (IsLineTrue q) lines → (g : List Move) → Reaches g q → All (SentenceSays q g) (sentences_of q lines)

abbrev pub NewsHold : Type 0
NewsHold =
    (q : Asked) (known lines : List Line) → All (IsLineTrue q) lines → All (IsLineTrue q) (map (news_of known) lines)

-- the parts of a position that isn't proved to be illegal, each as it is told
pub record AreParts (q : Asked) (depth nodes : ℕ) (by : List (List Move)) (f : Found) (said ledger held proofs ask line unsettled ends : List ℕ) : Type 0 where
  pub said_told : (last : List ℕ) × TellsLast q f last × (said ≡ unsettled_text f.illegal.finding ++ verdicts_text q (shown_of q f) ++ last)
  pub ledger_told : ledger ≡ prose_text q (sentences_of q f.ledger.items)
  pub held_told : held ≡ held_prose q f.ledger.items f.held.items
  pub proofs_told : TellsProofs depth nodes 1 (shown_claims q f) proofs
  pub ask_told : ask ≡ last_ask q depth nodes
  pub line_told : (lone : Option Unmove) × HasLone q f.left lone × (line ≡ line_help depth nodes q (proved_steps f.steps) lone)
  pub unsettled_told : unsettled ≡ all_open q f
  pub ends_told : (game : List ℕ) × TellsGame q [] by game × (ends ≡ length_text q f.length ++ game)

same-parts : (a b c d e f g h x y z t u v w : List ℕ) → a ≡ x → b ≡ y → c ≡ z → e ≡ t → f ≡ u → g ≡ v → h ≡ w → parts_text (a ∷ b ∷ c ∷ d ∷ e ∷ f ∷ g ∷ h ∷ []) ≡ parts_text (x ∷ y ∷ z ∷ d ∷ t ∷ u ∷ v ∷ w ∷ [])
same-parts a b c d e f g h x y z t u v w ax by cz et fu gv hw = cc

-- what is said if a castling is held is so
if-so : SentencesHold → NewsHold → (q : Asked) (known : List Line) (held : List HeldFound) → All (IsHeldFound q known) held → All (IsIfSo q known) held
if-so sentences news q known held found =
    All-weaker (IsHeldFound q known) (IsIfSo q known) (λ h is.
    let so : All (IsLineTrue (with_held q h.castle)) (if_lines known h) = news (with_held q h.castle) known h.lines.items is.true_ in
    record { true_ = so; says = sentences (with_held q h.castle) (if_lines known h) so }) held found

pub parts-told : (q : Asked) (depth nodes : ℕ) (by : List (List Move)) (f : Found) (said ledger held proofs ask line unsettled ends : List ℕ) → LinesHold → SentencesHold → NewsHold → AreFindings q depth nodes by f → AreParts q depth nodes by f said ledger held proofs ask line unsettled ends → TellsFound q depth nodes by f (parts_text (said ∷ ledger ∷ held ∷ proofs ∷ ask ∷ line ∷ unsettled ∷ ends ∷ []))
parts-told q depth nodes by f said ledger held proofs ask line unsettled ends lines sentences news found are =
    let true_lines : All (IsLineTrue q) f.ledger.items = lines q f.ledger.items found.ledger in
    record {
      so = shown-so q depth nodes by f found;
      last = are.said_told.0;
      last_told = are.said_told.1;
      true_ = true_lines;
      says = sentences q f.ledger.items true_lines;
      if_so = if-so sentences news q f.ledger.items f.held.items found.held.each;
      proofs = proofs;
      proofs_told = are.proofs_told;
      lone = are.line_told.0;
      lone_is = are.line_told.1;
      long = length-so q f.length found.games;
      game = are.ends_told.0;
      game_told = are.ends_told.1;
      text_is = same-parts said ledger held proofs ask line unsettled ends _ _ _ _ _ _ _ are.said_told.2 are.ledger_told are.held_told are.ask_told are.line_told.2 are.unsettled_told are.ends_told.2;
    }

pub found-told : (q : Asked) (depth nodes : ℕ) (by : List (List Move)) (f : Found) (said ledger held proofs ask line unsettled ends o p1 p2 p3 p4 p5 p6 p7 p8 : List ℕ) → LinesHold → SentencesHold → NewsHold → AreFindings q depth nodes by f → AreParts q depth nodes by f said ledger held proofs ask line unsettled ends → p1 ≡ o ++ part_text said → p2 ≡ p1 ++ part_text ledger → p3 ≡ p2 ++ part_text held → p4 ≡ p3 ++ part_text proofs → p5 ≡ p4 ++ part_text ask → p6 ≡ p5 ++ part_text line → p7 ≡ p6 ++ part_text unsettled → p8 ≡ p7 ++ part_text ends → (own : List ℕ) × TellsFound q depth nodes by f own × (p8 ≡ o ++ own)
found-told q depth nodes by f said ledger held proofs ask line unsettled ends o p1 p2 p3 p4 p5 p6 p7 p8 lines sentences news found are e1 e2 e3 e4 e5 e6 e7 e8 = (
  parts_text (said ∷ ledger ∷ held ∷ proofs ∷ ask ∷ line ∷ unsettled ∷ ends ∷ []),
  parts-told q depth nodes by f said ledger held proofs ask line unsettled ends lines sentences news found are,
  eight-parts o p1 p2 p3 p4 p5 p6 p7 p8 said ledger held proofs ask line unsettled ends e1 e2 e3 e4 e5 e6 e7 e8,
)

-- the whole report: the diagram, and what was found
pub report-told : (q : Asked) (depth nodes : ℕ) (by : List (List Move)) (findings : Findings) (o p r : List ℕ) → IsFoundOf q depth nodes by findings → o ≡ [] → p ≡ o ++ drawn_text q → (own : List ℕ) × TellsFindings q depth nodes by findings own × (r ≡ p ++ own) → IsReport q depth nodes r
report-told q depth nodes by findings o p r found none drawn tells =
    let whole = from-text (TellsFindings q depth nodes by findings) o p r (drawn_text q) none drawn tells in
    record { by = by; findings = findings; found = found; own = whole.0; told = whole.1; text_is = whole.2 }
