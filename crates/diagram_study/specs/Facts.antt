-- What a study says of a position, line by line, and that it is so.
use Rattle.std.specs.Prelude.{ℕ, ◌≡◌, ◌≤◌, ◌⊎◌, List, [], ◌++◌, length, Some}
use Rattle.std.specs.List.{All, flat_map}
use Rattle.board_base.specs.declared.castles.Castle.{Castle}
use Rattle.board_base.specs.declared.moves.Move.{Move}
use Rattle.board_base.specs.declared.unmoves.Unmove.{Unmove}
use Rattle.query_base.specs.Asked.{Asked}
use Rattle.query_base.specs.Reach.{Holds, Reaches}
use Rattle.query_base.specs.declared.claims.Claim.{Claim}
use Rattle.query_base.specs.declared.claims.Claim.TheVariants.{Illegal}
use Rattle.cert_text.specs.ClaimLines.{claim_words}
use Rattle.line_claims.specs.Holding.{HoldsLine}
use Rattle.line_claims.specs.declared.claims.LineClaim.{LineClaim}
use Rattle.ledger_told.specs.Held.{with_held}
use Rattle.ledger_told.specs.Line.{Line}
use Rattle.ledger_told.specs.Told.{IsLineTrue, whole_text}
use Rattle.claim_findings.specs.Findings.{IsContradicted}
use Rattle.claim_findings.specs.Games.{AgreesWith, IsEndIn}
use Rattle.claim_findings.specs.Joined.{IsLineContradicted}
use Rattle.diagram_study.specs.Findings.{other_side}
use Rattle.diagram_study.specs.Possible.{IsEnd}
use Rattle.diagram_study.specs.Studies.{without_demands}
use Rattle.claim_findings.specs.Lines.{found_line, steps_line, steps_words, stuck_line}
use Rattle.diagram_study.specs.Texts.{if_line, left_line, length_line, other_line, plain_line, possible_line}
use Rattle.claim_findings.specs.declared.findings.Finding.{Finding}
use Rattle.claim_findings.specs.declared.findings.Finding.TheVariants.{Proved, Countered, Open, Spent}

-- what a line says: what was found of a claim, or of a claim of several steps; at which retractions a search stays open; which unmoves are
-- left, and with which of these some game ends; a line of the ledger; one that is so if a castling is held; how long games are at least; what was found with the other side to
-- move
pub data Fact : Type 0 where
  found : Finding → Claim → Fact
  steps : Finding → LineClaim → Fact
  stuck : List ℕ → List Unmove → Fact
  left : List Unmove → ℕ → Fact
  possible : List Unmove → ℕ → Fact
  known : Line → Fact
  if_held : Castle → Line → Fact
  at_least : ℕ → Fact
  other : Finding → Fact

-- its line
abbrev pub line_of : Fact → List ℕ
line_of (found finding claim) = found_line finding claim
line_of (steps finding claim) = steps_line finding claim
line_of (stuck words front) = stuck_line words (Some front)
line_of (left us all) = left_line us all
line_of (possible us all) = possible_line us all
line_of (known x) = whole_text x
line_of (if_held castle x) = if_line castle x
line_of (at_least n) = length_line n
line_of (other finding) = other_line finding

-- what is said of a claim: that it holds where it is proved, that it is contradicted where it is countered, and nothing elsewhere
abbrev pub IsSo : Finding → Type 0 → Type 0 → Type 0
IsSo (Proved depth) holds contradicted = holds
IsSo Countered holds contradicted = contradicted
IsSo Open holds contradicted = Unit {0}
IsSo Spent holds contradicted = Unit {0}

-- the words are those of a claim, of one step or of several
abbrev pub AreClaimWords : List ℕ → Type 0
AreClaimWords words = ((claim : Claim) × (words ≡ claim_words claim)) ⊎ ((claim : LineClaim) × (words ≡ steps_words claim))

-- What is proved holds of every game, some game contradicts what is countered, some game ends with each of the unmoves that are called
-- possible, what a line of the ledger says is so of each game that reaches the query, or of each that reaches it and keeps the castling, and
-- each has at least so many half-moves.
abbrev pub IsTrueOf : Asked → Fact → Type 0
IsTrueOf q (found finding claim) = IsSo finding (Holds claim q) (IsContradicted claim q)
IsTrueOf q (steps finding claim) = IsSo finding (HoldsLine claim q) (IsLineContradicted claim q)
IsTrueOf q (stuck words front) = AreClaimWords words
IsTrueOf q (left us all) = Unit {0}
IsTrueOf q (possible us all) = All (IsEnd q) us
IsTrueOf q (known x) = IsLineTrue q x
IsTrueOf q (if_held castle x) = IsLineTrue (with_held q castle) x
IsTrueOf q (at_least n) = (g : List Move) → Reaches g q → n ≤ length g
IsTrueOf q (other finding) = IsSo finding (Holds Illegal (other_side q)) (IsContradicted Illegal (other_side q))

-- These games are what the facts go by: a claim is countered if and only if one of them contradicts it, and one of them ends with each of
-- the unmoves that are called possible. So no fact gainsays another: where an unmove is called possible, that the query is illegal is
-- countered.
abbrev pub GoesBy : List (List Move) → Asked → Fact → Type 0
GoesBy games q (found finding claim) = AgreesWith games claim q finding
GoesBy games q (steps finding claim) = Unit {0}
GoesBy games q (stuck words front) = Unit {0}
GoesBy games q (left us all) = Unit {0}
GoesBy games q (possible us all) = All (IsEndIn games q) us
GoesBy games q (known x) = Unit {0}
GoesBy games q (if_held castle x) = Unit {0}
GoesBy games q (at_least n) = Unit {0}
GoesBy games q (other finding) = Unit {0}

-- The text is the lines of facts, each of which is true of the query, and all go by the same games.
pub record SaysOf (q : Asked) (text : List ℕ) : Type 0 where
  pub facts : List Fact
  pub true_ : All (IsTrueOf q) facts
  pub games : List (List Move)
  pub agreed : All (GoesBy games q) facts
  pub text_is : text ≡ flat_map line_of facts

-- The text says what is so of the query; and behind that it says nothing, or what is so of the query without its demands, after a line
-- that says that this is meant.
pub record SaysTrue (q : Asked) (text : List ℕ) : Type 0 where
  pub own : List ℕ
  pub said : SaysOf q own
  pub behind : List ℕ
  pub plain : (behind ≡ []) ⊎ ((more : List ℕ) × SaysOf (without_demands q) more × (behind ≡ plain_line ++ more))
  pub text_is : text ≡ own ++ behind
