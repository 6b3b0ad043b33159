-- The parts of a dossier in words, and the whole.
use Rattle.std.specs.Prelude.{ℕ, suc, ◌≡◌, ◌⊎◌, List, [], ◌∷◌, ◌++◌, codes, length, Option, Some, None}
use Rattle.std.specs.Fmt.{decimal}
use Rattle.board_base.specs.Board.{at}
use Rattle.board_base.specs.Texts.{square_text}
use Rattle.board_base.specs.declared.men.Man.{Man}
use Rattle.board_base.specs.declared.moves.Move.{Move}
use Rattle.query_base.specs.Asked.{Asked}
use Rattle.query_base.specs.declared.claims.Claim.{Claim}
use Rattle.query_base.specs.declared.claims.Claim.TheVariants.{Illegal, Last, Lost, Ep}
use Rattle.cert_text.specs.Certificate.{Certificate}
use Rattle.line_claims.specs.declared.claims.LineClaim.{LineClaim}
use Rattle.line_claims.specs.declared.claims.LineClaim.TheVariants.{NotBoth, Line}
use Rattle.proof_prose.specs.Heads.{drawn_text}
use Rattle.proof_prose.specs.Prose.{Retells}
use Rattle.prose_words.specs.Words.{kind_word}
use Rattle.dossier_prose.specs.Claims.{closing_text, opening_text}

-- from which square a move went to which
abbrev pub squares_words : Move → List ℕ
squares_words m = codes "from " ++ square_text m.from ++ codes " to " ++ square_text m.to

-- that these words' move went so
abbrev pub going_words : List ℕ → Move → List ℕ
going_words move m = move ++ codes " went " ++ squares_words m ++ codes "."

-- what a move captured that found this on its target
abbrev pub victim_words : Option Man → List ℕ
victim_words None = codes "nothing"
victim_words (Some man) = codes "a " ++ kind_word man.kind

-- the same; en passant, if the move answered a double step
abbrev pub taken_words : Option Move → Option Man → List ℕ
taken_words None place = victim_words place
taken_words (Some double) place = codes "en passant"

-- what the move would have left if it had captured otherwise: with this on its target, after this double step if one is given
abbrev pub other_words : Move → Option Move → Option Man → List ℕ
other_words m double place = codes "had the move " ++ squares_words m ++ codes " captured " ++ taken_words double place ++ codes ", it would have left this:"

-- what a part shows that excludes a retraction of the named move: what that would have left
abbrev pub excluded_words : Option Move → Asked → List ℕ
excluded_words None part = codes "what can't have stood before:"
excluded_words (Some m) part = other_words m part.only (at part.board m.to)

-- what a part shows about a last move: this is the last, or the one before the named one
abbrev pub last_words : Option Move → Move → List ℕ
last_words None m = going_words (codes "the last move") m
last_words (Some named) m = going_words (codes "the move before") m

-- what a part of a claim of last moves shows, behind the parts about the named move
abbrev pub step_words : Option Move → Claim → Asked → List ℕ
step_words named (Last m) part = last_words named m
step_words named Illegal part = excluded_words named part
step_words named (Lost x) part = excluded_words named part
step_words named (Ep m) part = excluded_words named part

-- the move that is named behind a part: that of the part's claim, if it is about a last move
abbrev pub named_by : Option Move → Claim → Option Move
named_by named (Last m) = Some m
named_by named Illegal = named
named_by named (Lost x) = named
named_by named (Ep m) = named

-- what a part shows
abbrev pub part_words : LineClaim → Option Move → Claim → Asked → List ℕ
part_words (NotBoth x y) named claim part = codes "suppose that both rights are kept."
part_words (Line steps) named claim part = step_words named claim part

-- the row above the part with this number, of so many, behind the parts about the named move
abbrev pub heading : LineClaim → ℕ → ℕ → Option Move → Claim → Asked → List ℕ
heading line n k named claim part = codes "\nPart " ++ decimal k ++ codes " of " ++ decimal n ++ codes ": " ++ part_words line named claim part ++ codes "\n"

-- the diagram of a part with what is given beside it, unless it is that of the dossier
abbrev pub IsDrawn : Asked → Asked → List ℕ → Type 0
IsDrawn q part shown = ((part ≡ q) × (shown ≡ [])) ⊎ ((part ≡ q → ⊥) × (shown ≡ drawn_text part))

-- a part is told: what it shows, its diagram, and the proof of its certificate
pub record TellsPart (line : LineClaim) (q : Asked) (n k : ℕ) (named : Option Move) (cert : Certificate) (text : List ℕ) : Type 0 where
  pub shown : List ℕ
  pub proof : List ℕ
  pub drawn : IsDrawn q cert.query shown
  pub retells : Retells cert proof
  pub whole : text ≡ heading line n k named cert.claim cert.query ++ shown ++ proof

-- parts are told one after another, of which the first has this number, of so many, and stands behind the parts about the named move
abbrev pub TellParts : LineClaim → Asked → ℕ → ℕ → Option Move → List Certificate → List ℕ → Type 0
TellParts line q n k named [] text = text ≡ []
TellParts line q n k named (cert ∷ certs) text =
    (a : List ℕ) × (b : List ℕ) × TellsPart line q n k named cert a × TellParts line q n (suc k) (named_by named cert.claim) certs b × (text ≡ a ++ b)

-- A claim of several steps about this query is told with its proofs: the diagram and the claim, the parts with the proofs of these
-- certificates, and the claim again.
pub record ExplainsDossier (line : LineClaim) (q : Asked) (certs : List Certificate) (text : List ℕ) : Type 0 where
  pub middle : List ℕ
  pub parts : TellParts line q (length certs) 1 None certs middle
  pub whole : text ≡ opening_text line q ++ middle ++ closing_text line q
