-- The text of a dossier: a claim of several steps about a query, and a certificate for each part.
use Rattle.std.specs.Prelude.{ℕ, ◌≡◌, ◌≤◌, List, [], ◌∷◌, ◌++◌, length, codes, Some, None}
use Rattle.std.specs.Fmt.{decimal}
use Rattle.board_base.specs.Board.{no_odds}
use Rattle.query_base.specs.Asked.{Asked}
use Rattle.fen_text.specs.OddsLines.{odds_line}
use Rattle.cert_text.specs.Certificate.{IsSaid, Lines, clock_demand, query_of}
use Rattle.cert_text.specs.Lines.{cut, ended, said}
use Rattle.line_claims.specs.Lines.{line_claim_of}
use Rattle.line_claims.specs.declared.claims.LineClaim.{LineClaim}

-- the first line, which names the format
abbrev pub format_line : List ℕ
format_line = ended (codes "retro line 1")

-- These lines, and no others, are the head of a dossier with this claim about this query: the format, the claim, the odds where
-- there are any, then the clock where one is demanded, and the FEN.
pub record AreHeadLines (lines : Lines) (claim : LineClaim) (q : Asked) : Type 0 where
  pub claim_line : List ℕ
  pub odds_lines : Lines
  pub clock_lines : Lines
  pub fen_line : List ℕ
  pub parts : lines ≡ format_line ∷ claim_line ∷ ((odds_lines ++ clock_lines) ++ fen_line ∷ [])
  pub claim_is : said line_claim_of claim_line ≡ Some claim
  pub odds_are : IsSaid odds_line no_odds odds_lines q.odds
  pub clock_is : IsSaid clock_demand None clock_lines q.clock
  pub query_is : said query_of fen_line ≡ Some (record q { odds = no_odds; clock = None })

-- the bytes are the head of a dossier with this claim about this query
abbrev pub IsHead : List ℕ → LineClaim → Asked → Type 0
IsHead bytes claim q = AreHeadLines (cut bytes) claim q

-- no front of the bytes is the head of a dossier
abbrev pub HasNoHead : List ℕ → Type 0
HasNoHead bytes = (head rest : List ℕ) (claim : LineClaim) (q : Asked) → bytes ≡ head ++ rest → IsHead head claim q → ⊥

-- the bytes begin with the head of a dossier with this claim about this query, and this is left of them
pub record BeginsWithHead (bytes : List ℕ) (claim : LineClaim) (q : Asked) (rest : List ℕ) : Type 0 where
  pub head : List ℕ
  pub parts : bytes ≡ head ++ rest
  pub heading : IsHead head claim q

-- the line that says how many bytes follow it
abbrev pub count_line : ℕ → List ℕ
count_line n = ended (codes "part " ++ decimal n)

-- a part: how many bytes there are, and these
abbrev pub part_text : List ℕ → List ℕ
part_text bytes = count_line (length bytes) ++ bytes

-- the bytes begin with a part of at least one byte and at most 64 MiB, and this is left of them
pub record BeginsWithPart (bytes part rest : List ℕ) : Type 0 where
  pub parts : bytes ≡ part_text part ++ rest
  pub some : 1 ≤ length part
  pub few : length part ≤ 67108864

-- the bytes begin with no part
abbrev pub HasNoPart : List ℕ → Type 0
HasNoPart bytes = (part rest : List ℕ) → BeginsWithPart bytes part rest → ⊥
