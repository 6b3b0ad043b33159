-- Inner: no public clause cites this file.
-- The lines of a head and of a part, read from the first on.
use Rattle.std.specs.Prelude.{ℕ, cond, nat_eq, nat_le, List, [], ◌∷◌, drop, codes, Option, Some, None}
use Rattle.std.specs.List.{starts_with}
use Rattle.std.specs.Option.{option_and_then, option_map}
use Rattle.std.specs.Str.{bytes_eq}
use Rattle.query_base.specs.Asked.{Asked}
use Rattle.fen_text.specs.Fen.{number}
use Rattle.cert_text.specs.Certificate.{Lines}
use Rattle.cert_text.specs.Lines.{said}
use Rattle.cert_text.specs.QueryReading.{query_first}
use Rattle.line_claims.specs.Lines.{line_claim_of}
use Rattle.line_claims.specs.declared.claims.LineClaim.{LineClaim}
use Rattle.dossier_text.specs.Dossiers.{format_line}

-- this claim with a query, if there is one
abbrev pub claimed_of : LineClaim → Option (Asked × Lines) → Option (LineClaim × Asked × Lines)
claimed_of claim o = option_map (λ q. (claim, q.0, q.1)) o

-- the claim and the query of the lines behind the first, and what is left
abbrev pub claim_first : Lines → Option (LineClaim × Asked × Lines)
claim_first [] = None
claim_first (line ∷ lines) = option_and_then (λ claim. claimed_of claim (query_first lines)) (said line_claim_of line)

-- the claim and the query of a head that begins the lines, and what is left
abbrev pub head_first : Lines → Option (LineClaim × Asked × Lines)
head_first [] = None
head_first (line ∷ lines) = cond (bytes_eq line format_line) (claim_first lines) None

-- the number, if it is no more than 64 Mi
abbrev pub up_to_64_mi : ℕ → Option ℕ
up_to_64_mi n = cond (nat_le n 67108864) (Some n) None

-- the size of a text: a number from 1 to 64 Mi with no leading zero
unfoldable pub size_of : List ℕ → Option ℕ
size_of text = cond (starts_with nat_eq text (codes "0")) None (option_and_then up_to_64_mi (number text))

-- the size of a text: `part` and a size
unfoldable pub count_of : List ℕ → Option ℕ
count_of text = cond (starts_with nat_eq text (codes "part ")) (size_of (drop 5 text)) None
