-- The heads and the parts of dossiers, on single texts.
use Rattle.std.proofs.Common.{◌≡◌, ℕ, true, List, [], ◌∷◌, ◌++◌, refl, ap, arith}
use Rattle.std.specs.Prelude.{None, Some, codes, slice_set}
use Rattle.std.proofs.lemmas.Fmt.{decimal_digit}
use Rattle.board_base.specs.Board.{no_men, no_odds}
use Rattle.board_base.specs.Squares.{squares_of}
use Rattle.board_base.specs.declared.castles.Castle.TheVariants.{WhiteShort, WhiteLong}
use Rattle.board_base.specs.declared.men.Colour.TheVariants.{White}
use Rattle.board_base.specs.Rights.{no_rights}
use Rattle.query_base.specs.Asked.{Asked}
use Rattle.fen_text.specs.ClockLines.{clock_line}
use Rattle.fen_text.specs.Fen.{asked, fen, fen_of_four, from_en_passant, from_rights, from_turn, placement, ranks, rights, number as digits}
use Rattle.fen_text.specs.Numbers.{number}
use Rattle.fen_text.specs.OddsLines.{odds_line, odds_of}
use Rattle.fen_text.specs.Parts.{parted}
use Rattle.fen_text.specs.Ranks.{is_symbol, places_of, rank}
use Rattle.fen_text.specs.Sets.{set_of}
use Rattle.cert_text.specs.Certificate.{query_of}
use Rattle.cert_text.specs.Lines.{ended, said}
use Rattle.line_claims.specs.Lines.{line_claim_of}
use Rattle.line_claims.specs.declared.claims.LineClaim.TheVariants.{NotBoth}
use Rattle.dossier_text.specs.Dossiers.{IsHead, format_line, part_text}
use Rattle.dossier_text.specs.HeadReading.{count_of, size_of}

abbrev claim_line : List ℕ
claim_line = ended (codes "claim notboth K Q")

abbrev fen_line : List ℕ
fen_line = ended (codes "fen 8/8/8/8/8/8/8/8 w - -")

-- the board without men, White to move
abbrev bare : Asked
bare = asked no_men White no_rights None

-- a head with nothing demanded
plain_head : IsHead (format_line ++ claim_line ++ fen_line) (NotBoth WhiteShort WhiteLong) bare
unfolding said line_claim_of query_of fen_of_four fen from_turn from_rights from_en_passant parted placement ranks rank is_symbol places_of rights
plain_head = record { claim_line = claim_line; odds_lines = []; clock_lines = []; fen_line = fen_line; parts = refl; claim_is = refl; odds_are = refl; clock_is = refl; query_is = refl }

-- and one of games without the rook on a1 that demands a clock
abbrev odds_line-a1 : List ℕ
odds_line-a1 = ended (codes "odds 0000000000000001")

abbrev clock_line-12 : List ℕ
clock_line-12 = ended (codes "clock 12")

demanding_head : IsHead (format_line ++ claim_line ++ odds_line-a1 ++ clock_line-12 ++ fen_line) (NotBoth WhiteShort WhiteLong) (record bare { odds = slice_set no_odds 0 true; clock = Some 12 })
unfolding said line_claim_of query_of fen_of_four fen from_turn from_rights from_en_passant parted placement ranks rank is_symbol places_of rights odds_line odds_of set_of squares_of clock_line number
demanding_head = record { claim_line = claim_line; odds_lines = odds_line-a1 ∷ []; clock_lines = clock_line-12 ∷ []; fen_line = fen_line; parts = refl; claim_is = refl; odds_are = refl; clock_is = refl; query_is = refl }

-- a part of two bytes
two_bytes : part_text (codes "ab") ≡ codes "part 2" ++ 10 ∷ codes "ab"
two_bytes = ap (λ (text : List ℕ). (ended (codes "part " ++ text)) ++ codes "ab") (decimal_digit 2 (omega arith))

-- lines that say how many bytes follow, and lines that say nothing

most : said count_of (ended (codes "part 67108864")) ≡ Some 67108864
unfolding said count_of size_of digits
most = refl

too_many : said count_of (ended (codes "part 67108865")) ≡ None
unfolding said count_of size_of digits
too_many = refl

no_byte : said count_of (ended (codes "part 0")) ≡ None
unfolding said count_of size_of digits
no_byte = refl

padded : said count_of (ended (codes "part 012")) ≡ None
unfolding said count_of size_of digits
padded = refl

unended : said count_of (codes "part 12") ≡ None
unfolding said count_of size_of digits
unended = refl
