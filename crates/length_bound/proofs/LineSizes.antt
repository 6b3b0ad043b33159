-- How long the text of a length is.
use Rattle.std.proofs.Common.{◌≡◌, ℕ, ◌<◌, ◌≤◌, List, [], ◌∷◌, length, Some, refl, ap, arith, length-append}
use Rattle.std.specs.Prelude.{Bool, codes}
use Rattle.std.specs.Fmt.{decimal}
use Rattle.std.proofs.lemmas.Fmt.{length-decimal-le}
use Rattle.board_base.specs.Board.{no_odds}
use Rattle.board_base.specs.Potentials.{Duals}
use Rattle.board_base.specs.declared.men.Colour.{Colour}
use Rattle.fen_text.specs.OddsLines.{odds_line}
use Rattle.fen_text.specs.Spelling.{turn_letter}
use Rattle.cert_text.specs.Arguments.{potentials_text}
use Rattle.cert_text.specs.Certificate.{Lines, query_of}
use Rattle.cert_text.proofs.Short.{duals_short, line_short, odds_text_short, query_text_short}
use Rattle.length_bound.specs.LengthText.{AreLengthLines, AreOddsLines, at_least_of, length_head, shown_by}
use Rattle.length_bound.specs.declared.texts.LengthText.{LengthText}
use Rattle.length_bound.proofs.Fronts.{bytes_in, bytes_in-append}
use Rattle.length_bound.proofs.LineTexts.{at_least_read, shown_read}

head_size : length length_head ≡ 15
head_size = refl

odds_size : (lines : Lines) (o : List Bool) → AreOddsLines lines o → bytes_in lines ≤ 22
odds_size [] o none = omega arith
odds_size (line ∷ []) o named = let short = line_short odds_line 21 line o (λ text. odds_text_short text o) named in omega arith
odds_size (line ∷ more ∷ lines) o never = absurd never

at_least_short : (text : List ℕ) (n : ℕ) → at_least_of text ≡ Some n → length text ≤ 12
at_least_short text n e =
    let read = at_least_read text n e in
    let small = read.small in
    omega (arith, ap length read.text_is, length-append (codes "atleast ") (decimal n), length-decimal-le 4 n (omega arith) (omega arith) (omega arith))

shown_short : (text : List ℕ) (s : Colour × Duals) → shown_by text ≡ Some s → length text ≤ 137
shown_short text s e =
    let read = shown_read text s e in
    omega (arith, ap length read.text_is, length-append (codes "moves ") (turn_letter s.0 ∷ 32 ∷ potentials_text s.1), duals_short 16 s.1 read.near)

-- a text has fewer than 512 bytes
pub text_short : (lines : Lines) (text : LengthText) → AreLengthLines lines text → bytes_in lines < 512
text_short lines text t =
    omega (
      arith,
      ap bytes_in t.parts,
      head_size,
      bytes_in-append t.odds_lines (t.fen_line ∷ t.at_least_line ∷ t.moves_line ∷ []),
      odds_size t.odds_lines text.query.odds t.odds,
      line_short query_of 85 t.fen_line (record text.query { odds = no_odds }) (λ line. query_text_short line (record text.query { odds = no_odds })) t.query,
      line_short at_least_of 12 t.at_least_line text.at_least (λ line. at_least_short line text.at_least) t.at_least,
      line_short shown_by 137 t.moves_line (text.side, text.potentials) (λ line. shown_short line (text.side, text.potentials)) t.moves,
    )
