-- The line of a FEN.
use Rattle.std.proofs.Common.{◌≡◌, ℕ, List, ◌++◌, length, Option, Some, None, refl, ap, ◌∙◌}
use Rattle.std.specs.Prelude.{codes, IsTrue}
use Rattle.std.specs.Option.{option_map}
use Rattle.board_base.specs.Board.{Places, no_odds}
use Rattle.board_base.specs.Rights.{Rights}
use Rattle.board_base.specs.declared.men.Colour.{Colour}
use Rattle.board_base.specs.declared.moves.Move.{Move}
use Rattle.query_base.specs.Asked.{Asked, is_of_other_side}
use Rattle.fen_text.specs.Fen.{Position, asked, turn, rights, placement, number, en_passant, from_numbers, from_en_passant, from_rights, from_turn, fen, fen_of_four, unnumbered}
use Rattle.fen_text.specs.Spelling.{spelling}
use Rattle.fen_text.proofs.Back.{read_back}
use Rattle.fen_text.proofs.Begun.{begun}
use Rattle.fen_text.proofs.OneText.{four_spelled}
use Rattle.cert_text.specs.Lines.{ended, said}
use Rattle.cert_text.specs.Certificate.{query_of}
use Rattle.cert_text.proofs.Gives.{Gives, mapped, always, nothing, in_parts, given}
use Rattle.cert_text.proofs.SpelledLines.{said_back, said_read, when}

-- the line of a query
unfoldable pub fen_line : Asked → List ℕ
fen_line q = ended (codes "fen " ++ spelling q)

-- the line of a query is read as the query at no odds that demands no clock
pub query_back : (q : Asked) → length q.board ≡ 64 → q.barred ≡ None → IsTrue (is_of_other_side q.turn q.only) → said query_of (fen_line q) ≡ Some (record q { odds = no_odds; clock = None })
unfolding query_of fen_of_four fen_line
query_back q size plain fits = said_back query_of (codes "fen " ++ spelling q) (record q { odds = no_odds; clock = None }) (ap unnumbered (read_back q size plain fits))

-- FEN has no word for a barred move, nor for odds, nor for the clock that is demanded
abbrev IsBare : Asked → Type 0
IsBare q = (q.barred ≡ None) × (q.odds ≡ no_odds) × (q.clock ≡ None)

abbrev IsPlain : Position → Type 0
IsPlain p = IsBare p.0

plain_numbers : (b : Places) (t : Colour) (r : Rights) (e : Option Move) (text : List ℕ) → Gives (from_numbers (asked b t r e) text) IsPlain
unfolding from_numbers
plain_numbers b t r e text =
    in_parts 32 number (λ h. None) (λ h last. option_map (λ f. (asked b t r e, Some (h, f))) (number last)) text (λ h. nothing) (λ h last. mapped (λ f. (asked b t r e, Some (h, f))) (number last) (always (number last) (λ f. (refl, refl, refl))))

plain_en_passant : (b : Places) (t : Colour) (r : Rights) (text : List ℕ) → Gives (from_en_passant b t r text) IsPlain
unfolding from_en_passant
plain_en_passant b t r text =
    in_parts 32 (en_passant t) (λ e. Some (asked b t r e, None)) (λ e. from_numbers (asked b t r e)) text (λ e. record { holds = (refl, refl, refl) }) (λ e. plain_numbers b t r e)

plain_rights : (b : Places) (t : Colour) (text : List ℕ) → Gives (from_rights b t text) IsPlain
unfolding from_rights
plain_rights b t text = in_parts 32 rights (λ r. None) (from_en_passant b t) text (λ r. nothing) (plain_en_passant b t)

plain_turn : (b : Places) (text : List ℕ) → Gives (from_turn b text) IsPlain
unfolding from_turn
plain_turn b text = in_parts 32 turn (λ t. None) (from_rights b) text (λ t. nothing) (plain_rights b)

plain_position : (text : List ℕ) → Gives (fen text) IsPlain
unfolding fen
plain_position text = in_parts 32 placement (λ b. None) from_turn text (λ b. nothing) plain_turn

plain_unnumbered : (o : Option Position) → Gives o IsPlain → Gives (unnumbered o) IsBare
plain_unnumbered None g = nothing
plain_unnumbered (Some (q, None)) g = record { holds = g.holds }
plain_unnumbered (Some (q, Some numbers)) g = nothing

plain_fen : (text : List ℕ) (q : Asked) → fen_of_four text ≡ Some q → IsBare q
unfolding fen_of_four
plain_fen text q e = given (unnumbered (fen text)) q (plain_unnumbered (fen text) (plain_position text)) e

-- a line with a query is the one line of it, no move is barred in it, it names no odds, and it demands no clock
pub record IsFenLine (line : List ℕ) (q : Asked) : Type 0 where
  pub line_is : line ≡ fen_line q
  pub plain : q.barred ≡ None
  pub whole : q.odds ≡ no_odds
  pub any_clock : q.clock ≡ None

pub query_read : (line : List ℕ) (q : Asked) → said query_of line ≡ Some q → IsFenLine line q
unfolding query_of fen_line
query_read line q e =
    let says = said_read query_of line q e in
    let parts = when _ _ q says.stands in
    record {
      line_is = says.line_is ∙ ap ended (begun says.text (codes "fen ") parts.0 ∙ ap (λ (l : List ℕ). codes "fen " ++ l) (four_spelled _ q parts.1));
      plain = (plain_fen _ q parts.1).0;
      whole = (plain_fen _ q parts.1).1;
      any_clock = (plain_fen _ q parts.1).2;
    }
