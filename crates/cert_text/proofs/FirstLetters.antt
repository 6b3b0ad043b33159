-- A line of odds, of a clock and of a FEN begin with different letters, so a line of one kind is none of another.
use Rattle.std.proofs.Common.{◌≡◌, ℕ, Bool, List, get_or, Some, None, sym, ap, ◌∙◌, arith}
use Rattle.query_base.specs.Asked.{Asked}
use Rattle.fen_text.specs.ClockLines.{clock_line}
use Rattle.fen_text.specs.OddsLines.{odds_line}
use Rattle.fen_text.proofs.ClockTexts.{clock_read}
use Rattle.fen_text.proofs.OddsTexts.{line_read}
use Rattle.cert_text.specs.Certificate.{query_of}
use Rattle.cert_text.specs.Lines.{ended, said}
use Rattle.cert_text.proofs.FenLines.{fen_line, query_read}
use Rattle.cert_text.proofs.SpelledLines.{nothing_said, said_read}

abbrev pub Begins : List ℕ → ℕ → Type 0
Begins line letter = get_or line 0 0 ≡ letter

pub odds_begin : (line : List ℕ) (odds : List Bool) → said odds_line line ≡ Some odds → Begins line 111
odds_begin line odds e =
    let says = said_read odds_line line odds e in
    ap (λ (l : List ℕ). get_or l 0 0) (says.line_is ∙ ap ended (line_read says.text odds says.stands).text_is)

pub clock_begins : (line : List ℕ) (n : ℕ) → said clock_line line ≡ Some n → Begins line 99
clock_begins line n e =
    let says = said_read clock_line line n e in
    ap (λ (l : List ℕ). get_or l 0 0) (says.line_is ∙ ap ended (clock_read says.text n says.stands).text_is)

pub fen_begins : (line : List ℕ) (q : Asked) → said query_of line ≡ Some q → Begins line 102
unfolding fen_line
fen_begins line q e = ap (λ (l : List ℕ). get_or l 0 0) (query_read line q e).line_is

pub no_odds_said : (line : List ℕ) (letter : ℕ) → Begins line letter → (letter ≡ 111 → ⊥) → said odds_line line ≡ None
no_odds_said line letter begins other = nothing_said odds_line line (λ odds e. let first = odds_begin line odds e in other (sym begins ∙ first))

pub no_clock_said : (line : List ℕ) → Begins line 102 → said clock_line line ≡ None
no_clock_said line begins = nothing_said clock_line line (λ n e. let first = clock_begins line n e in omega arith)
