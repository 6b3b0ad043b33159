-- The head of a dossier is one text of lines.
use Rattle.std.proofs.Common.{◌≡◌, ℕ, ◌≤◌, Bool, List, [], ◌∷◌, ◌++◌, length, Option, Some, None, refl, sym, ap, ◌∙◌, subst, arith, append_assoc, length-append}
use Rattle.std.specs.Prelude.{codes}
use Rattle.std.specs.List.{concat}
use Rattle.std.proofs.lemmas.Fmt.{length-decimal-le}
use Rattle.std.proofs.lemmas.List.Folds.{concat-append}
use Rattle.board_base.specs.Board.{no_odds}
use Rattle.board_base.specs.Texts.{unmove_text}
use Rattle.board_base.specs.declared.castles.Castle.{Castle}
use Rattle.board_base.specs.declared.castles.Castle.TheVariants.{WhiteShort, WhiteLong, BlackShort, BlackLong}
use Rattle.board_base.specs.declared.unmoves.Unmove.{Unmove}
use Rattle.query_base.specs.Asked.{Asked, IsShortClock}
use Rattle.fen_text.specs.ClockLines.{clock_line}
use Rattle.fen_text.specs.OddsLines.{odds_line}
use Rattle.fen_text.specs.Parts.{Free}
use Rattle.fen_text.specs.Spelling.{spelling}
use Rattle.fen_text.proofs.ClockTexts.{clock_read}
use Rattle.fen_text.proofs.PartLemmas.{free_append}
use Rattle.cert_text.specs.Certificate.{IsSaid, Lines, clock_demand, lines_of_clock, lines_of_odds, query_lines, query_of}
use Rattle.cert_text.specs.Lines.{cut, ended, said}
use Rattle.cert_text.proofs.CertTexts.{concat_cut}
use Rattle.cert_text.proofs.FenLines.{fen_line, query_read}
use Rattle.cert_text.proofs.HeadTexts.{demands_are, query_whole}
use Rattle.cert_text.proofs.Short.{line_short, odds_text_short, query_text_short}
use Rattle.cert_text.proofs.SpelledLines.{said_back, said_read}
use Rattle.cert_text.proofs.TreeTexts.{AreWhole, cut_back, cut_line}
use Rattle.line_claims.specs.Lines.{HasLine, line_claim_of, line_claim_text, steps_text}
use Rattle.line_claims.specs.declared.claims.LineClaim.{LineClaim}
use Rattle.line_claims.specs.declared.claims.LineClaim.TheVariants.{NotBoth, Line}
use Rattle.line_claims.proofs.LineTexts.{short, spelled, written}
use Rattle.dossier_text.specs.Dossiers.{AreHeadLines, IsHead, format_line}
use Rattle.board_base.proofs.TextLemmas.{mapped_some}
use Rattle.fen_text.specs.Fen.{castle_letter}
use Rattle.fen_text.proofs.MoveFrees.{unmove_free}

-- the one text of a head, line after line
abbrev pub head_lines : LineClaim → Asked → Lines
head_lines claim q = format_line ∷ ended (line_claim_text claim) ∷ query_lines q

-- no line ends in the text of a claim

steps_free : (us : List Unmove) → Free 10 (steps_text us)
steps_free [] = refl
steps_free (u ∷ []) = unmove_free 10 u (omega arith)
steps_free (u ∷ v ∷ us) = free_append 10 (unmove_text u) (32 ∷ steps_text (v ∷ us)) (unmove_free 10 u (omega arith)) (steps_free (v ∷ us))

letter_free : (x : Castle) (text : List ℕ) → Free 10 text → Free 10 (castle_letter x ∷ text)
letter_free WhiteShort text free = free
letter_free WhiteLong text free = free
letter_free BlackShort text free = free
letter_free BlackLong text free = free

claim_free : (claim : LineClaim) → Free 10 (line_claim_text claim)
claim_free (NotBoth x y) = letter_free x (32 ∷ castle_letter y ∷ []) (letter_free y [] refl)
claim_free (Line steps) = steps_free steps

-- the lines of a head

-- the clock that is demanded is short
clock_short : (lines : Lines) (clock : Option ℕ) → IsSaid clock_demand None lines clock → IsShortClock clock
clock_short [] clock none = subst IsShortClock (sym none) tt
clock_short (line ∷ []) clock e =
    let says = said_read clock_demand line clock e in
    let m = mapped_some (λ (n : ℕ). Some n) (clock_line says.text) clock says.stands in
    subst IsShortClock m.2 (clock_read says.text m.0 m.1).short
clock_short (line ∷ other ∷ lines) clock e = absurd e

-- each line has its end
pub heads_whole : (claim : LineClaim) (q : Asked) → IsShortClock q.clock → AreWhole (head_lines claim q)
heads_whole claim q few = (
  record { text = codes "retro line 1"; line_is = refl; free = refl },
  (record { text = line_claim_text claim; line_is = refl; free = claim_free claim }, query_whole q few),
)

pub head_wholly : (lines : Lines) (claim : LineClaim) (q : Asked) → AreHeadLines lines claim q → AreWhole (head_lines claim q)
head_wholly lines claim q h = heads_whole claim q (clock_short h.clock_lines q.clock h.clock_is)

claim_line_is : (line : List ℕ) (claim : LineClaim) → said line_claim_of line ≡ Some claim → line ≡ ended (line_claim_text claim)
claim_line_is line claim e = let says = said_read line_claim_of line claim e in says.line_is ∙ ap ended (spelled says.text claim says.stands)

-- a head is what is written of its claim and query
pub head_is : (lines : Lines) (claim : LineClaim) (q : Asked) → AreHeadLines lines claim q → lines ≡ head_lines claim q
unfolding fen_line spelling
head_is lines claim q h =
    let last : Lines = ended (codes "fen " ++ spelling q) ∷ [] in
    h.parts
    ∙ ap (λ (l : List ℕ). format_line ∷ l ∷ ((h.odds_lines ++ h.clock_lines) ++ h.fen_line ∷ [])) (claim_line_is h.claim_line claim h.claim_is)
    ∙ ap (λ (l : List ℕ). format_line ∷ ended (line_claim_text claim) ∷ ((h.odds_lines ++ h.clock_lines) ++ l ∷ [])) (query_read h.fen_line (record q { odds = no_odds; clock = None }) h.query_is).line_is
    ∙ ap (λ (ls : Lines). format_line ∷ ended (line_claim_text claim) ∷ (ls ++ last)) (demands_are h.odds_lines h.clock_lines q h.odds_are h.clock_is)

-- no move is barred in the query of a head
pub head_plain : (bytes : List ℕ) (claim : LineClaim) (q : Asked) → IsHead bytes claim q → q.barred ≡ None
head_plain bytes claim q h = (query_read h.fen_line (record q { odds = no_odds; clock = None }) h.query_is).plain

pub head_lined : (bytes : List ℕ) (claim : LineClaim) (q : Asked) → IsHead bytes claim q → HasLine claim
head_lined bytes claim q h = let says = said_read line_claim_of h.claim_line claim h.claim_is in written says.text claim says.stands

-- lines that begin bytes are cut off again

pub cut_front : (lines : Lines) (rest : List ℕ) → AreWhole lines → cut (concat lines ++ rest) ≡ lines ++ cut rest
cut_front [] rest whole = refl
cut_front (line ∷ lines) rest whole =
    let l = whole.0 in
    let others : List ℕ = concat lines ++ rest in
    ap cut (append_assoc line (concat lines) rest) ∙ ap (λ (t : List ℕ). cut (t ++ others)) l.line_is ∙ cut_line l.text others l.free ∙ ap (λ (t : List ℕ). t ∷ cut others) (sym l.line_is)
    ∙ ap (λ (ls : Lines). line ∷ ls) (cut_front lines rest whole.1)

pub head_bytes : (head : List ℕ) (claim : LineClaim) (q : Asked) → IsHead head claim q → head ≡ concat (head_lines claim q)
head_bytes head claim q h = sym (concat_cut head) ∙ ap concat (head_is (cut head) claim q h)

pub cut_head : (head rest : List ℕ) (claim : LineClaim) (q : Asked) → IsHead head claim q → cut (head ++ rest) ≡ cut head ++ cut rest
cut_head head rest claim q h =
    ap (λ (l : List ℕ). cut (l ++ rest)) (head_bytes head claim q h) ∙ cut_front (head_lines claim q) rest (head_wholly (cut head) claim q h) ∙ ap (λ (ls : Lines). ls ++ cut rest) (sym (head_is (cut head) claim q h))

-- how long a head is

odds_size : (lines : Lines) (odds : List Bool) → IsSaid odds_line no_odds lines odds → length (concat lines) ≤ 22
odds_size [] odds none = omega arith
odds_size (line ∷ []) odds e = omega (arith, line_short odds_line 21 line odds (λ text. odds_text_short text odds) e, length-append line [])
odds_size (line ∷ other ∷ lines) odds e = absurd e

clock_text_short : (text : List ℕ) (clock : Option ℕ) → clock_demand text ≡ Some clock → length text ≤ 10
clock_text_short text clock e =
    let m = mapped_some (λ (n : ℕ). Some n) (clock_line text) clock e in
    let read = clock_read text m.0 m.1 in
    let few = read.short in
    omega (arith, ap length read.text_is, length-decimal-le 4 m.0 (omega arith) (omega arith) (omega arith))

clock_size : (lines : Lines) (clock : Option ℕ) → IsSaid clock_demand None lines clock → length (concat lines) ≤ 11
clock_size [] clock none = omega arith
clock_size (line ∷ []) clock e = omega (arith, line_short clock_demand 10 line clock (λ text. clock_text_short text clock) e, length-append line [])
clock_size (line ∷ other ∷ lines) clock e = absurd e

pub head_short : (bytes : List ℕ) (claim : LineClaim) (q : Asked) → IsHead bytes claim q → length bytes ≤ 271
head_short bytes claim q h =
    let demands : Lines = h.odds_lines ++ h.clock_lines in
    let whole : bytes ≡ format_line ++ (h.claim_line ++ concat (demands ++ h.fen_line ∷ [])) = sym (concat_cut bytes) ∙ ap concat h.parts in
    omega (
      arith,
      ap length whole,
      length-append h.claim_line (concat (demands ++ h.fen_line ∷ [])),
      ap length (concat-append demands (h.fen_line ∷ [])),
      length-append (concat demands) (h.fen_line ++ []),
      length-append h.fen_line [],
      ap length (concat-append h.odds_lines h.clock_lines),
      length-append (concat h.odds_lines) (concat h.clock_lines),
      line_short line_claim_of 138 h.claim_line claim (λ text. short text claim) h.claim_is,
      odds_size h.odds_lines q.odds h.odds_are,
      clock_size h.clock_lines q.clock h.clock_is,
      line_short query_of 85 h.fen_line (record q { odds = no_odds; clock = None }) (λ text. query_text_short text (record q { odds = no_odds; clock = None })) h.query_is,
    )

-- what is written of a claim that has a line and of a query is their head
head_written : (claim : LineClaim) (q : Asked) → line_claim_of (line_claim_text claim) ≡ Some claim → IsSaid odds_line no_odds (lines_of_odds q.odds) q.odds → IsSaid clock_demand None (lines_of_clock q.clock) q.clock → said query_of (ended (codes "fen " ++ spelling q)) ≡ Some (record q { odds = no_odds; clock = None }) → AreHeadLines (head_lines claim q) claim q
head_written claim q read odds clock fen = record {
  claim_line = ended (line_claim_text claim);
  odds_lines = lines_of_odds q.odds;
  clock_lines = lines_of_clock q.clock;
  fen_line = ended (codes "fen " ++ spelling q);
  parts = refl;
  claim_is = said_back line_claim_of (line_claim_text claim) claim read;
  odds_are = odds;
  clock_is = clock;
  query_is = fen;
}

-- the lines of the format, of the claim and of the query, put one after another, are the head
pub head_put : (claim : LineClaim) (q : Asked) (a b c d : List ℕ) → line_claim_of (line_claim_text claim) ≡ Some claim → IsSaid odds_line no_odds (lines_of_odds q.odds) q.odds → IsSaid clock_demand None (lines_of_clock q.clock) q.clock → said query_of (ended (codes "fen " ++ spelling q)) ≡ Some (record q { odds = no_odds; clock = None }) → a ≡ [] → b ≡ a ++ format_line → c ≡ b ++ ended (line_claim_text claim) → d ≡ c ++ concat (query_lines q) → IsHead d claim q
head_put claim q a b c d read odds clock fen none first second third =
    let named : List ℕ = ended (line_claim_text claim) in
    let below : List ℕ = concat (query_lines q) in
    let is : d ≡ concat (head_lines claim q) = third ∙ ap (λ (l : List ℕ). l ++ below) (second ∙ ap (λ (l : List ℕ). l ++ named) (first ∙ ap (λ (l : List ℕ). l ++ format_line) none)) ∙ append_assoc format_line named below in
    let whole : AreWhole (head_lines claim q) = heads_whole claim q (clock_short (lines_of_clock q.clock) q.clock clock) in
    subst (λ (ls : Lines). AreHeadLines ls claim q) (sym (ap cut is ∙ cut_back (head_lines claim q) whole)) (head_written claim q read odds clock fen)
