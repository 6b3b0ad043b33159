-- The lines of the text of a length, and where they go bad.
use Rattle.std.proofs.Common.{◌≡◌, ◌≢◌, ℕ, suc, ◌+◌, Bool, inl, inr, List, [], ◌∷◌, ◌++◌, length, length-append, refl, sym, ap, ◌∙◌, subst, arith}
use Rattle.std.specs.Prelude.{Option, Some, None, codes, pos, ℤ}
use Rattle.std.specs.Option.{option_map}
use Rattle.board_base.specs.Board.{no_men, no_odds}
use Rattle.board_base.specs.Potentials.{Duals, duals}
use Rattle.board_base.specs.declared.men.Colour.{Colour}
use Rattle.board_base.specs.declared.men.Colour.TheVariants.{White}
use Rattle.board_base.specs.Rights.{no_rights}
use Rattle.query_base.specs.Asked.{Asked}
use Rattle.fen_text.specs.OddsLines.{odds_line}
use Rattle.fen_text.specs.Fen.{fen, fen_of_four, from_turn, from_rights, from_en_passant, placement, ranks, rights}
use Rattle.fen_text.specs.Parts.{parted}
use Rattle.fen_text.specs.Ranks.{rank, places_of, is_symbol}
use Rattle.fen_text.specs.Numbers.{number}
use Rattle.cert_text.specs.Arguments.{duals_of, signed}
use Rattle.cert_text.specs.Certificate.{Lines, query_of}
use Rattle.cert_text.specs.Lines.{ended, said}
use Rattle.cert_text.specs.QueryReading.{fen_first, said_first, unless_said}
use Rattle.cert_text.specs.Texts.{IsBadAt}
use Rattle.cert_text.proofs.FenLines.{query_read}
use Rattle.cert_text.proofs.FirstLetters.{fen_begins, odds_begin}
use Rattle.cert_text.proofs.QueryReads.{Front, fen_of, front_of}
use Rattle.length_bound.specs.LengthText.{AreLengthLines, AreOddsLines, at_least_of, length_head, shown_by}
use Rattle.length_bound.specs.LengthReading.{AreAll, AreBelowHead, AreFromFen, AreLast, GoesBad, HasAtLeast, HasMoves, HasOdds, HasQuery, IsFollowed, IsOver, SayLast}
use Rattle.length_bound.specs.declared.texts.LengthText.{LengthText}
use Rattle.length_bound.proofs.Chains.{bad_first, bad_later, bad_none, bad_text}

-- some lines

abbrev some_moves : List ℕ
some_moves = ended (codes "moves w / 0 0 0 0 0 0 0 0 0 0 0 0 0 0 0 0")

abbrev sixteen_zeros : List ℤ
sixteen_zeros = pos 0 ∷ pos 0 ∷ pos 0 ∷ pos 0 ∷ pos 0 ∷ pos 0 ∷ pos 0 ∷ pos 0 ∷ pos 0 ∷ pos 0 ∷ pos 0 ∷ pos 0 ∷ pos 0 ∷ pos 0 ∷ pos 0 ∷ pos 0 ∷ []

moves_known : HasMoves some_moves
unfolding said shown_by duals_of signed number
moves_known = ((White, duals [] sixteen_zeros), refl)

some_at_least : HasAtLeast (ended (codes "atleast 0"))
unfolding said at_least_of number
some_at_least = (0, refl)

some_fen : HasQuery (ended (codes "fen 8/8/8/8/8/8/8/8 w - -"))
unfolding said query_of fen_of_four fen from_turn from_rights from_en_passant placement ranks rights rank parted places_of is_symbol
some_fen = (record { board = no_men; turn = White; odds = no_odds; held = no_rights; only = None; barred = None; clock = None }, refl)

moves_end : IsFollowed HasMoves IsOver (some_moves ∷ [])
moves_end = (moves_known, refl)

abbrev last_lines : Lines
last_lines = ended (codes "atleast 0") ∷ some_moves ∷ []

abbrev fen_lines : Lines
fen_lines = ended (codes "fen 8/8/8/8/8/8/8/8 w - -") ∷ last_lines

some_last : AreLast last_lines
some_last = (some_at_least, moves_end)

some_from_fen : AreFromFen fen_lines
some_from_fen = (some_fen, some_last)

some_below : AreBelowHead fen_lines
some_below = inl some_from_fen

-- what a line doesn't say

unsaid : {A : Type 0} (grammar : List ℕ → Option A) (line : List ℕ) → said grammar line ≡ None → (a : A) × (said grammar line ≡ Some a) → ⊥
unsaid grammar line none (a, e) = let same = sym none ∙ e in cc

-- no line is a FEN's and one of odds
not_both : (line : List ℕ) → HasQuery line → HasOdds line → ⊥
not_both line (q, is) (o, other) =
    let one = fen_begins line q is in
    let two = odds_begin line o other in omega arith

-- the last lines

pub last_1-end : (lines : Lines) → lines ≡ [] → GoesBad AreLast lines 1
last_1-end lines none = rw none (bad_none AreLast last_lines some_last (λ miss. miss))

pub last_1 : (lines : Lines) (line : List ℕ) (rest : Lines) → lines ≡ line ∷ rest → said at_least_of line ≡ None → GoesBad AreLast lines 1
last_1 lines line rest whole none = rw whole (bad_first AreLast last_lines some_last line rest (λ others good. unsaid at_least_of line none good.0))

behind_at_least : (line : List ℕ) (rest : Lines) (n k : ℕ) → said at_least_of line ≡ Some k → GoesBad (IsFollowed HasMoves IsOver) rest n → GoesBad AreLast (line ∷ rest) (suc n)
behind_at_least line rest n k is bad = bad_later AreLast (IsFollowed HasMoves IsOver) line (λ others good. ((k, is), good)) (λ others good. good.1) rest n bad

pub last_2-end : (lines : Lines) (line : List ℕ) (rest : Lines) (k : ℕ) → lines ≡ line ∷ rest → said at_least_of line ≡ Some k → rest ≡ [] → GoesBad AreLast lines 2
last_2-end lines line rest k whole is none = rw (whole, none) (behind_at_least line [] 1 k is (bad_none (IsFollowed HasMoves IsOver) (some_moves ∷ []) moves_end (λ miss. miss)))

pub last_2 : (lines : Lines) (line : List ℕ) (rest : Lines) (k : ℕ) (second : List ℕ) (others : Lines) → lines ≡ line ∷ rest → said at_least_of line ≡ Some k → rest ≡ second ∷ others → said shown_by second ≡ None → GoesBad AreLast lines 2
last_2 lines line rest k second others whole is next none =
    rw (whole, next) (behind_at_least line (second ∷ others) 1 k is (bad_first (IsFollowed HasMoves IsOver) (some_moves ∷ []) moves_end second others (λ more good. unsaid shown_by second none good.0)))

pub last_3 : (lines : Lines) (line : List ℕ) (rest : Lines) (k : ℕ) (second : List ℕ) (after : Lines) (s : Colour × Duals) (third : List ℕ) (others : Lines) → lines ≡ line ∷ rest → said at_least_of line ≡ Some k → rest ≡ second ∷ after → said shown_by second ≡ Some s → after ≡ third ∷ others → GoesBad AreLast lines 3
last_3 lines line rest k second after s third others whole is next shown more =
    let over : GoesBad IsOver (third ∷ others) 1 = bad_first IsOver [] refl third others (λ ls good. cc) in
    let later : GoesBad (IsFollowed HasMoves IsOver) (second ∷ third ∷ others) 2 = bad_later (IsFollowed HasMoves IsOver) IsOver second (λ ls good. ((s, shown), good)) (λ ls good. good.1) (third ∷ others) 1 over in
    rw (whole, next, more) (behind_at_least line (second ∷ third ∷ others) 2 k is later)

-- the lines behind the first

behind_fen : (line : List ℕ) (q : Asked) → said query_of line ≡ Some q → (rest : Lines) (n : ℕ) → GoesBad AreLast rest n → GoesBad AreBelowHead (line ∷ rest) (suc n)
behind_fen line q is rest n bad =
    bad_later AreBelowHead AreLast line (λ others good. inl ((q, is), good)) (λ others good. elim good [ inl f ↦ f.1 | inr o ↦ absurd (not_both line (q, is) o.0) ]) rest n bad

behind_odds : (line : List ℕ) (o : List Bool) → said odds_line line ≡ Some o → (rest : Lines) (n : ℕ) → GoesBad AreFromFen rest n → GoesBad AreBelowHead (line ∷ rest) (suc n)
behind_odds line o is rest n bad =
    bad_later AreBelowHead AreFromFen line (λ others good. inr ((o, is), good)) (λ others good. elim good [ inl f ↦ absurd (not_both line f.0 (o, is)) | inr p ↦ p.1 ]) rest n bad

-- behind the FEN's line the others go bad as they do by themselves
opened : (odds_lines : Lines) (fen_line : List ℕ) (plain : Asked) (odds : List Bool) (rest : Lines) (n : ℕ) → AreOddsLines odds_lines odds → said query_of fen_line ≡ Some plain → GoesBad AreLast rest n → GoesBad AreBelowHead (odds_lines ++ fen_line ∷ rest) (length odds_lines + 1 + n)
opened [] fen_line plain odds rest n none is bad = subst (GoesBad AreBelowHead (fen_line ∷ rest)) (omega arith) (behind_fen fen_line plain is rest n bad)
opened (line ∷ []) fen_line plain odds rest n named is bad =
    let later : GoesBad AreFromFen (fen_line ∷ rest) (suc n) = bad_later AreFromFen AreLast fen_line (λ others good. ((plain, is), good)) (λ others good. good.1) rest n bad in
    subst (GoesBad AreBelowHead (line ∷ fen_line ∷ rest)) (omega arith) (behind_odds line odds named (fen_line ∷ rest) (suc n) later)
opened (line ∷ more ∷ lines) fen_line plain odds rest n never is bad = absurd never

-- no FEN comes where it is due

no_fen : (line : List ℕ) (o : Option Asked) (put : Asked → Asked × Lines) → said query_of line ≡ o → option_map put o ≡ None → HasQuery line → ⊥
no_fen line None put is none query = unsaid query_of line is query
no_fen line (Some q) put is none query = absurd cc

no_fen_first : (odds : List Bool) (lines : Lines) → fen_first odds None lines ≡ None → GoesBad AreFromFen lines 1
no_fen_first odds [] none = bad_none AreFromFen fen_lines some_from_fen (λ miss. miss)
no_fen_first odds (line ∷ lines) none =
    bad_first AreFromFen fen_lines some_from_fen line lines (λ others good. no_fen line (said query_of line) (λ q. (record q { odds = odds; clock = None }, lines)) refl none good.0)

fen_due : (line : List ℕ) (after rest : Lines) (odds : List Bool) (count : ℕ) (o : Option (List Bool)) → said odds_line line ≡ o → unless_said o no_odds line after ≡ (odds, rest) → count + length rest ≡ length (line ∷ after) → fen_first odds None rest ≡ None → GoesBad AreBelowHead (line ∷ after) (count + 1)
fen_due line after rest odds count None is first counted none =
    let left : line ∷ after ≡ rest = ap (λ (p : List Bool × Lines). p.1) first in
    let here : GoesBad AreFromFen (line ∷ after) 1 = no_fen_first odds (line ∷ after) (ap (fen_first odds None) left ∙ none) in
    subst (GoesBad AreBelowHead (line ∷ after)) (omega (arith, ap length left)) (bad_first AreBelowHead fen_lines some_below line after (λ others good. elim good [
      | inl f ↦ no_fen line (said query_of line) (λ q. (record q { odds = odds; clock = None }, after)) refl (ap (fen_first odds None) left ∙ none) f.0
      | inr o ↦ unsaid odds_line line is o.0
    ]))
fen_due line after rest odds count (Some named) is first counted none =
    let left : after ≡ rest = ap (λ (p : List Bool × Lines). p.1) first in
    subst (GoesBad AreBelowHead (line ∷ after)) (omega (arith, ap length left)) (behind_odds line named is after 1 (no_fen_first odds after (ap (fen_first odds None) left ∙ none)))

pub fen_missing : (lines rest : Lines) (odds : List Bool) (count : ℕ) → said_first odds_line no_odds lines ≡ (odds, rest) → count + length rest ≡ length lines → fen_first odds None rest ≡ None → GoesBad AreBelowHead lines (count + 1)
fen_missing [] rest odds count first counted none =
    subst (GoesBad AreBelowHead []) (omega arith) (bad_none AreBelowHead fen_lines some_below (λ good. elim good [ inl miss ↦ miss | inr miss ↦ miss ]))
fen_missing (line ∷ after) rest odds count first counted none = fen_due line after rest odds count (said odds_line line) refl first counted none

-- the lines of the query

odds_taken : (lines rest : Lines) (odds : List Bool) → said_first odds_line no_odds lines ≡ (odds, rest) → Front odds_line no_odds lines odds rest
odds_taken lines rest odds first = subst (λ (p : List Bool × Lines). Front odds_line no_odds lines p.0 p.1) first (front_of odds_line no_odds lines)

pub below_later : (lines rest left : Lines) (odds : List Bool) (q : Asked) (count n : ℕ) → said_first odds_line no_odds lines ≡ (odds, rest) → count + length rest ≡ length lines → fen_first odds None rest ≡ Some (q, left) → GoesBad AreLast left n → GoesBad AreBelowHead lines (count + 1 + n)
below_later lines rest left odds q count n first counted taken bad =
    let o = odds_taken lines rest odds first in
    let f = fen_of odds None rest q left taken in
    let whole : lines ≡ o.front ++ f.fen_line ∷ left = o.parts ∙ ap (λ (ls : Lines). o.front ++ ls) f.parts in
    let number : length o.front + 1 + n ≡ count + 1 + n = omega (arith, ap length o.parts, length-append o.front rest) in
    subst (GoesBad AreBelowHead lines) number (subst (λ (ls : Lines). GoesBad AreBelowHead ls (length o.front + 1 + n)) (sym whole) (opened o.front f.fen_line (record q { odds = no_odds; clock = None }) odds left n o.is f.query_is bad))

pub below_read : (lines rest left : Lines) (odds : List Bool) (q : Asked) (n : ℕ) (side : Colour) (d : Duals) → said_first odds_line no_odds lines ≡ (odds, rest) → fen_first odds None rest ≡ Some (q, left) → SayLast left n side d → AreLengthLines (length_head ∷ lines) (record { query = q; at_least = n; side = side; potentials = d })
below_read lines rest left odds q n side d first taken last =
    let o = odds_taken lines rest odds first in
    let f = fen_of odds None rest q left taken in
    record {
      odds_lines = o.front;
      fen_line = f.fen_line;
      at_least_line = last.at_least_line;
      moves_line = last.moves_line;
      parts = ap (λ (ls : Lines). length_head ∷ ls) (o.parts ∙ ap (λ (ls : Lines). o.front ++ ls) (f.parts ∙ ap (λ (ls : Lines). f.fen_line ∷ ls) last.parts));
      odds = subst (AreOddsLines o.front) f.odds_are o.is;
      query = f.query_is ∙ ap (λ (clock : Option ℕ). Some (record q { odds = no_odds; clock = clock })) f.clock_is;
      at_least = last.at_least;
      moves = last.moves;
    }

-- all lines

-- a FEN names no odds
plain_of : (line : List ℕ) (plain : Asked) (odds : List Bool) → said query_of line ≡ Some plain → plain ≡ record (record plain { odds = odds }) { odds = no_odds }
plain_of line plain odds is =
    let whole : plain.odds ≡ no_odds = (query_read line plain is).whole in
    λ i. record { board = plain.board; turn = plain.turn; odds = whole i; held = plain.held; only = plain.only; barred = plain.barred; clock = plain.clock }

text_with : (odds_lines : Lines) (fen_line : List ℕ) (odds : List Bool) → AreOddsLines odds_lines odds → (q : HasQuery fen_line) (rest : Lines) → AreLast rest → (text : LengthText) × AreLengthLines (length_head ∷ (odds_lines ++ fen_line ∷ rest)) text
text_with odds_lines fen_line odds named (plain, is) [] good = absurd good
text_with odds_lines fen_line odds named (plain, is) (line ∷ []) good = absurd good.1
text_with odds_lines fen_line odds named (plain, is) (line ∷ second ∷ []) ((n, counted), ((s, shown), none)) = (
  record { query = record plain { odds = odds }; at_least = n; side = s.0; potentials = s.1 },
  record {
    odds_lines = odds_lines;
    fen_line = fen_line;
    at_least_line = line;
    moves_line = second;
    parts = refl;
    odds = named;
    query = is ∙ ap (λ (a : Asked). Some a) (plain_of fen_line plain odds is);
    at_least = counted;
    moves = shown;
  },
)
text_with odds_lines fen_line odds named (plain, is) (line ∷ second ∷ third ∷ rest) (first, (shown, over)) = absurd cc

text_from_fen : (odds_lines : Lines) (odds : List Bool) → AreOddsLines odds_lines odds → (lines : Lines) → AreFromFen lines → (text : LengthText) × AreLengthLines (length_head ∷ (odds_lines ++ lines)) text
text_from_fen odds_lines odds named [] good = absurd good
text_from_fen odds_lines odds named (line ∷ rest) (q, last) = text_with odds_lines line odds named q rest last

text_below : (lines : Lines) → AreBelowHead lines → (text : LengthText) × AreLengthLines (length_head ∷ lines) text
text_below lines (inl good) = text_from_fen [] no_odds refl lines good
text_below [] (inr never) = absurd never
text_below (line ∷ rest) (inr ((o, is), good)) = text_from_fen (line ∷ []) o is rest good

all_text : (lines : Lines) → AreAll lines → (text : LengthText) × AreLengthLines lines text
all_text [] never = absurd never
all_text (line ∷ rest) (head, below) = subst (λ (l : List ℕ). (text : LengthText) × AreLengthLines (l ∷ rest) text) (sym head) (text_below rest below)

below_of : (odds_lines : Lines) (odds : List Bool) → AreOddsLines odds_lines odds → (lines : Lines) → AreFromFen lines → AreBelowHead (odds_lines ++ lines)
below_of [] odds none lines good = inl good
below_of (line ∷ []) odds named lines good = inr ((odds, named), good)
below_of (line ∷ more ∷ others) odds never lines good = absurd never

pub text_all : (lines : Lines) (text : LengthText) → AreLengthLines lines text → AreAll lines
text_all lines text t =
    subst AreAll (sym t.parts) (refl, below_of t.odds_lines text.query.odds t.odds (t.fen_line ∷ t.at_least_line ∷ t.moves_line ∷ []) ((record text.query { odds = no_odds }, t.query), ((text.at_least, t.at_least), (((text.side, text.potentials), t.moves), refl))))

as_text : (lines : Lines) (n : ℕ) → GoesBad AreAll lines n → IsBadAt AreLengthLines lines n
as_text lines n bad = bad_text AreLengthLines AreAll all_text text_all lines n bad

some_all : AreAll (length_head ∷ fen_lines)
some_all = (refl, some_below)

pub all_1-end : (lines : Lines) → lines ≡ [] → IsBadAt AreLengthLines lines 1
all_1-end lines none = as_text lines 1 (rw none (bad_none AreAll (length_head ∷ fen_lines) some_all (λ miss. miss)))

pub all_1 : (lines : Lines) (line : List ℕ) (rest : Lines) → lines ≡ line ∷ rest → line ≢ length_head → IsBadAt AreLengthLines lines 1
all_1 lines line rest whole other = as_text lines 1 (rw whole (bad_first AreAll (length_head ∷ fen_lines) some_all line rest (λ others good. other good.0)))

pub all_later : (lines : Lines) (line : List ℕ) (rest : Lines) (n : ℕ) → lines ≡ line ∷ rest → line ≡ length_head → GoesBad AreBelowHead rest n → IsBadAt AreLengthLines lines (1 + n)
all_later lines line rest n whole head bad =
    as_text lines (1 + n) (rw whole (subst (GoesBad AreAll (line ∷ rest)) (omega arith) (bad_later AreAll AreBelowHead line (λ others good. (head, good)) (λ others good. good.1) rest n bad)))

-- what was read is the text
pub all_read : (lines : Lines) (line : List ℕ) (rest : Lines) (text : LengthText) → lines ≡ line ∷ rest → line ≡ length_head → AreLengthLines (length_head ∷ rest) text → AreLengthLines lines text
all_read lines line rest text whole head below = subst (λ (ls : Lines). AreLengthLines ls text) (sym (whole ∙ ap (λ (first : List ℕ). first ∷ rest) head)) below
