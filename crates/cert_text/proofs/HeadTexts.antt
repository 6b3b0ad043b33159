-- The lines of a head and their texts.
use Rattle.std.proofs.Common.{◌≡◌, ◌≢◌, ℕ, ◌+◌, Bool, true, false, cond, List, [], ◌∷◌, ◌++◌, length, Option, Some, None, refl, sym, ap, ◌∙◌, subst, inl, inr, arith, append_assoc, length-append}
use Rattle.std.specs.Prelude.{codes}
use Rattle.std.specs.List.{concat}
use Rattle.std.specs.Option.{option_map}
use Rattle.std.specs.Str.{bytes_eq}
use Rattle.std.proofs.lemmas.List.{append-nil}
use Rattle.std.proofs.lemmas.List.Folds.{concat-append}
use Rattle.std.proofs.lemmas.Bool.{cases_Bool, cond-true, cond-false}
use Rattle.std.proofs.lemmas.Slice.Eq.{bytes_eq-Decides}
use Rattle.board_base.specs.Board.{AreOdds, no_odds}
use Rattle.board_base.specs.SameSets.{sets_decide}
use Rattle.query_base.specs.Asked.{Asked, IsShortClock}
use Rattle.query_base.specs.declared.claims.Claim.{Claim}
use Rattle.fen_text.specs.ClockLines.{clock_line, clock_text}
use Rattle.fen_text.specs.OddsLines.{is_no_odds, odds_line, odds_text}
use Rattle.fen_text.specs.Parts.{Free}
use Rattle.fen_text.specs.Spelling.{spelling}
use Rattle.fen_text.proofs.ClockTexts.{clock_back, clock_read}
use Rattle.fen_text.proofs.HexTexts.{set_free}
use Rattle.fen_text.proofs.OddsTexts.{line_read, odds_back}
use Rattle.cert_text.specs.Lines.{cut, ended, said}
use Rattle.cert_text.specs.Certificate.{AreHeadLines, IsSaid, Lines, clock_demand, demand_lines, format_for, format_of, lines_of_clock, lines_of_odds, query_lines, root_at}
use Rattle.cert_text.specs.ClaimLines.{claim_text}
use Rattle.cert_text.specs.Writable.{IsQuery, is_written}
use Rattle.cert_text.specs.Written.{format_text, head_lines}
use Rattle.cert_text.specs.declared.heads.Format.{Format}
use Rattle.cert_text.specs.declared.heads.Format.TheVariants.{One, Two}
use Rattle.cert_text.proofs.ClaimTexts.{claim_back, claim_free, claim_read}
use Rattle.cert_text.proofs.FenLines.{fen_line, query_back, query_read}
use Rattle.cert_text.proofs.Frees.{decimal_free, spelling_free}
use Rattle.cert_text.proofs.SpelledLines.{said_back, said_read}
use Rattle.cert_text.proofs.TreeTexts.{AreWhole, cut_back, whole_both}
use Rattle.board_base.proofs.TextLemmas.{mapped_some}

-- the format

format_back : (f : Format) → said format_of (ended (format_text f)) ≡ Some f
unfolding format_of
format_back One = said_back format_of (codes "retro 1") One refl
format_back Two = said_back format_of (codes "retro 2") Two refl

format_free : (f : Format) → Free 10 (format_text f)
format_free One = refl
format_free Two = refl

format_named : (a b : Bool) (text : List ℕ) (f : Format) → bytes_eq text (codes "retro 1") ≡ a → bytes_eq text (codes "retro 2") ≡ b → cond a (Some One) (cond b (Some Two) None) ≡ Some f → text ≡ format_text f
format_named true b text One is other e = (bytes_eq-Decides text (codes "retro 1")).0 is
format_named true b text Two is other e = cc
format_named false true text One is other e = cc
format_named false true text Two is other e = (bytes_eq-Decides text (codes "retro 2")).0 other
format_named false false text f is other e = cc

pub format_text_read : (text : List ℕ) (f : Format) → format_of text ≡ Some f → text ≡ format_text f
unfolding format_of
format_text_read text f e = format_named (bytes_eq text (codes "retro 1")) (bytes_eq text (codes "retro 2")) text f refl refl e

format_read : (line : List ℕ) (f : Format) → said format_of line ≡ Some f → line ≡ ended (format_text f)
format_read line f e = let says = said_read format_of line f e in says.line_is ∙ ap ended (format_text_read says.text f says.stands)

-- the odds

odds_said : (odds : List Bool) → AreOdds odds → odds ≢ no_odds → said odds_line (ended (odds_text odds)) ≡ Some odds
odds_said odds are some = said_back odds_line (odds_text odds) odds (odds_back odds are some)

odds-at : (b : Bool) (odds : List Bool) → is_no_odds odds ≡ b → AreOdds odds → IsSaid odds_line no_odds (cond b [] (ended (odds_text odds) ∷ [])) odds
odds-at true odds is are = (sets_decide odds no_odds).0 is
odds-at false odds is are = odds_said odds are (λ none. let same = (sets_decide odds no_odds).1 none in cc)

pub odds_written : (odds : List Bool) → AreOdds odds → IsSaid odds_line no_odds (lines_of_odds odds) odds
odds_written odds are = odds-at (is_no_odds odds) odds refl are

odds_free : (odds : List Bool) → Free 10 (odds_text odds)
odds_free odds = set_free 10 odds (omega arith)

odds_whole : (b : Bool) (odds : List Bool) → AreWhole (cond b [] (ended (odds_text odds) ∷ []))
odds_whole true odds = tt
odds_whole false odds = (record { text = odds_text odds; line_is = refl; free = odds_free odds }, tt)

pub no_odds_line : (odds : List Bool) → odds ≡ no_odds → lines_of_odds odds ≡ []
no_odds_line odds none = cond-true (is_no_odds odds) [] (ended (odds_text odds) ∷ []) ((sets_decide odds no_odds).1 none)

pub some_odds_line : (odds : List Bool) → odds ≢ no_odds → lines_of_odds odds ≡ ended (odds_text odds) ∷ []
some_odds_line odds some = elim (cases_Bool (is_no_odds odds)) [
  | inl none ↦ absurd (some ((sets_decide odds no_odds).0 none))
  | inr is ↦ cond-false (is_no_odds odds) [] (ended (odds_text odds) ∷ []) is
]

-- the bytes of the line of odds
pub odds_bytes : (odds : List Bool) → odds ≢ no_odds → concat (lines_of_odds odds) ≡ ended (odds_text odds)
odds_bytes odds some = ap concat (some_odds_line odds some) ∙ append-nil (ended (odds_text odds))

odds_lines_are : (lines : Lines) (odds : List Bool) → IsSaid odds_line no_odds lines odds → lines ≡ lines_of_odds odds
odds_lines_are [] odds none = sym (no_odds_line odds none)
odds_lines_are (line ∷ []) odds e =
    let says = said_read odds_line line odds e in
    let read = line_read says.text odds says.stands in
    ap (λ (l : List ℕ). l ∷ []) (says.line_is ∙ ap ended read.text_is) ∙ sym (some_odds_line odds read.some)
odds_lines_are (line ∷ other ∷ lines) odds e = absurd e

-- the clock

pub clock_written : (clock : Option ℕ) → IsShortClock clock → IsSaid clock_demand None (lines_of_clock clock) clock
clock_written None short = refl
clock_written (Some n) short = said_back clock_demand (clock_text n) (Some n) (ap (option_map (λ k. Some k)) (clock_back n short))

clock_whole : (clock : Option ℕ) → IsShortClock clock → AreWhole (lines_of_clock clock)
clock_whole None short = tt
clock_whole (Some n) short = (record { text = clock_text n; line_is = refl; free = decimal_free n (omega arith) }, tt)

clock_lines_are : (lines : Lines) (clock : Option ℕ) → IsSaid clock_demand None lines clock → lines ≡ lines_of_clock clock
clock_lines_are [] clock none = ap lines_of_clock (sym none)
clock_lines_are (line ∷ []) clock e =
    let says = said_read clock_demand line clock e in
    let m = mapped_some (λ (n : ℕ). Some n) (clock_line says.text) clock says.stands in
    ap (λ (l : List ℕ). l ∷ []) (says.line_is ∙ ap ended (clock_read says.text m.0 m.1).text_is) ∙ ap lines_of_clock m.2
clock_lines_are (line ∷ other ∷ lines) clock e = absurd e

-- both

-- there is no line where nothing is demanded, and no clock and no odds are demanded where there is no line
pub nothing_demanded : (q : Asked) → q.odds ≡ no_odds → q.clock ≡ None → demand_lines q ≡ []
nothing_demanded q odds clock =
    ap (λ (ls : Lines). ls ++ lines_of_clock q.clock) (no_odds_line q.odds odds) ∙ ap lines_of_clock clock

no_clock_line : (clock : Option ℕ) → lines_of_clock clock ≡ [] → clock ≡ None
no_clock_line None e = refl
no_clock_line (Some n) e = absurd cc

pub no_lines : (q : Asked) → demand_lines q ≡ [] → (q.odds ≡ no_odds) × (q.clock ≡ None)
no_lines q e = elim (cases_Bool (is_no_odds q.odds)) [
  | inl none ↦
      let odds = (sets_decide q.odds no_odds).0 none in
      (odds, no_clock_line q.clock (sym (ap (λ (ls : Lines). ls ++ lines_of_clock q.clock) (no_odds_line q.odds odds)) ∙ e))
  | inr some ↦
      let first : ended (odds_text q.odds) ∷ lines_of_clock q.clock ≡ [] = sym (ap (λ (ls : Lines). ls ++ lines_of_clock q.clock) (cond-false (is_no_odds q.odds) [] (ended (odds_text q.odds) ∷ []) some)) ∙ e in
      absurd cc
]

pub second_format : (lines : Lines) → lines ≢ [] → format_for lines ≡ Two
second_format [] some = absurd (some refl)
second_format (line ∷ lines) some = refl

-- the lines of the demands are those of the query
pub demands_are : (odds_lines clock_lines : Lines) (q : Asked) → IsSaid odds_line no_odds odds_lines q.odds → IsSaid clock_demand None clock_lines q.clock → odds_lines ++ clock_lines ≡ demand_lines q
demands_are odds_lines clock_lines q odds clock =
    ap (λ (ls : Lines). ls ++ clock_lines) (odds_lines_are odds_lines q.odds odds) ∙ ap (λ (ls : Lines). lines_of_odds q.odds ++ ls) (clock_lines_are clock_lines q.clock clock)

-- the head

-- the root's line follows the head
pub head_count : (lines : Lines) (claim : Claim) (q : Asked) → AreHeadLines lines claim q → length lines + 1 ≡ root_at q
head_count lines claim q h =
    omega (arith, ap length h.parts, length-append (h.odds_lines ++ h.clock_lines) (h.fen_line ∷ []), ap length (demands_are h.odds_lines h.clock_lines q h.odds_are h.clock_is))

-- no move is barred in the query of a head
pub head_plain : (lines : Lines) (claim : Claim) (q : Asked) → AreHeadLines lines claim q → q.barred ≡ None
head_plain lines claim q h = (query_read h.fen_line (record q { odds = no_odds; clock = None }) h.query_is).plain

pub head_written : (lines : Lines) (claim : Claim) (q : Asked) → AreHeadLines lines claim q → is_written claim ≡ true
head_written lines claim q h = (claim_read h.claim_line claim h.claim_is).written

-- a head is what is written of its claim and query
pub head_is : (lines : Lines) (claim : Claim) (q : Asked) → AreHeadLines lines claim q → lines ≡ head_lines claim q
unfolding fen_line spelling
head_is lines claim q h =
    let demands : Lines = h.odds_lines ++ h.clock_lines in
    let last : Lines = ended (codes "fen " ++ spelling q) ∷ [] in
    h.parts
    ∙ ap (λ (l : List ℕ). l ∷ h.claim_line ∷ (demands ++ h.fen_line ∷ [])) (format_read h.format_line (format_for demands) h.format_is)
    ∙ ap (λ (l : List ℕ). ended (format_text (format_for demands)) ∷ l ∷ (demands ++ h.fen_line ∷ [])) (claim_read h.claim_line claim h.claim_is).line_is
    ∙ ap (λ (l : List ℕ). ended (format_text (format_for demands)) ∷ ended (claim_text claim) ∷ (demands ++ l ∷ [])) (query_read h.fen_line (record q { odds = no_odds; clock = None }) h.query_is).line_is
    ∙ ap (λ (ls : Lines). ended (format_text (format_for ls)) ∷ ended (claim_text claim) ∷ (ls ++ last)) (demands_are h.odds_lines h.clock_lines q h.odds_are h.clock_is)

-- what is written of a claim and a query is their head
pub head_back : (claim : Claim) (q : Asked) → is_written claim ≡ true → IsQuery q → q.barred ≡ None → AreHeadLines (head_lines claim q) claim q
unfolding fen_line
head_back claim q written known plain = record {
  format_line = ended (format_text (format_for (demand_lines q)));
  claim_line = ended (claim_text claim);
  odds_lines = lines_of_odds q.odds;
  clock_lines = lines_of_clock q.clock;
  fen_line = fen_line q;
  parts = refl;
  format_is = format_back (format_for (demand_lines q));
  claim_is = claim_back claim written;
  odds_are = odds_written q.odds known.odds;
  clock_is = clock_written q.clock known.clock;
  query_is = query_back q known.whole plain known.step;
}

-- each line of a query has its end
pub query_whole : (q : Asked) → IsShortClock q.clock → AreWhole (query_lines q)
query_whole q short =
    let demands : AreWhole (demand_lines q) = whole_both (lines_of_odds q.odds) (lines_of_clock q.clock) (odds_whole (is_no_odds q.odds) q.odds) (clock_whole q.clock short) in
    let last : AreWhole (ended (codes "fen " ++ spelling q) ∷ []) = (record { text = codes "fen " ++ spelling q; line_is = refl; free = spelling_free q }, tt) in
    whole_both (demand_lines q) (ended (codes "fen " ++ spelling q) ∷ []) demands last

-- each line of a head that is written has its end
pub head_whole : (claim : Claim) (q : Asked) → IsShortClock q.clock → AreWhole (head_lines claim q)
head_whole claim q short =
    let format : Format = format_for (demand_lines q) in (
      record { text = format_text format; line_is = refl; free = format_free format },
      (record { text = claim_text claim; line_is = refl; free = claim_free claim }, query_whole q short),
    )

-- the lines of a query, put one after another behind others
pub query_put : (q : Asked) (out odds clock now : List ℕ) → odds ≡ out ++ concat (lines_of_odds q.odds) → clock ≡ odds ++ concat (lines_of_clock q.clock) → now ≡ clock ++ ended (codes "fen " ++ spelling q) → now ≡ out ++ concat (query_lines q)
query_put q out odds clock now first second third =
    let o : List ℕ = concat (lines_of_odds q.odds) in
    let k : List ℕ = concat (lines_of_clock q.clock) in
    let last : List ℕ = ended (codes "fen " ++ spelling q) in
    let bytes : concat (query_lines q) ≡ o ++ (k ++ last) =
    concat-append (demand_lines q) (last ∷ []) ∙ ap (λ (l : List ℕ). concat (demand_lines q) ++ l) (append-nil last) ∙ ap (λ (l : List ℕ). l ++ last) (concat-append (lines_of_odds q.odds) (lines_of_clock q.clock)) ∙ append_assoc o k last in
    third ∙ ap (λ (l : List ℕ). l ++ last) (second ∙ ap (λ (l : List ℕ). l ++ k) first) ∙ append_assoc (out ++ o) k last ∙ append_assoc out o (k ++ last) ∙ ap (λ (l : List ℕ). out ++ l) (sym bytes)

-- the lines of the format, of the claim and of the query, put one after another, are the head
pub head_put : (claim : Claim) (q : Asked) (a b c d : List ℕ) → is_written claim ≡ true → IsQuery q → q.barred ≡ None → a ≡ [] → b ≡ a ++ ended (format_text (format_for (demand_lines q))) → c ≡ b ++ ended (claim_text claim) → d ≡ c ++ concat (query_lines q) → AreHeadLines (cut d) claim q
head_put claim q a b c d written known plain none first second third =
    let format : List ℕ = ended (format_text (format_for (demand_lines q))) in
    let named : List ℕ = ended (claim_text claim) in
    let below : List ℕ = concat (query_lines q) in
    let is : d ≡ concat (head_lines claim q) = third ∙ ap (λ (l : List ℕ). l ++ below) (second ∙ ap (λ (l : List ℕ). l ++ named) (first ∙ ap (λ (l : List ℕ). l ++ format) none)) ∙ append_assoc format named below in
    subst (λ (ls : Lines). AreHeadLines ls claim q) (sym (ap cut is ∙ cut_back (head_lines claim q) (head_whole claim q known.clock))) (head_back claim q written known plain)
