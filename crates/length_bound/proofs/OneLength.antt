-- What is said has one text, a text says one thing, and there is one answer to it.
use Rattle.std.proofs.Common.{◌≡◌, ℕ, Bool, List, [], ◌∷◌, ◌++◌, length, Some, None, refl, sym, ap, ◌∙◌, subst, arith}
use Rattle.std.proofs.lemmas.Option.{same_Some}
use Rattle.board_base.specs.Board.{no_odds}
use Rattle.board_base.specs.Potentials.{Duals}
use Rattle.board_base.specs.declared.men.Colour.{Colour}
use Rattle.general_lemmas.proofs.Lists.{same_first, same_rest}
use Rattle.query_base.specs.Asked.{Asked}
use Rattle.fen_text.specs.OddsLines.{odds_line}
use Rattle.fen_text.proofs.OddsTexts.{line_read}
use Rattle.cert_text.specs.Certificate.{Lines, query_of}
use Rattle.cert_text.specs.Lines.{ended, said}
use Rattle.cert_text.proofs.FenLines.{query_read}
use Rattle.cert_text.proofs.OneFault.{bad-no_text, line_one}
use Rattle.cert_text.proofs.SpelledLines.{said_read}
use Rattle.length_bound.specs.LengthText.{AreLengthLines, AreOddsLines, at_least_of, length_head, shown_by}
use Rattle.length_bound.specs.LengthAnswers.{AnswersLength, IsShown, LengthAnswer, at_least, bad_text, unsupported}
use Rattle.length_bound.specs.declared.texts.LengthText.{LengthText}
use Rattle.length_bound.proofs.LineTexts.{at_least_read, shown_read}

-- one text

odds_one : (a b : Lines) (o : List Bool) → AreOddsLines a o → AreOddsLines b o → a ≡ b
odds_one [] [] o p q = refl
odds_one [] (l ∷ []) o p q = let s = said_read odds_line l o q in absurd ((line_read s.text o s.stands).some p)
odds_one [] (l ∷ m ∷ ls) o p never = absurd never
odds_one (k ∷ []) [] o p q = let s = said_read odds_line k o p in absurd ((line_read s.text o s.stands).some q)
odds_one (k ∷ []) (l ∷ []) o p q =
    let s = said_read odds_line k o p in
    let t = said_read odds_line l o q in
    ap (λ (x : List ℕ). x ∷ []) (s.line_is ∙ ap ended ((line_read s.text o s.stands).text_is ∙ sym (line_read t.text o t.stands).text_is) ∙ sym t.line_is)
odds_one (k ∷ []) (l ∷ m ∷ ls) o p never = absurd never
odds_one (k ∷ j ∷ ks) b o never q = absurd never

at_least_one : (a b : List ℕ) (n : ℕ) → said at_least_of a ≡ Some n → said at_least_of b ≡ Some n → a ≡ b
at_least_one a b n p q =
    let s = said_read at_least_of a n p in
    let t = said_read at_least_of b n q in
    s.line_is ∙ ap ended ((at_least_read s.text n s.stands).text_is ∙ sym (at_least_read t.text n t.stands).text_is) ∙ sym t.line_is

shown_one : (a b : List ℕ) (x : Colour × Duals) → said shown_by a ≡ Some x → said shown_by b ≡ Some x → a ≡ b
shown_one a b x p q =
    let s = said_read shown_by a x p in
    let t = said_read shown_by b x q in
    s.line_is ∙ ap ended ((shown_read s.text x s.stands).text_is ∙ sym (shown_read t.text x t.stands).text_is) ∙ sym t.line_is

pub one_text : (a b : Lines) (text : LengthText) → AreLengthLines a text → AreLengthLines b text → a ≡ b
one_text a b text p q =
    let fens : p.fen_line ≡ q.fen_line = (query_read p.fen_line (record text.query { odds = no_odds }) p.query).line_is ∙ sym (query_read q.fen_line (record text.query { odds = no_odds }) q.query).line_is in
    p.parts ∙ ap (λ (o : Lines). length_head ∷ (o ++ p.fen_line ∷ p.at_least_line ∷ p.moves_line ∷ [])) (odds_one p.odds_lines q.odds_lines text.query.odds p.odds q.odds)
    ∙ ap (λ (l : List ℕ). length_head ∷ (q.odds_lines ++ l ∷ p.at_least_line ∷ p.moves_line ∷ [])) fens
    ∙ ap (λ (l : List ℕ). length_head ∷ (q.odds_lines ++ q.fen_line ∷ l ∷ p.moves_line ∷ [])) (at_least_one p.at_least_line q.at_least_line text.at_least p.at_least q.at_least)
    ∙ ap (λ (l : List ℕ). length_head ∷ (q.odds_lines ++ q.fen_line ∷ q.at_least_line ∷ l ∷ [])) (shown_one p.moves_line q.moves_line (text.side, text.potentials) p.moves q.moves) ∙ sym q.parts

-- one thing said

record SameLines (a b : Lines) (o p : List Bool) (k l i j m n : List ℕ) : Type 0 where
  odds : o ≡ p
  first : k ≡ l
  second : i ≡ j
  third : m ≡ n

same_lines : (a b : Lines) (o p : List Bool) (k l i j m n : List ℕ) → AreOddsLines a o → AreOddsLines b p → a ++ k ∷ i ∷ m ∷ [] ≡ b ++ l ∷ j ∷ n ∷ [] → SameLines a b o p k l i j m n
same_lines [] [] o p k l i j m n x y e = record { odds = x ∙ sym y; first = same_first e; second = same_first (same_rest e); third = same_first (same_rest (same_rest e)) }
same_lines [] (c ∷ []) o p k l i j m n x y e = absurd (let size = ap length e in omega arith)
same_lines [] (c ∷ d ∷ ls) o p k l i j m n x never e = absurd never
same_lines (c ∷ []) [] o p k l i j m n x y e = absurd (let size = ap length e in omega arith)
same_lines (c ∷ []) (d ∷ []) o p k l i j m n x y e = record {
  odds = same_Some o p (sym x ∙ ap (said odds_line) (same_first e) ∙ y);
  first = same_first (same_rest e);
  second = same_first (same_rest (same_rest e));
  third = same_first (same_rest (same_rest (same_rest e)));
}
same_lines (c ∷ []) (d ∷ f ∷ ls) o p k l i j m n x never e = absurd never
same_lines (c ∷ d ∷ ls) b o p k l i j m n never y e = absurd never

same_query : (q r : Asked) → q.odds ≡ r.odds → record q { odds = no_odds } ≡ record r { odds = no_odds } → q ≡ r
same_query q r odds rest = ap (λ (a : Asked). record a { odds = q.odds }) rest ∙ ap (λ (o : List Bool). record r { odds = o }) odds

pub one_said : (lines : Lines) (s t : LengthText) → AreLengthLines lines s → AreLengthLines lines t → s ≡ t
one_said lines s t p q =
    let same : SameLines p.odds_lines q.odds_lines s.query.odds t.query.odds p.fen_line q.fen_line p.at_least_line q.at_least_line p.moves_line q.moves_line =
    same_lines p.odds_lines q.odds_lines s.query.odds t.query.odds p.fen_line q.fen_line p.at_least_line q.at_least_line p.moves_line q.moves_line p.odds q.odds (same_rest (sym p.parts ∙ q.parts)) in
    let query : s.query ≡ t.query = same_query s.query t.query same.odds (same_Some (record s.query { odds = no_odds }) (record t.query { odds = no_odds }) (sym p.query ∙ ap (said query_of) same.first ∙ q.query)) in
    let number : s.at_least ≡ t.at_least = same_Some s.at_least t.at_least (sym p.at_least ∙ ap (said at_least_of) same.second ∙ q.at_least) in
    let shown : (s.side, s.potentials) ≡ (t.side, t.potentials) = same_Some (s.side, s.potentials) (t.side, t.potentials) (sym p.moves ∙ ap (said shown_by) same.third ∙ q.moves) in
    λ i. record { query = query i; at_least = number i; side = (shown i).0; potentials = (shown i).1 }

-- FEN has no word for a barred move
pub no_bar : (lines : Lines) (text : LengthText) → AreLengthLines lines text → text.query.barred ≡ None
no_bar lines text p = (query_read p.fen_line (record text.query { odds = no_odds }) p.query).plain

-- one answer

shown_alike : (lines : Lines) (s t : LengthText) → AreLengthLines lines s → AreLengthLines lines t → IsShown s → IsShown t
shown_alike lines s t p q shown = subst IsShown (one_said lines s t p q) shown

pub one_answer : (lines : Lines) (a b : LengthAnswer) → AnswersLength lines a → AnswersLength lines b → a ≡ b
one_answer lines (bad_text m) (bad_text n) p q = ap bad_text (line_one AreLengthLines lines m n p q)
one_answer lines (bad_text m) unsupported p (t, are, other) = absurd (bad-no_text AreLengthLines lines m t p are)
one_answer lines (bad_text m) (at_least n q) p (t, are, shown, number, query) = absurd (bad-no_text AreLengthLines lines m t p are)
one_answer lines unsupported (bad_text n) (s, are, other) q = absurd (bad-no_text AreLengthLines lines n s q are)
one_answer lines unsupported unsupported p q = refl
one_answer lines unsupported (at_least n q) (s, are, other) (t, too, shown, number, query) = absurd (other (shown_alike lines t s too are shown))
one_answer lines (at_least m p) (bad_text n) (s, are, shown, number, query) q = absurd (bad-no_text AreLengthLines lines n s q are)
one_answer lines (at_least m p) unsupported (s, are, shown, number, query) (t, too, other) = absurd (other (shown_alike lines s t are too shown))
one_answer lines (at_least m p) (at_least n q) (s, are, shown, m-is, p-is) (t, too, seen, n-is, q-is) =
    let same : s ≡ t = one_said lines s t are too in
    let numbers : m ≡ n = sym m-is ∙ ap (λ (x : LengthText). x.at_least) same ∙ n-is in
    let queries : p ≡ q = sym p-is ∙ ap (λ (x : LengthText). x.query) same ∙ q-is in
    ap (λ (k : ℕ). at_least k p) numbers ∙ ap (at_least n) queries
