-- The text of a length, as it is written.
use Rattle.std.proofs.Common.{◌≡◌, ℕ, ◌≤◌, List, [], ◌∷◌, ◌++◌, Option, Some, None, refl, sym, ap, ◌∙◌, subst, append-nil, append_assoc}
use Rattle.std.specs.Prelude.{codes}
use Rattle.std.specs.Fmt.{decimal}
use Rattle.std.specs.List.{concat}
use Rattle.std.proofs.lemmas.List.Folds.{concat-append}
use Rattle.board_base.specs.Board.{no_odds}
use Rattle.query_base.specs.Asked.{IsShortClock}
use Rattle.fen_text.specs.OddsLines.{odds_line}
use Rattle.fen_text.specs.Spelling.{spelling}
use Rattle.cert_text.specs.Certificate.{IsSaid, Lines, lines_of_clock, lines_of_odds, query_lines, query_of}
use Rattle.cert_text.specs.Lines.{cut, ended, said}
use Rattle.cert_text.proofs.HeadTexts.{query_whole}
use Rattle.cert_text.proofs.SpelledLines.{said_back}
use Rattle.cert_text.proofs.TreeTexts.{AreWhole, cut_back, whole_both}
use Rattle.length_bound.specs.LengthReading.{moves_text}
use Rattle.length_bound.specs.LengthText.{AreLengthLines, at_least_of, length_head, shown_by}
use Rattle.length_bound.specs.ManDuals.{AreManPotentials}
use Rattle.length_bound.specs.declared.texts.LengthText.{LengthText}
use Rattle.length_bound.proofs.LineTexts.{at_least_back, at_least_free, moves_free, shown_back}
use Rattle.length_bound.proofs.NearDuals.{duals_near}

abbrev fen_line : LengthText → List ℕ
fen_line t = ended (codes "fen " ++ spelling t.query)

abbrev at_least_line : LengthText → List ℕ
at_least_line t = ended (codes "atleast " ++ decimal t.at_least)

abbrev moves_line : LengthText → List ℕ
moves_line t = ended (moves_text t.side t.potentials)

-- the lines of the text
abbrev length_lines : LengthText → Lines
length_lines t = length_head ∷ (query_lines t.query ++ at_least_line t ∷ moves_line t ∷ [])

-- what is known of the parts
pub record IsWritable (t : LengthText) : Type 0 where
  pub free : t.query.clock ≡ None
  pub odds : IsSaid odds_line no_odds (lines_of_odds t.query.odds) t.query.odds
  pub fen : said query_of (fen_line t) ≡ Some (record t.query { odds = no_odds; clock = None })
  pub small : t.at_least ≤ 9999
  pub potentials : AreManPotentials t.potentials

-- where no clock is demanded, a query has no line of the clock
no_clock_line : (t : LengthText) (rest : Lines) → t.query.clock ≡ None → query_lines t.query ++ rest ≡ lines_of_odds t.query.odds ++ fen_line t ∷ rest
no_clock_line t rest free =
    let odds : Lines = lines_of_odds t.query.odds in
    ap (λ (k : Option ℕ). ((odds ++ lines_of_clock k) ++ fen_line t ∷ []) ++ rest) free ∙ ap (λ (ls : Lines). (ls ++ fen_line t ∷ []) ++ rest) (append-nil odds) ∙ append_assoc odds (fen_line t ∷ []) rest

are_lines : (t : LengthText) → IsWritable t → AreLengthLines (length_lines t) t
are_lines t w = record {
  odds_lines = lines_of_odds t.query.odds;
  fen_line = fen_line t;
  at_least_line = at_least_line t;
  moves_line = moves_line t;
  parts = ap (λ (ls : Lines). length_head ∷ ls) (no_clock_line t (at_least_line t ∷ moves_line t ∷ []) w.free);
  odds = w.odds;
  query = w.fen ∙ ap (λ (k : Option ℕ). Some (record t.query { odds = no_odds; clock = k })) (sym w.free);
  at_least = said_back at_least_of (codes "atleast " ++ decimal t.at_least) t.at_least (at_least_back t.at_least w.small);
  moves = said_back shown_by (moves_text t.side t.potentials) (t.side, t.potentials) (shown_back t.side t.potentials (duals_near t.potentials w.potentials));
}

-- each line has its end
lines_whole : (t : LengthText) → IsWritable t → AreWhole (length_lines t)
lines_whole t w =
    let last : AreWhole (at_least_line t ∷ moves_line t ∷ []) = (
      record { text = codes "atleast " ++ decimal t.at_least; line_is = refl; free = at_least_free t.at_least w.small },
      (record { text = moves_text t.side t.potentials; line_is = refl; free = moves_free t.side t.potentials (duals_near t.potentials w.potentials) }, tt),
    ) in (
      record { text = codes "retro length 1"; line_is = refl; free = refl },
      whole_both (query_lines t.query) (at_least_line t ∷ moves_line t ∷ []) (query_whole t.query (subst IsShortClock (sym w.free) tt)) last,
    )

-- what is put one after another
put : (t : LengthText) (a b c d e : List ℕ) → a ≡ [] → b ≡ a ++ length_head → c ≡ b ++ concat (query_lines t.query) → d ≡ c ++ at_least_line t → e ≡ d ++ moves_line t → e ≡ concat (length_lines t)
put t a b c d e none first second third fourth =
    let query : List ℕ = concat (query_lines t.query) in
    let at_least : List ℕ = at_least_line t in
    let moves : List ℕ = moves_line t in
    fourth ∙ ap (λ (l : List ℕ). l ++ moves) (third ∙ ap (λ (l : List ℕ). l ++ at_least) (second ∙ ap (λ (l : List ℕ). l ++ query) (first ∙ ap (λ (l : List ℕ). l ++ length_head) none)))
    ∙ append_assoc (length_head ++ query) at_least moves ∙ append_assoc length_head query (at_least ++ moves) ∙ ap (λ (l : List ℕ). length_head ++ (query ++ (at_least ++ l))) (sym (append-nil moves))
    ∙ ap (λ (l : List ℕ). length_head ++ l) (sym (concat-append (query_lines t.query) (at_least ∷ moves ∷ [])))

-- what was written one after another is the text
pub written : (t : LengthText) (a b c d e : List ℕ) → IsWritable t → a ≡ [] → b ≡ a ++ length_head → c ≡ b ++ concat (query_lines t.query) → d ≡ c ++ at_least_line t → e ≡ d ++ moves_line t → AreLengthLines (cut e) t
written t a b c d e w none first second third fourth =
    let is : e ≡ concat (length_lines t) = put t a b c d e none first second third fourth in
    subst (λ (ls : Lines). AreLengthLines ls t) (sym (ap cut is ∙ cut_back (length_lines t) (lines_whole t w))) (are_lines t w)
