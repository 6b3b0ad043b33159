-- The lines of marks, and their texts.
use Rattle.std.proofs.Common.{◌≡◌, ℕ, zero, suc, ◌+◌, ◌≤◌, ◌==◌, true, ◌&&◌, not, List, [], ◌∷◌, ◌++◌, length, drop, map, Option, Some, None, Bor, refl, sym, ap, ◌∙◌, arith, append-nil, nat_eq, nat_le}
use Rattle.std.specs.Prelude.{MatchOption, codes}
use Rattle.std.proofs.lemmas.Bool.{and_parts, and_from, cond_both, leb-true, not-true}
use Rattle.std.proofs.lemmas.List.Elements.{All-cons}
use Rattle.std.proofs.lemmas.List.Splits.{slice_split-cons_no, length-slice_split, join_with_byte-slice_split}
use Rattle.std.proofs.lemmas.Option.{option_and_then_some, same_Some}
use Rattle.std.specs.Fmt.{decimal}
use Rattle.std.specs.List.{All, join_with_byte, onto_first, starts_with}
use Rattle.std.specs.Option.{option_map, option_and_then}
use Rattle.board_base.specs.Texts.{◌>>=◌}
use Rattle.board_base.proofs.TextLemmas.{mapped_some}
use Rattle.fen_text.specs.Parts.{Free}
use Rattle.fen_text.proofs.Begun.{begun}
use Rattle.fen_text.proofs.PartLemmas.{followed, parted_next}
use Rattle.sketch_text.specs.Marks.{Marks, are_figures, figures_from, figures_text, is_mark, is_some_figure, mark_line, mark_text, marked_by, marks_of, words}
use Rattle.sketch_text.specs.Nodes.{number_within}
use Rattle.sketch_text.proofs.InRange.{Only, decimal_free, within_back, within_read}

-- words

words_at : (word rest : List ℕ) → Free 32 word → words (word ++ 32 ∷ rest) ≡ word ∷ words rest
words_at [] rest free = refl
words_at (b ∷ word) rest free =
    let parts = and_parts (not (b == 32)) _ free in
    slice_split-cons_no (λ (x : ℕ). x == 32) b (word ++ 32 ∷ rest) (not-true (b == 32) parts.0) ∙ ap (onto_first b) (words_at word rest parts.1)

words_alone : (word : List ℕ) → Free 32 word → words word ≡ word ∷ []
words_alone [] free = refl
words_alone (b ∷ word) free =
    let parts = and_parts (not (b == 32)) _ free in
    slice_split-cons_no (λ (x : ℕ). x == 32) b word (not-true (b == 32) parts.0) ∙ ap (onto_first b) (words_alone word parts.1)

-- what is left behind a word
abbrev pub left : Option (Bor (List ℕ)) → List (List ℕ)
left None = []
left (Some r) = words r.now

pub cut_left : (rest : Option (Bor (List ℕ))) (b : Bor (List ℕ)) (word : List ℕ) (after : Option (Bor (List ℕ))) → rest ≡ Some b → Free 32 word → MatchOption after (b.now ≡ word) (λ r. b.now ≡ word ++ 32 ∷ r.now) → left rest ≡ word ∷ left after
cut_left rest b word None e free cut = ap left e ∙ ap words cut ∙ words_alone word free
cut_left rest b word (Some r) e free cut = ap left e ∙ ap words cut ∙ words_at word r.now free

pub some_words : (text : List ℕ) → 1 ≤ length (words text)
some_words text = omega (arith, length-slice_split (λ (x : ℕ). x == 32) text)

-- figures

figures_back : (n least : ℕ) (figures : List ℕ) → length figures ≤ n → are_figures least figures ≡ true → figures_from n least (map decimal figures) ≡ Some figures
figures_back n least [] few known = refl
figures_back zero least (i ∷ figures) few known = absurd (omega arith)
figures_back (suc n) least (i ∷ figures) few known =
    let last = and_parts (nat_le least i && nat_le i 32) (are_figures (i + 1) figures) known in
    let both = and_parts (nat_le least i) (nat_le i 32) last.0 in
    ap (option_and_then (λ (x : ℕ). option_map (λ (more : List ℕ). x ∷ more) (figures_from n (x + 1) (map decimal figures)))) (within_back least 32 i both.0 both.1 (omega arith))
    ∙ ap (option_map (λ (more : List ℕ). i ∷ more)) (figures_back n (i + 1) figures (omega arith) last.1)

-- words are those of so many figures at most
record AreFigures (n least : ℕ) (ws : List (List ℕ)) (figures : List ℕ) : Type 0 where
  words_are : ws ≡ map decimal figures
  known : are_figures least figures ≡ true

figures_read : (n least : ℕ) (ws : List (List ℕ)) → Only (AreFigures n least ws) (figures_from n least ws)
figures_read n least [] figures e = let one : [] ≡ figures = same_Some [] figures e in record { words_are = ap (λ (l : List ℕ). map decimal l) one; known = ap (are_figures least) (sym one) }
figures_read zero least (w ∷ ws) figures e = absurd cc
figures_read (suc n) least (w ∷ ws) figures e =
    option_and_then_some (λ (i : ℕ). option_map (λ (more : List ℕ). i ∷ more) (figures_from n (i + 1) ws)) (number_within least 32 w) figures e (λ i is stands.
    let m = mapped_some (λ (more : List ℕ). i ∷ more) (figures_from n (i + 1) ws) figures stands in
    let one = within_read least 32 w i is in
    let rest = figures_read n (i + 1) ws m.0 m.1 in
    record {
      words_are = ap (λ (l : List ℕ). l ∷ ws) one.text_is ∙ ap (λ (l : List (List ℕ)). decimal i ∷ l) rest.words_are ∙ ap (λ (l : List ℕ). map decimal l) m.2;
      known = ap (are_figures least) (sym m.2) ∙ and_from _ _ (and_from _ _ one.from one.to) rest.known;
    })

-- figures ascend to 32, so there are few of them
pub few_figures : (least : ℕ) (figures : List ℕ) → are_figures least figures ≡ true → least ≤ 33 → length figures + least ≤ 33
few_figures least [] known low = omega arith
few_figures least (i ∷ figures) known low =
    let last = and_parts (nat_le least i && nat_le i 32) (are_figures (i + 1) figures) known in
    let both = and_parts (nat_le least i) (nat_le i 32) last.0 in
    let from = leb-true least i both.0 in
    let to = leb-true i 32 both.1 in
    let rest = few_figures (i + 1) figures last.1 (omega arith) in
    omega arith

-- the texts of figures, joined

words_joined : (i : ℕ) (least : ℕ) (figures : List ℕ) → i ≤ 32 → are_figures least figures ≡ true → words (join_with_byte 32 (decimal i ∷ map decimal figures)) ≡ decimal i ∷ map decimal figures
words_joined i least [] low known = words_alone (decimal i) (decimal_free 32 i (omega arith) (omega arith))
words_joined i least (j ∷ figures) low known =
    let last = and_parts (nat_le least j && nat_le j 32) (are_figures (j + 1) figures) known in
    let both = and_parts (nat_le least j) (nat_le j 32) last.0 in
    words_at (decimal i) (join_with_byte 32 (decimal j ∷ map decimal figures)) (decimal_free 32 i (omega arith) (omega arith))
    ∙ ap (λ (l : List (List ℕ)). decimal i ∷ l) (words_joined j (j + 1) figures (leb-true j 32 both.1) last.1)

behind_spaces : (i : ℕ) (figures : List ℕ) → figures_text (i ∷ figures) ≡ 32 ∷ join_with_byte 32 (map decimal (i ∷ figures))
unfolding figures_text
behind_spaces i [] = ap (λ (l : List ℕ). 32 ∷ l) (append-nil (decimal i))
behind_spaces i (j ∷ figures) = ap (λ (l : List ℕ). 32 ∷ (decimal i ++ l)) (behind_spaces j figures)

-- lines of marks

abbrev marks_as : ℕ → List ℕ → Marks
marks_as k figures = record { by = k; figures = figures }

marks_back : (P k i : ℕ) (figures : List ℕ) → P ≤ 64 → nat_le 1 k ≡ true → nat_le k P ≡ true → are_figures 1 (i ∷ figures) ≡ true → marks_of P (decimal k ++ figures_text (i ∷ figures)) ≡ Some (marks_as k (i ∷ figures))
unfolding marks_of
marks_back P k i figures few some to known =
    let under = leb-true k P to in
    let last = and_parts (nat_le 1 i && nat_le i 32) (are_figures (i + 1) figures) known in
    let low = leb-true i 32 (and_parts (nat_le 1 i) (nat_le i 32) last.0).1 in
    let count = few_figures 1 (i ∷ figures) known (omega arith) in
    ap (λ (l : List ℕ). marks_of P (decimal k ++ l)) (behind_spaces i figures)
    ∙ parted_next 32 (number_within 1 P) (λ (n : ℕ). None) marked_by (decimal k) (join_with_byte 32 (map decimal (i ∷ figures))) (decimal_free 32 k (omega arith) (omega arith))
    ∙ ap (λ (o : Option ℕ). o >>= (λ (n : ℕ). marked_by n (join_with_byte 32 (map decimal (i ∷ figures))))) (within_back 1 P k some to (omega arith))
    ∙ ap (λ (ws : List (List ℕ)). option_map (marks_as k) (figures_from 32 1 ws)) (words_joined i (i + 1) figures low last.1)
    ∙ ap (option_map (marks_as k)) (figures_back 32 1 (i ∷ figures) (omega arith) known)

-- the text of a line of marks stands for it
pub mark_stands : (P : ℕ) (m : Marks) → P ≤ 64 → is_mark P m ≡ true → mark_line P (mark_text m) ≡ Some m
unfolding mark_line mark_text
mark_stands P m few known =
    let last = and_parts (nat_le 1 m.by && nat_le m.by P && is_some_figure m.figures) (are_figures 1 m.figures) known in
    let third = and_parts (nat_le 1 m.by && nat_le m.by P) (is_some_figure m.figures) last.0 in
    let both = and_parts (nat_le 1 m.by) (nat_le m.by P) third.0 in
    with_some m.figures third.1 last.1 both.0 both.1
  where
    with_some : (figures : List ℕ) → is_some_figure figures ≡ true → are_figures 1 figures ≡ true → nat_le 1 m.by ≡ true → nat_le m.by P ≡ true → marks_of P (decimal m.by ++ figures_text figures) ≡ Some (marks_as m.by figures)
    with_some [] some good from to = absurd cc
    with_some (i ∷ figures) some good from to = marks_back P m.by i figures few from to good

-- a text is that of a line of marks
pub record IsMarkText (P : ℕ) (text : List ℕ) (m : Marks) : Type 0 where
  pub text_is : text ≡ mark_text m
  pub known : is_mark P m ≡ true

some_figures : (ws : List (List ℕ)) (figures : List ℕ) → ws ≡ map decimal figures → 1 ≤ length ws → (is_some_figure figures ≡ true) × (figures_text figures ≡ 32 ∷ join_with_byte 32 ws)
some_figures ws [] same some = absurd (let none = ap (λ (l : List (List ℕ)). length l) same in omega arith)
some_figures ws (i ∷ figures) same some = (refl, behind_spaces i figures ∙ ap (λ (l : List (List ℕ)). 32 ∷ join_with_byte 32 l) (sym same))

after_mark : (P : ℕ) (text whole : List ℕ) → whole ≡ codes "mark " ++ text → Only (IsMarkText P whole) (marks_of P text)
unfolding marks_of mark_text
after_mark P text whole is line e =
    let f = followed 32 (number_within 1 P) (λ (n : ℕ). None) marked_by text line (λ x. refl) e in
    let m = mapped_some (marks_as f.value) (figures_from 32 1 (words f.rest)) line f.goes_on in
    let k = within_read 1 P f.front f.value f.good in
    let figures = figures_read 32 1 (words f.rest) m.0 m.1 in
    let some = some_figures (words f.rest) m.0 figures.words_are (some_words f.rest) in
    record {
      text_is = is ∙ ap (λ (l : List ℕ). codes "mark " ++ l) (f.whole ∙ ap (λ (l : List ℕ). l ++ 32 ∷ f.rest) k.text_is ∙ ap (λ (l : List ℕ). decimal f.value ++ 32 ∷ l) (sym (join_with_byte-slice_split 32 f.rest)) ∙ ap (λ (l : List ℕ). decimal f.value ++ l) (sym some.1)) ∙ ap mark_text m.2;
      known = ap (is_mark P) (sym m.2) ∙ and_from _ _ (and_from _ _ (and_from _ _ k.from k.to) some.0) figures.known;
    }

pub mark_read : (P : ℕ) (text : List ℕ) → Only (IsMarkText P text) (mark_line P text)
unfolding mark_line
mark_read P text =
    cond_both (starts_with nat_eq text (codes "mark ")) _ _ (Only (IsMarkText P text)) (λ t. after_mark P (drop 5 text) text (begun text (codes "mark ") t)) (λ f m e. absurd cc)

-- each is at most 32
pub figures_low : (least : ℕ) (figures : List ℕ) → are_figures least figures ≡ true → All (λ i. i ≤ 32) figures
figures_low least [] known = λ k d h. absurd (omega arith)
figures_low least (i ∷ figures) known =
    let last = and_parts (nat_le least i && nat_le i 32) (are_figures (i + 1) figures) known in
    let to = leb-true i 32 (and_parts (nat_le least i) (nat_le i 32) last.0).1 in
    All-cons (λ x. x ≤ 32) i figures to (figures_low (i + 1) figures last.1)
