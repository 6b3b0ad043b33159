-- The lines of nodes and their texts.
use Rattle.std.proofs.Common.{◌≡◌, ℕ, ◌+◌, ◌<◌, ◌≤◌, ◌==◌, true, false, ◌&&◌, ◌%◌, ◌/◌, List, [], ◌∷◌, ◌++◌, drop, Option, Some, None, refl, sym, ap, ◌∙◌, inl, inr, arith, append_assoc, nat_eq, nat_le, nat_lt}
use Rattle.std.specs.Prelude.{codes}
use Rattle.std.proofs.lemmas.Bool.{and_parts, and_from, and_left, and_right, cases_eq, cond-false, cond_both, leb-true, le-leb, lt-ltb, ltb-true, ne_eqb}
use Rattle.std.proofs.lemmas.Option.{same_Some}
use Rattle.std.proofs.lemmas.Slice.Eq.{bytes_eq-Decides}
use Rattle.std.specs.Fmt.{decimal}
use Rattle.std.specs.List.{starts_with}
use Rattle.std.specs.Option.{option_map}
use Rattle.std.specs.Str.{bytes_eq}
use Rattle.board_base.specs.Texts.{◌>>=◌, square_text}
use Rattle.board_base.proofs.OneText.{square_text_of}
use Rattle.board_base.proofs.TextLemmas.{mapped_some, square_back}
use Rattle.fen_text.specs.Parts.{Free}
use Rattle.fen_text.proofs.Begun.{begun}
use Rattle.fen_text.proofs.PartLemmas.{followed, parted_next}
use Rattle.sketch_text.specs.Labels.{is_label, is_way, label_of, label_text, officer_of, officer_text, step_text}
use Rattle.sketch_text.specs.Nodes.{case_of, end_of, end_text, is_end, is_node, labelled_of, marked_end_of, marks_text, node_of, node_text, node_with, number_within, rest_of, square_of}
use Rattle.sketch_text.specs.declared.labels.Label.{Label}
use Rattle.sketch_text.specs.declared.labels.Label.TheVariants.{Now, Step, Case}
use Rattle.sketch_text.specs.declared.labels.Officer.{Officer}
use Rattle.sketch_text.specs.declared.labels.StepLabel.{StepLabel}
use Rattle.sketch_text.specs.declared.nodes.End.{End}
use Rattle.sketch_text.specs.declared.nodes.End.TheVariants.{Void, Closed, Steps, Split}
use Rattle.sketch_text.specs.declared.nodes.SketchNode.{SketchNode}
use Rattle.sketch_text.proofs.LabelTexts.{label_read, officer_back, officer_free, officer_read, step_free, step_label}
use Rattle.sketch_text.proofs.InRange.{Only, decimal_free, within_back, within_read}

-- ends

end_back : (P : ℕ) (end : End) → P ≤ 64 → is_end P end ≡ true → end_of P (end_text end) ≡ Some end
unfolding end_of
end_back P Void few known = refl
end_back P (Closed k) few known =
    let parts = and_parts (nat_le 1 k) (nat_le k P) known in
    ap (option_map (λ (n : ℕ). Closed n)) (within_back 1 P k parts.0 parts.1 (omega arith))
end_back P (Steps m) few known = ap (option_map (λ (n : ℕ). Steps n)) (within_back 0 1024 m (le-leb 0 m (omega arith)) known (omega arith))
end_back P (Split s) few known = ap (option_map (λ (n : ℕ). Split n)) (square_back s (ltb-true s 64 known))

-- a text is that of an end
record IsEndText (P : ℕ) (text : List ℕ) (end : End) : Type 0 where
  text_is : text ≡ end_text end
  known : is_end P end ≡ true

after_closed : (P : ℕ) (text : List ℕ) → text ≡ codes "closed " ++ drop 7 text → Only (IsEndText P text) (option_map (λ k. Closed k) (number_within 1 P (drop 7 text)))
after_closed P text whole end e =
    let m = mapped_some (λ (k : ℕ). Closed k) (number_within 1 P (drop 7 text)) end e in
    let n = within_read 1 P (drop 7 text) m.0 m.1 in
    record { text_is = whole ∙ ap (λ (l : List ℕ). codes "closed " ++ l) n.text_is ∙ ap end_text m.2; known = ap (is_end P) (sym m.2) ∙ and_from _ _ n.from n.to }

after_steps : (P : ℕ) (text : List ℕ) → text ≡ codes "steps " ++ drop 6 text → Only (IsEndText P text) (option_map (λ k. Steps k) (number_within 0 1024 (drop 6 text)))
after_steps P text whole end e =
    let m = mapped_some (λ (k : ℕ). Steps k) (number_within 0 1024 (drop 6 text)) end e in
    let n = within_read 0 1024 (drop 6 text) m.0 m.1 in
    record { text_is = whole ∙ ap (λ (l : List ℕ). codes "steps " ++ l) n.text_is ∙ ap end_text m.2; known = ap (is_end P) (sym m.2) ∙ n.to }

-- the text of a square
record IsSquareText (text : List ℕ) (s : ℕ) : Type 0 where
  text_is : text ≡ square_text s
  on_board : s < 64

square_read : (text : List ℕ) → Only (IsSquareText text) (square_of text)
square_read [] s e = absurd cc
square_read (a ∷ []) s e = absurd cc
square_read (a ∷ b ∷ []) s e =
    let t = square_text_of a b s e in
    record { text_is = ap (λ (x : ℕ). x ∷ b ∷ []) t.file ∙ ap (λ (x : ℕ). (97 + s % 8) ∷ x ∷ []) t.rank; on_board = t.on_board }
square_read (a ∷ b ∷ c ∷ rest) s e = absurd cc

after_split : (P : ℕ) (text : List ℕ) → text ≡ codes "split " ++ drop 6 text → Only (IsEndText P text) (option_map (λ s. Split s) (square_of (drop 6 text)))
after_split P text whole end e =
    let m = mapped_some (λ (s : ℕ). Split s) (square_of (drop 6 text)) end e in
    let s = square_read (drop 6 text) m.0 m.1 in
    record { text_is = whole ∙ ap (λ (l : List ℕ). codes "split " ++ l) s.text_is ∙ ap end_text m.2; known = ap (is_end P) (sym m.2) ∙ lt-ltb m.0 64 s.on_board }

end_read : (P : ℕ) (text : List ℕ) → Only (IsEndText P text) (end_of P text)
unfolding end_of
end_read P text =
    cond_both (bytes_eq text (codes "void")) _ _ (Only (IsEndText P text)) (λ t end e.
    let one : Void ≡ end = same_Some _ _ e in
    record { text_is = (bytes_eq-Decides text (codes "void")).0 t ∙ ap end_text one; known = ap (is_end P) (sym one) }) (λ f.
    cond_both (starts_with nat_eq text (codes "closed ")) _ _ (Only (IsEndText P text)) (λ t. after_closed P text (begun text (codes "closed ") t)) (λ f.
    cond_both (starts_with nat_eq text (codes "steps ")) _ _ (Only (IsEndText P text)) (λ t. after_steps P text (begun text (codes "steps ") t)) (λ f.
    cond_both (starts_with nat_eq text (codes "split ")) _ _ (Only (IsEndText P text)) (λ t. after_split P text (begun text (codes "split ") t)) (λ f end e.
    absurd cc))))

-- what stands behind the label

abbrev with_end : ℕ → End → ℕ × End
with_end count end = (count, end)

abbrev behind_count : ℕ → ℕ → List ℕ → Option (ℕ × End)
behind_count P count rest = option_map (with_end count) (end_of P rest)

marked_back : (P count : ℕ) (end : End) → P ≤ 64 → nat_le 1 count ≡ true → nat_le count 8 ≡ true → is_end P end ≡ true → marked_end_of P (decimal count ++ 32 ∷ end_text end) ≡ Some (count, end)
unfolding marked_end_of
marked_back P count end few some low known =
    let eight = leb-true count 8 low in
    parted_next 32 (number_within 1 8) (λ (n : ℕ). None) (behind_count P) (decimal count) (end_text end) (decimal_free 32 count (omega arith) (omega arith))
    ∙ ap (λ (o : Option ℕ). o >>= (λ (n : ℕ). behind_count P n (end_text end))) (within_back 1 8 count some low (omega arith))
    ∙ ap (option_map (with_end count)) (end_back P end few known)

no_marks : (end : End) → starts_with nat_eq (end_text end) (codes "marks ") ≡ false
no_marks Void = refl
no_marks (Closed k) = refl
no_marks (Steps m) = refl
no_marks (Split s) = refl

marks_are : (count : ℕ) → (count ≡ 0 → ⊥) → marks_text count ≡ codes "marks " ++ decimal count ++ codes " "
marks_are count some = cond-false (count == 0) [] (codes "marks " ++ decimal count ++ codes " ") (ne_eqb count 0 some)

rest_back : (P count : ℕ) (end : End) → P ≤ 64 → nat_le count 8 ≡ true → is_end P end ≡ true → rest_of P (marks_text count ++ end_text end) ≡ Some (count, end)
unfolding rest_of
rest_back P count end few low known = elim (cases_eq count 0) [
  | inl none ↦
      ap (λ (k : ℕ). rest_of P (marks_text k ++ end_text end)) none
      ∙ cond-false (starts_with nat_eq (end_text end) (codes "marks ")) (marked_end_of P (drop 6 (end_text end))) (option_map (with_end 0) (end_of P (end_text end))) (no_marks end)
      ∙ ap (option_map (with_end 0)) (end_back P end few known) ∙ ap (λ (k : ℕ). let o : Option (ℕ × End) = Some (k, end) in o) (sym none)
  | inr some ↦
      ap (λ (l : List ℕ). rest_of P (l ++ end_text end)) (marks_are count some)
      ∙ ap (marked_end_of P) (append_assoc (decimal count) (codes " ") (end_text end)) ∙ marked_back P count end few (le-leb 1 count (omega arith)) low known
]

-- a text is that of what stands behind a label
record IsRestText (P : ℕ) (text : List ℕ) (rest : ℕ × End) : Type 0 where
  text_is : text ≡ marks_text rest.0 ++ end_text rest.1
  low : nat_le rest.0 8 ≡ true
  known : is_end P rest.1 ≡ true

after_marks : (P : ℕ) (text : List ℕ) → text ≡ codes "marks " ++ drop 6 text → Only (IsRestText P text) (marked_end_of P (drop 6 text))
unfolding marked_end_of
after_marks P text whole rest e =
    let f = followed 32 (number_within 1 8) (λ (n : ℕ). None) (behind_count P) (drop 6 text) rest (λ x. refl) e in
    let m = mapped_some (with_end f.value) (end_of P f.rest) rest f.goes_on in
    let count = within_read 1 8 f.front f.value f.good in
    let end = end_read P f.rest m.0 m.1 in
    let some = leb-true 1 f.value count.from in
    record {
      text_is = whole ∙ ap (λ (l : List ℕ). codes "marks " ++ l) (f.whole ∙ ap (λ (l : List ℕ). l ++ 32 ∷ f.rest) count.text_is ∙ ap (λ (l : List ℕ). decimal f.value ++ 32 ∷ l) end.text_is ∙ sym (append_assoc (decimal f.value) (codes " ") (end_text m.0)))
          ∙ ap (λ (l : List ℕ). l ++ end_text m.0) (sym (marks_are f.value (λ z. omega arith))) ∙ ap (λ (r : ℕ × End). marks_text r.0 ++ end_text r.1) m.2;
      low = ap (λ (r : ℕ × End). nat_le r.0 8) (sym m.2) ∙ count.to;
      known = ap (λ (r : ℕ × End). is_end P r.1) (sym m.2) ∙ end.known;
    }

rest_read : (P : ℕ) (text : List ℕ) → Only (IsRestText P text) (rest_of P text)
unfolding rest_of
rest_read P text =
    cond_both (starts_with nat_eq text (codes "marks ")) _ _ (Only (IsRestText P text)) (λ t. after_marks P text (begun text (codes "marks ") t)) (λ f rest e.
    let m = mapped_some (with_end 0) (end_of P text) rest e in
    let end = end_read P text m.0 m.1 in
    record {
      text_is = end.text_is ∙ ap (λ (r : ℕ × End). marks_text r.0 ++ end_text r.1) m.2;
      low = ap (λ (r : ℕ × End). nat_le r.0 8) (sym m.2);
      known = ap (λ (r : ℕ × End). is_end P r.1) (sym m.2) ∙ end.known;
    })

-- nodes

abbrev node_as : Label → ℕ × End → SketchNode
node_as label rest = record { label = label; marks = rest.0; end = rest.1 }

with_back : (P : ℕ) (n : SketchNode) → P ≤ 64 → is_node P n ≡ true → node_with P n.label (marks_text n.marks ++ end_text n.end) ≡ Some n
with_back P n few known =
    let last = and_parts (is_label n.label && nat_le n.marks 8) (is_end P n.end) known in
    let both = and_parts (is_label n.label) (nat_le n.marks 8) last.0 in
    ap (option_map (node_as n.label)) (rest_back P n.marks n.end few both.1 last.1)

labelled_back : (P : ℕ) (label : Label) (text rest : List ℕ) (n : SketchNode) → label_of text ≡ Some label → Free 32 text → node_with P label rest ≡ Some n → labelled_of P (text ++ 32 ∷ rest) ≡ Some n
unfolding labelled_of
labelled_back P label text rest n is free goes =
    parted_next 32 label_of (λ (l : Label). None) (λ (l : Label) (r : List ℕ). node_with P l r) text rest free ∙ ap (λ (o : Option Label). o >>= (λ (l : Label). node_with P l rest)) is ∙ goes

case_back : (P : ℕ) (k : Officer) (rest : List ℕ) (n : SketchNode) → node_with P (Case k) rest ≡ Some n → case_of P (officer_text k ++ 32 ∷ rest) ≡ Some n
unfolding case_of
case_back P k rest n goes =
    parted_next 32 officer_of (λ (kind : Officer). None) (λ (kind : Officer) (r : List ℕ). node_with P (Case kind) r) (officer_text k) rest (officer_free k)
    ∙ ap (λ (o : Option Officer). o >>= (λ (kind : Officer). node_with P (Case kind) rest)) (officer_back k) ∙ goes

no_case : (x : StepLabel) (rest : List ℕ) → x.from < 64 → starts_with nat_eq (step_text x ++ 32 ∷ rest) (codes "case ") ≡ false
unfolding step_text
no_case x rest on_board = and_right (nat_eq 99 (97 + x.from % 8)) _ (and_left (nat_eq 97 (49 + x.from / 8)) _ (ne_eqb 97 (49 + x.from / 8) (λ e. omega arith)))

node_back : (P : ℕ) (n : SketchNode) (label : Label) → n.label ≡ label → P ≤ 64 → is_node P n ≡ true → is_label label ≡ true → node_of P (label_text label ++ 32 ∷ (marks_text n.marks ++ end_text n.end)) ≡ Some n
unfolding node_of label_text label_of
node_back P n Now is few known good = labelled_back P Now (codes "now") (marks_text n.marks ++ end_text n.end) n refl refl (ap (λ (l : Label). node_with P l (marks_text n.marks ++ end_text n.end)) (sym is) ∙ with_back P n few known)
node_back P n (Case k) is few known good = case_back P k (marks_text n.marks ++ end_text n.end) n (ap (λ (l : Label). node_with P l (marks_text n.marks ++ end_text n.end)) (sym is) ∙ with_back P n few known)
node_back P n (Step x) is few known good =
    let last = and_parts (nat_lt x.from 64 && nat_lt x.to 64) (is_way x.way) good in
    let both = and_parts (nat_lt x.from 64) (nat_lt x.to 64) last.0 in
    let rest : List ℕ = marks_text n.marks ++ end_text n.end in
    cond-false (starts_with nat_eq (step_text x ++ 32 ∷ rest) (codes "case ")) (case_of P (drop 5 (step_text x ++ 32 ∷ rest))) (labelled_of P (step_text x ++ 32 ∷ rest)) (no_case x rest (ltb-true x.from 64 both.0))
    ∙ labelled_back P (Step x) (step_text x) rest n (step_label x good) (step_free x last.1) (ap (λ (l : Label). node_with P l rest) (sym is) ∙ with_back P n few known)

-- a text is that of a node
pub record IsNodeText (P : ℕ) (text : List ℕ) (n : SketchNode) : Type 0 where
  pub text_is : text ≡ node_text n
  pub known : is_node P n ≡ true

with_read : (P : ℕ) (label : Label) (front text : List ℕ) → front ≡ label_text label → is_label label ≡ true → Only (IsNodeText P (front ++ 32 ∷ text)) (node_with P label text)
unfolding node_text
with_read P label front text is good n e =
    let m = mapped_some (node_as label) (rest_of P text) n e in
    let rest = rest_read P text m.0 m.1 in
    record {
      text_is = ap (λ (l : List ℕ). l ++ 32 ∷ text) is ∙ ap (λ (l : List ℕ). label_text label ++ 32 ∷ l) rest.text_is ∙ ap node_text m.2;
      known = ap (is_node P) (sym m.2) ∙ and_from _ _ (and_from _ _ good rest.low) rest.known;
    }

moved_node : (P : ℕ) (a b : List ℕ) (n : SketchNode) → a ≡ b → IsNodeText P b n → IsNodeText P a n
moved_node P a b n same is = record { text_is = same ∙ is.text_is; known = is.known }

after_case : (P : ℕ) (text : List ℕ) → text ≡ codes "case " ++ drop 5 text → Only (IsNodeText P text) (case_of P (drop 5 text))
unfolding case_of label_text
after_case P text whole n e =
    let f = followed 32 officer_of (λ (k : Officer). None) (λ (k : Officer) (rest : List ℕ). node_with P (Case k) rest) (drop 5 text) n (λ x. refl) e in
    moved_node P text ((codes "case " ++ f.front) ++ 32 ∷ f.rest) n (whole ∙ ap (λ (l : List ℕ). codes "case " ++ l) f.whole)
    (with_read P (Case f.value) (codes "case " ++ f.front) f.rest (ap (λ (l : List ℕ). codes "case " ++ l) (officer_read f.front f.value f.good)) refl n f.goes_on)

after_label : (P : ℕ) (text : List ℕ) → Only (IsNodeText P text) (labelled_of P text)
unfolding labelled_of
after_label P text n e =
    let f = followed 32 label_of (λ (l : Label). None) (λ (l : Label) (rest : List ℕ). node_with P l rest) text n (λ x. refl) e in
    let label = label_read f.front f.value f.good in
    moved_node P text (f.front ++ 32 ∷ f.rest) n f.whole (with_read P f.value f.front f.rest label.text_is label.known n f.goes_on)

pub node_read : (P : ℕ) (text : List ℕ) → Only (IsNodeText P text) (node_of P text)
unfolding node_of
node_read P text =
    cond_both (starts_with nat_eq text (codes "case ")) _ _ (Only (IsNodeText P text)) (λ t. after_case P text (begun text (codes "case ") t)) (λ f. after_label P text)

-- the text of a node stands for it
pub node_stands : (P : ℕ) (n : SketchNode) → P ≤ 64 → is_node P n ≡ true → node_of P (node_text n) ≡ Some n
unfolding node_text
node_stands P n few known =
    let last = and_parts (is_label n.label && nat_le n.marks 8) (is_end P n.end) known in
    node_back P n n.label refl few known (and_parts (is_label n.label) (nat_le n.marks 8) last.0).0
