-- Lines of marks that are told one after another.
use Rattle.std.proofs.Common.{◌≡◌, ℕ, zero, suc, ◌+◌, ◌<◌, ◌≤◌, List, [], ◌∷◌, ◌++◌, append_assoc, append-nil, get_or, length, map, refl, ap, sym, ◌∙◌, subst, arith}
use Rattle.std.proofs.lemmas.List.{length-append, length-map}
use Rattle.std.proofs.lemmas.Option.{get_or_from_slice_get, slice_get_within}
use Rattle.std.specs.List.{All}
use Rattle.std.specs.Prelude.{None, Option, Some, SomeIff, slice_get}
use Rattle.capture_prices.specs.Prices.{PriceList}
use Rattle.general_lemmas.proofs.Lists.{same_first, same_rest}
use Rattle.figures.specs.Figures.{Sketch}
use Rattle.sketch_body.specs.Seen.{line_of}
use Rattle.sketch_body.specs.declared.lines.SketchLine.{SketchLine}
use Rattle.sketch_proof.specs.Nodes.{IsMarkable, marked_with}
use Rattle.sketch_proof.specs.Proofs.{AreAllForced, AreForced, Setting, with_lines}
use Rattle.sketch_prose.proofs.Adding.{adds-append, adds-none}
use Rattle.sketch_prose.specs.Sentences.{Sentence}
use Rattle.sketch_prose.specs.Telling.{Adds, mark_told, marks_told}
use Rattle.sketch_text.specs.Marks.{Marks}
use Rattle.sketch_text.specs.Trees.{Line, of_marks}

abbrev pub mark_lines : List Marks → List Line
mark_lines ms = map (λ m. of_marks m) ms

-- the lines of some of these marks are told, and those of the others are left
pub record MarksSoFar (g : Setting) (D : Sketch) (ms : List Marks) (S : Sketch) (i : ℕ) (last : Sketch) (before after : List ℕ) : Type 0 where
  pub done : List Marks
  pub left : List Marks
  pub whole : ms ≡ done ++ left
  pub many : length done ≡ i
  pub forced : AreAllForced g left last
  pub sketch : last ≡ with_lines done S
  pub told : Adds g D (marks_told g done S) before after

-- ONE MORE

with-last : (done : List Marks) (m : Marks) (S : Sketch) → with_lines (done ++ m ∷ []) S ≡ marked_with m.figures (with_lines done S)
with-last [] m S = refl
with-last (d ∷ done) m S = with-last done m (marked_with d.figures S)

told-last : (g : Setting) (done : List Marks) (m : Marks) (S : Sketch) → marks_told g (done ++ m ∷ []) S ≡ marks_told g done S ++ mark_told g m (with_lines done S)
told-last g [] m S = append-nil (mark_told g m S)
told-last g (d ∷ done) m S =
    ap (λ (l : List Sentence). mark_told g d S ++ l) (told-last g done m (marked_with d.figures S))
    ∙ sym (append_assoc (mark_told g d S) (marks_told g done (marked_with d.figures S)) (mark_told g m (with_lines done (marked_with d.figures S))))

line-at : (lines : List SketchLine) (i : ℕ) (x : SketchLine) (ds : List Marks) (m : Marks) (rest : List Marks) (more_ : List Line) → i < length lines → x ≡ get_or lines i x → map line_of lines ≡ mark_lines (ds ++ m ∷ rest) ++ more_ → length ds ≡ i → line_of x ≡ of_marks m
line-at [] i x ds m rest more_ low is e many = absurd (let never : ⊥ = omega (arith, low) in never)
line-at (y ∷ ys) zero x [] m rest more_ low is e many = ap line_of is ∙ same_first e
line-at (y ∷ ys) (suc i) x [] m rest more_ low is e many = absurd (let never : ⊥ = omega (arith, many) in never)
line-at (y ∷ ys) zero x (d ∷ ds) m rest more_ low is e many = absurd (let never : ⊥ = omega (arith, many) in never)
line-at (y ∷ ys) (suc i) x (d ∷ ds) m rest more_ low is e many = line-at ys i x ds m rest more_ (omega (arith, low)) is (same_rest e) (omega (arith, many))

-- as many lines as marks
pub lines-many : (lines : List SketchLine) (ms : List Marks) (more_ : List Line) → map line_of lines ≡ mark_lines ms ++ more_ → length ms ≤ length lines
lines-many lines ms more_ e =
    let many : length lines ≡ length (mark_lines ms ++ more_) = sym (length-map lines line_of) ∙ ap (λ (l : List Line). length l) e in
    let both : length (mark_lines ms ++ more_) ≡ length (mark_lines ms) + length more_ = length-append (mark_lines ms) more_ in
    let marks : length (mark_lines ms) ≡ length ms = length-map ms (λ m. of_marks m) in
    omega (arith, many, both, marks)

pub marks-begin : (g : Setting) (D : Sketch) (ms : List Marks) (S : Sketch) (o : List ℕ) → AreAllForced g ms S → MarksSoFar g D ms S 0 S o o
marks-begin g D ms S o forced = record { done = []; left = ms; whole = refl; many = refl; forced = forced; sketch = refl; told = adds-none g D o }

pub marks-on : (g : Setting) (D : Sketch) (ms : List Marks) (S : Sketch) (i count : ℕ) (last next : Sketch) (lines : List SketchLine) (x : SketchLine) (more_ : List Line) (o p r : List ℕ) → MarksSoFar g D ms S i last o p → i < count → length ms ≡ count → i < length lines → x ≡ get_or lines i x → map line_of lines ≡ mark_lines ms ++ more_ → ((m : Marks) → line_of x ≡ of_marks m → AreForced g last m → (next ≡ marked_with m.figures last) × Adds g D (mark_told g m last) p r) → MarksSoFar g D ms S (i + 1) next o r
marks-on g D ms S i count last next lines x more_ o p r so less size low is e step = by_left so.left so.whole so.forced
  where
    by_left : (left : List Marks) → ms ≡ so.done ++ left → AreAllForced g left last → MarksSoFar g D ms S (i + 1) next o r
    by_left [] whole forced =
        let sizes : length ms ≡ length (so.done ++ []) = ap (λ (l : List Marks). length l) whole in
        let parts : length (so.done ++ []) ≡ length so.done + 0 = length-append so.done [] in
        let many : length so.done ≡ i = so.many in
        let never : ⊥ = omega (arith, sizes, parts, many, less, size) in
        absurd never
    by_left (m ∷ rest) whole forced =
        let now = step m (line-at lines i x so.done m rest more_ low is (e ∙ ap (λ (l : List Marks). mark_lines l ++ more_) whole) so.many) forced.0 in
        let parts : length (so.done ++ m ∷ []) ≡ length so.done + 1 = length-append so.done (m ∷ []) in
        let many : length so.done ≡ i = so.many in
        record {
          done = so.done ++ m ∷ [];
          left = rest;
          whole = whole ∙ sym (append_assoc so.done (m ∷ []) rest);
          many = omega (arith, parts, many);
          forced = subst (AreAllForced g rest) (sym now.0) forced.1;
          sketch = now.0 ∙ ap (λ (T : Sketch). marked_with m.figures T) so.sketch ∙ sym (with-last so.done m S);
          told = subst (λ (l : List Sentence). Adds g D l o r) (sym (told-last g so.done m S)) (adds-append g D (marks_told g so.done S) (mark_told g m (with_lines so.done S)) o p r so.told (subst (λ (T : Sketch). Adds g D (mark_told g m T) p r) so.sketch now.1));
        }

pub marks-end : (g : Setting) (D : Sketch) (ms : List Marks) (S : Sketch) (i : ℕ) (last : Sketch) (o r : List ℕ) → MarksSoFar g D ms S i last o r → length ms ≤ i → (last ≡ with_lines ms S) × Adds g D (marks_told g ms S) o r
marks-end g D ms S i last o r so few = by_left so.left so.whole
  where
    by_left : (left : List Marks) → ms ≡ so.done ++ left → (last ≡ with_lines ms S) × Adds g D (marks_told g ms S) o r
    by_left [] whole =
        let same : so.done ≡ ms = sym (whole ∙ append-nil so.done) in
        (so.sketch ∙ ap (λ (l : List Marks). with_lines l S) same, subst (λ (l : List Marks). Adds g D (marks_told g l S) o r) same so.told)
    by_left (m ∷ rest) whole =
        let sizes : length ms ≡ length (so.done ++ m ∷ rest) = ap (λ (l : List Marks). length l) whole in
        let parts : length (so.done ++ m ∷ rest) ≡ length so.done + length (m ∷ rest) = length-append so.done (m ∷ rest) in
        let many : length so.done ≡ i = so.many in
        let never : ⊥ = omega (arith, sizes, parts, many, few) in
        absurd never

-- the prices of a line of marks, by its number from 0
pub forced-here : (g : Setting) (S : Sketch) (m : Marks) (i : ℕ) (p : PriceList) → AreForced g S m → m.by ≡ i + 1 → p ≡ get_or g.prices i p → All (λ n. IsMarkable g.odds g.held p S n) m.figures
forced-here g S m i p it by is =
    let same : it.index ≡ i = omega (arith, by, it.from_one) in
    let price : it.prices ≡ p = sym (is ∙ get_or_from_slice_get g.prices i it.prices p (ap (λ (j : ℕ). slice_get g.prices j) (sym same) ∙ it.there)) in
    subst (λ (q : PriceList). All (λ n. IsMarkable g.odds g.held q S n) m.figures) price it.so

-- it is one of the lines
pub forced-within : (g : Setting) (S : Sketch) (m : Marks) → AreForced g S m → (0 < m.by) × (m.by ≤ length g.prices)
forced-within g S m it =
    let low : it.index < length g.prices = slice_get_within g.prices it.index it.prices it.there in
    (omega (arith, it.from_one), omega (arith, it.from_one, low))

pub given-marks : (r : Option Sketch) (P : Type 0) (v : Sketch) → SomeIff r P v → P → r ≡ Some v
given-marks None P v it so = absurd (it so)
given-marks (Some x) P v it so = ap (λ (y : Sketch). Some y) it.1
