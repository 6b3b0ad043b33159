-- The texts of lines have no line end, and are short.
use Rattle.std.proofs.Common.{◌≡◌, ℕ, suc, ◌+◌, ◌*◌, ◌<◌, ◌≤◌, ◌==◌, ◌&&◌, true, List, [], ◌∷◌, ◌++◌, length, map, refl, arith, length-append, nat_le}
use Rattle.std.specs.Prelude.{codes}
use Rattle.std.specs.Fmt.{decimal}
use Rattle.std.proofs.lemmas.Bool.{and_parts, cond_both, leb-true}
use Rattle.std.proofs.lemmas.Fmt.{length-decimal-le}
use Rattle.board_base.specs.Texts.{square_text}
use Rattle.fen_text.specs.Parts.{Free}
use Rattle.fen_text.proofs.MoveFrees.{higher, square_free}
use Rattle.fen_text.proofs.PartLemmas.{free_append}
use Rattle.sketch_text.specs.Heads.{Head, are_files, files_text, head_text, is_head}
use Rattle.sketch_text.specs.Labels.{above_text, is_label, is_way, label_text, officer_text, sign_of, step_text, taken_text, victim_text, way_text}
use Rattle.sketch_text.specs.Marks.{Marks, are_figures, figures_text, is_mark, is_some_figure, mark_text}
use Rattle.sketch_text.specs.Nodes.{end_text, is_end, is_node, marks_text, node_text}
use Rattle.sketch_text.specs.declared.labels.Label.{Label}
use Rattle.sketch_text.specs.declared.labels.Label.TheVariants.{Now, Step, Case}
use Rattle.sketch_text.specs.declared.labels.Officer.{Officer}
use Rattle.sketch_text.specs.declared.labels.Officer.TheVariants.{Knight, Rook, Queen}
use Rattle.sketch_text.specs.declared.labels.StepLabel.{StepLabel}
use Rattle.sketch_text.specs.declared.labels.Taken.{Taken}
use Rattle.sketch_text.specs.declared.labels.Taken.TheVariants as taken
use Rattle.sketch_text.specs.declared.labels.Victim.{Victim}
use Rattle.sketch_text.specs.declared.labels.Victim.TheVariants as victim
use Rattle.sketch_text.specs.declared.labels.Way.{Way}
use Rattle.sketch_text.specs.declared.labels.Way.TheVariants.{Straight, Capture, Promotion, CapturePromotion}
use Rattle.sketch_text.specs.declared.nodes.End.{End}
use Rattle.sketch_text.specs.declared.nodes.End.TheVariants.{Void, Closed, Steps, Split}
use Rattle.sketch_text.specs.declared.nodes.SketchNode.{SketchNode}
use Rattle.sketch_text.proofs.InRange.{decimal_free}
use Rattle.sketch_text.proofs.MarkTexts.{few_figures}

-- a text without a line end, of at most so many bytes
pub record IsPlain (most : ℕ) (text : List ℕ) : Type 0 where
  pub free : Free 10 text
  pub short : length text ≤ most

both : (m n : ℕ) (a b : List ℕ) → IsPlain m a → IsPlain n b → IsPlain (m + n) (a ++ b)
both m n a b p q = record { free = free_append 10 a b p.free q.free; short = let first = p.short in let second = q.short in omega (arith, length-append a b) }

one : (m c : ℕ) (text : List ℕ) → 10 < c → IsPlain m text → IsPlain (suc m) (c ∷ text)
one m c text high p = record { free = higher 10 c text high p.free; short = let rest = p.short in omega arith }

wider : (m n : ℕ) (text : List ℕ) → m ≤ n → IsPlain m text → IsPlain n text
wider m n text more p = record { free = p.free; short = let s = p.short in omega arith }

nothing : IsPlain 0 []
nothing = record { free = refl; short = omega arith }

number : (n : ℕ) → n ≤ 9999 → IsPlain 4 (decimal n)
number n few = record { free = decimal_free 10 n (omega arith) (omega arith); short = length-decimal-le 4 n (omega arith) (omega arith) (omega arith) }

low_number : (n : ℕ) → n ≤ 64 → IsPlain 2 (decimal n)
low_number n few = record { free = decimal_free 10 n (omega arith) (omega arith); short = length-decimal-le 2 n (omega arith) (omega arith) (omega arith) }

square : (s : ℕ) → IsPlain 2 (square_text s)
square s = record { free = square_free 10 s (omega arith); short = omega arith }

-- the first line

letters : (files : List ℕ) → IsPlain (length files) (map (λ x. 97 + x) files)
letters [] = nothing
letters (f ∷ files) = one (length files) (97 + f) (map (λ x. 97 + x) files) (omega arith) (letters files)

few_files : (least : ℕ) (files : List ℕ) → are_files least files ≡ true → least ≤ 8 → length files + least ≤ 8
few_files least [] known low = omega arith
few_files least (f ∷ files) known low =
    let parts = and_parts (nat_le least f && nat_le f 7) (are_files (f + 1) files) known in
    let first = and_parts (nat_le least f) (nat_le f 7) parts.0 in
    let from = leb-true least f first.0 in
    let to = leb-true f 7 first.1 in
    omega (arith, few_files (f + 1) files parts.1 (omega arith))

files : (fs : List ℕ) → length fs ≤ 8 → IsPlain 15 (files_text fs)
files [] few = wider 0 15 [] (omega arith) nothing
files (f ∷ fs) few = both 7 8 (codes " files ") (map (λ x. 97 + x) (f ∷ fs)) (record { free = refl; short = omega arith }) (wider (length (f ∷ fs)) 8 (map (λ x. 97 + x) (f ∷ fs)) few (letters (f ∷ fs)))

pub plain_head : (h : Head) → is_head h ≡ true → IsPlain 24 (head_text h)
unfolding head_text
plain_head h known =
    let parts = and_parts (nat_le h.prices 64) (are_files 0 h.files) known in
    let few : length h.files ≤ 8 = omega (arith, few_files 0 h.files parts.1 (omega arith)) in
    both 9 15 (codes "sketch " ++ decimal h.prices) (files_text h.files) (both 7 2 (codes "sketch ") (decimal h.prices) (record { free = refl; short = omega arith }) (low_number h.prices (leb-true h.prices 64 parts.0))) (files h.files few)

-- nodes

above : (n : ℕ) → n ≤ 5 → IsPlain 1 (above_text n)
above n few = cond_both (n == 0) [] ((48 + n) ∷ []) (IsPlain 1) (λ none. wider 0 1 [] (omega arith) nothing) (λ some. one 0 (48 + n) [] (omega arith) nothing)

victims : (v : Victim) → IsPlain 3 (victim_text v)
victims victim.Pawn = record { free = refl; short = omega arith }
victims victim.Bishop = record { free = refl; short = omega arith }
victims victim.Officer = record { free = refl; short = omega arith }
victims victim.EnPassant = record { free = refl; short = omega arith }

takens : (t : Taken) → IsPlain 3 (taken_text t)
takens taken.Bishop = record { free = refl; short = omega arith }
takens taken.Officer = record { free = refl; short = omega arith }

ways : (w : Way) → is_way w ≡ true → IsPlain 4 (way_text w)
ways Straight known = wider 0 4 [] (omega arith) nothing
ways Promotion known = wider 0 4 [] (omega arith) nothing
ways (Capture v n) known = both 3 1 (victim_text v) (above_text n) (victims v) (above n (leb-true n 5 known))
ways (CapturePromotion t) known = both 3 1 (taken_text t) (codes "=") (takens t) (record { free = refl; short = omega arith })

sign_high : (w : Way) → 10 < sign_of w
sign_high Straight = omega arith
sign_high Promotion = omega arith
sign_high (Capture v n) = omega arith
sign_high (CapturePromotion t) = omega arith

step : (x : StepLabel) → is_way x.way ≡ true → IsPlain 9 (step_text x)
unfolding step_text
step x known =
    both 2 7 (square_text x.from) (sign_of x.way ∷ (square_text x.to ++ way_text x.way)) (square x.from) (one 6 (sign_of x.way) (square_text x.to ++ way_text x.way) (sign_high x.way) (both 2 4 (square_text x.to) (way_text x.way) (square x.to) (ways x.way known)))

officers : (k : Officer) → IsPlain 1 (officer_text k)
officers Knight = record { free = refl; short = omega arith }
officers Rook = record { free = refl; short = omega arith }
officers Queen = record { free = refl; short = omega arith }

label : (l : Label) → is_label l ≡ true → IsPlain 9 (label_text l)
unfolding label_text
label Now known = record { free = refl; short = omega arith }
label (Step x) known = step x (and_parts _ (is_way x.way) known).1
label (Case k) known = wider 6 9 (codes "case " ++ officer_text k) (omega arith) (both 5 1 (codes "case ") (officer_text k) (record { free = refl; short = omega arith }) (officers k))

marks : (n : ℕ) → n ≤ 8 → IsPlain 9 (marks_text n)
marks n few =
    cond_both (n == 0) [] (codes "marks " ++ decimal n ++ codes " ") (IsPlain 9) (λ none. wider 0 9 [] (omega arith) nothing)
    (λ some. both 8 1 (codes "marks " ++ decimal n) (codes " ") (both 6 2 (codes "marks ") (decimal n) (record { free = refl; short = omega arith }) (low_number n (omega arith))) (record { free = refl; short = omega arith }))

ends : (P : ℕ) (e : End) → P ≤ 64 → is_end P e ≡ true → IsPlain 11 (end_text e)
ends P Void low known = record { free = refl; short = omega arith }
ends P (Closed k) low known =
    let to = leb-true k P (and_parts (nat_le 1 k) (nat_le k P) known).1 in
    wider 9 11 (codes "closed " ++ decimal k) (omega arith) (both 7 2 (codes "closed ") (decimal k) (record { free = refl; short = omega arith }) (low_number k (omega arith)))
ends P (Steps m) low known =
    let few = leb-true m 1024 known in
    wider 10 11 (codes "steps " ++ decimal m) (omega arith) (both 6 4 (codes "steps ") (decimal m) (record { free = refl; short = omega arith }) (number m (omega arith)))
ends P (Split s) low known = wider 8 11 (codes "split " ++ square_text s) (omega arith) (both 6 2 (codes "split ") (square_text s) (record { free = refl; short = omega arith }) (square s))

pub plain_node : (P : ℕ) (n : SketchNode) → P ≤ 64 → is_node P n ≡ true → IsPlain 30 (node_text n)
unfolding node_text
plain_node P n low known =
    let parts = and_parts (is_label n.label && nat_le n.marks 8) (is_end P n.end) known in
    let first = and_parts (is_label n.label) (nat_le n.marks 8) parts.0 in
    both 9 21 (label_text n.label) (32 ∷ (marks_text n.marks ++ end_text n.end)) (label n.label first.0) (one 20 32 (marks_text n.marks ++ end_text n.end) (omega arith) (both 9 11 (marks_text n.marks) (end_text n.end) (marks n.marks (leb-true n.marks 8 first.1)) (ends P n.end low parts.1)))

-- marks

figures : (least : ℕ) (fs : List ℕ) → are_figures least fs ≡ true → IsPlain (3 * length fs) (figures_text fs)
unfolding figures_text
figures least [] known = nothing
figures least (i ∷ fs) known =
    let parts = and_parts (nat_le least i && nat_le i 32) (are_figures (i + 1) fs) known in
    let to = leb-true i 32 (and_parts (nat_le least i) (nat_le i 32) parts.0).1 in
    wider (3 + 3 * length fs) (3 * length (i ∷ fs)) (figures_text (i ∷ fs)) (omega arith) (both 3 (3 * length fs) (32 ∷ decimal i) (figures_text fs) (one 2 32 (decimal i) (omega arith) (low_number i (omega arith))) (figures (i + 1) fs parts.1))

pub plain_marks : (P : ℕ) (m : Marks) → P ≤ 64 → is_mark P m ≡ true → IsPlain 103 (mark_text m)
unfolding mark_text
plain_marks P m low known =
    let parts = and_parts (nat_le 1 m.by && nat_le m.by P && is_some_figure m.figures) (are_figures 1 m.figures) known in
    let first = and_parts (nat_le 1 m.by) (nat_le m.by P) (and_parts (nat_le 1 m.by && nat_le m.by P) (is_some_figure m.figures) parts.0).0 in
    let to = leb-true m.by P first.1 in
    let few = few_figures 1 m.figures parts.1 (omega arith) in
    both 7 96 (codes "mark " ++ decimal m.by) (figures_text m.figures) (both 5 2 (codes "mark ") (decimal m.by) (record { free = refl; short = omega arith }) (low_number m.by (omega arith)))
    (wider (3 * length m.figures) 96 (figures_text m.figures) (omega arith) (figures 1 m.figures parts.1))
