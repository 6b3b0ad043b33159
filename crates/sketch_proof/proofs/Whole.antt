-- Each set of squares has 64 truth values, in the sketch of a board and in all that come of it.
use Rattle.std.proofs.Common.{◌≡◌, ℕ, zero, suc, ◌*◌, ◌==◌, inl, inr, Bool, true, false, cond, List, [], ◌∷◌, length, ap, sym, ◌∙◌, subst}
use Rattle.std.proofs.lemmas.List.Elements.{Contains-append_cases}
use Rattle.std.specs.Prelude.{Option, Some, None}
use Rattle.std.specs.List.{Contains, filter, flat_map, range_with_len}
use Rattle.general_lemmas.proofs.Lists.{contains-cases, contains-first, contains-later, contains-none, flat_map-contains, map-contains}
use Rattle.board_base.specs.Board.{Places, at, rank}
use Rattle.board_base.specs.Play.{ahead}
use Rattle.board_base.specs.declared.men.Colour.{Colour}
use Rattle.board_base.specs.declared.men.Kind.{Kind}
use Rattle.board_base.specs.declared.men.Kind.TheVariants.{Pawn, Knight, Bishop, Rook, Queen}
use Rattle.board_base.specs.declared.men.Man.{Man}
use Rattle.cage_rules.proofs.Filling.{length-that}
use Rattle.sketch_node.specs.Figures.{Figure, Sketch, each_changed, figure_at, figure_of, only_on, sketch_of}
use Rattle.sketch_node.specs.Known.{known_at}
use Rattle.sketch_node.specs.Steps.{Step, bystander, changed_by, pawn_before, victim_on}
use Rattle.sketch_node.specs.Trimmed.{trimmed, trimmed_figure, trims}
use Rattle.sketch_node.specs.Places.{placed_in, recounted}
use Rattle.sketch_node.specs.Listed.{Earlier, Listed, earlier, figures_before, is_open, sketch_before, step_for, steps_by, victims_as, ways_to}
use Rattle.sketch_node.specs.TrimmedOut.{trimmed_out}
use Rattle.sketch_node.specs.Victim.{Victim}
use Rattle.sketch_node.specs.Victim.TheVariants.{Nobody, TakenPawn, TakenBishop, TakenOther, PassedPawn}
use Rattle.sketch_text.specs.Marks.{Marks}
use Rattle.sketch_node.specs.Nodes.{marked_with}
use Rattle.sketch_proof.specs.Proofs.{with_lines}

-- the step, and what was before it
abbrev earlier_by : Sketch → Figure → Listed → Earlier
earlier_by T f y = record { step = y; sketch = sketch_before T f y }

abbrev pub AreWhole : Sketch → Type 0
AreWhole S = (f : Figure) → Contains S f → length f.squares ≡ 64

-- figures that are changed
each-whole : (h : ℕ → Figure → Figure) (k : ℕ) (S : Sketch) → ((n : ℕ) (f : Figure) → length f.squares ≡ 64 → length (h n f).squares ≡ 64) → AreWhole S → AreWhole (each_changed h k S)
each-whole h k [] keeps whole f there = absurd (contains-none f there)
each-whole h k (g ∷ S) keeps whole f there = elim (contains-cases (h k g) (each_changed h (suc k) S) f there) [
  | inl same ↦ ap (λ (x : Figure). length x.squares) (sym same) ∙ keeps k g (whole g (contains-first g S))
  | inr later ↦ each-whole h (suc k) S keeps (λ x later_there. whole x (contains-later g S x later_there)) f later
]

-- figures that are made anew
each-made : (h : ℕ → Figure → Figure) (k : ℕ) (S : Sketch) → ((n : ℕ) (f : Figure) → length (h n f).squares ≡ 64) → AreWhole (each_changed h k S)
each-made h k [] makes f there = absurd (contains-none f there)
each-made h k (g ∷ S) makes f there = elim (contains-cases (h k g) (each_changed h (suc k) S) f there) [
  | inl same ↦ ap (λ (x : Figure). length x.squares) (sym same) ∙ makes k g
  | inr later ↦ each-made h (suc k) S makes f later
]

either-whole : (b : Bool) (f g : Figure) → length f.squares ≡ 64 → length g.squares ≡ 64 → length (cond b f g).squares ≡ 64
either-whole true f g first second = first
either-whole false f g first second = second

pub marked-whole : (numbers : List ℕ) (S : Sketch) → AreWhole S → AreWhole (marked_with numbers S)
unfolding marked_with
marked-whole numbers S whole = each-whole _ 0 S (λ n f size. either-whole _ (record f { marked = true }) f size size) whole

pub lines-whole : (marks : List Marks) (S : Sketch) → AreWhole S → AreWhole (with_lines marks S)
lines-whole [] S whole = whole
lines-whole (m ∷ marks) S whole = lines-whole marks (marked_with m.figures S) (marked-whole m.figures S whole)

pub known-whole : (i : ℕ) (k : Kind) (S : Sketch) → AreWhole S → AreWhole (known_at i k S)
unfolding known_at
known-whole i k S whole = each-whole _ 0 S (λ n f size. either-whole (n == i) (record f { kinds = k ∷ [] }) f size size) whole

one-whole : (f : Figure) → length f.squares ≡ 64 → AreWhole (f ∷ [])
one-whole f size g there = elim (contains-cases f [] g there) [
  | inl same ↦ ap (λ (x : Figure). length x.squares) (sym same) ∙ size
  | inr none ↦ absurd (contains-none g none)
]

-- the sketch of a board
figure-whole : (s : ℕ) (place : Option Man) → AreWhole (figure_of s place)
figure-whole s None f there = absurd (contains-none f there)
figure-whole s (Some m) f there = one-whole (record { colour = m.colour; kinds = m.kind ∷ []; squares = only_on s; marked = false; place = rank s }) (length-that _) f there

pub board-whole : (board : Places) → AreWhole (sketch_of board)
unfolding sketch_of
board-whole board f there = let x = flat_map-contains (λ s. figure_of s (at board s)) (range_with_len 0 64) f there in figure-whole x.0 (at board x.0) f x.2

-- what was before a step
changed-made : (c : Colour) (x : Step) (n : ℕ) (f : Figure) → length (changed_by c x n f).squares ≡ 64
changed-made c x n f = either-whole (n == x.by) (pawn_before x f) (bystander c x f) (length-that _) (length-that _)

victim-whole : (f : Figure) (t : ℕ) (v : Victim) → AreWhole (victims_as f t v)
victim-whole f t Nobody g there = absurd (contains-none g there)
victim-whole f t TakenPawn g there = one-whole (victim_on f Pawn t) (length-that _) g there
victim-whole f t TakenBishop g there = one-whole (victim_on f Bishop t) (length-that _) g there
victim-whole f t TakenOther g there = one-whole (record (victim_on f Knight t) { kinds = Knight ∷ Rook ∷ Queen ∷ [] }) (length-that _) g there
victim-whole f t PassedPawn g there = one-whole (victim_on f Pawn (ahead f.colour t)) (length-that _) g there

figures-whole : (T : Sketch) (f : Figure) (y : Listed) → AreWhole (figures_before T f y)
unfolding figures_before
figures-whole T f y g there = elim (Contains-append_cases (each_changed (changed_by f.colour (step_for T f y)) 0 T) (victims_as f y.to y.victim) g there) [
  | inl first ↦ each-made (changed_by f.colour (step_for T f y)) 0 T (changed-made f.colour (step_for T f y)) g first
  | inr last ↦ victim-whole f y.to y.victim g last
]

recounted-whole : (S : Sketch) → AreWhole S → AreWhole (recounted S)
unfolding recounted placed_in
recounted-whole S whole g there = let x = map-contains (placed_in S) S g there in ap (λ (h : Figure). length h.squares) (sym x.2) ∙ whole x.0 x.1

trims-whole : (n : ℕ) (S : Sketch) → AreWhole S → AreWhole (trims n S)
unfolding trimmed
trims-whole zero S whole = whole
trims-whole (suc n) S whole = trims-whole n (trimmed S) (each-made (λ i f. trimmed_figure S f) 0 S (λ i f. length-that _))

before-whole : (T : Sketch) (f : Figure) (y : Listed) → AreWhole (sketch_before T f y)
unfolding sketch_before trimmed_out
before-whole T f y = trims-whole (64 * length (recounted (figures_before T f y))) (recounted (figures_before T f y)) (recounted-whole (figures_before T f y) (figures-whole T f y))

steps-whole : (o : List Bool) (exact : List Bool) (T : Sketch) (i : ℕ) (f : Option Figure) (e : Earlier) → Contains (steps_by o exact T i f) e → AreWhole e.sketch
unfolding steps_by
steps-whole o exact T i None e there = absurd (contains-none e there)
steps-whole o exact T i (Some f) e there =
    let x = map-contains (earlier_by T f) (filter (is_open o exact T f) (flat_map (ways_to T i f) (range_with_len 0 64))) e there in
    subst (λ (d : Earlier). AreWhole d.sketch) x.2 (before-whole T f x.0)

pub earlier-whole : (o : List Bool) (exact : List Bool) (T : Sketch) (e : Earlier) → Contains (earlier o exact T) e → AreWhole e.sketch
unfolding earlier
earlier-whole o exact T e there = let x = flat_map-contains (λ i. steps_by o exact T i (figure_at T i)) (range_with_len 0 (length T)) e there in steps-whole o exact T x.0 (figure_at T x.0) e x.2
