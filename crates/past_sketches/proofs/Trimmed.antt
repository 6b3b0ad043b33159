-- A sketch that fits a moment fits it trimmed.
use Rattle.std.proofs.Common.{◌≡◌, ℕ, ◌<◌, inl, inr, Bool, true, ◌&&◌, not, List, ap, sym, ◌∙◌, subst, arith}
use Rattle.std.proofs.lemmas.Bool.{and_from, cases_Bool, cases_lt, ltb-true, not_from_false, or_left, or_right}
use Rattle.std.proofs.lemmas.Option.{same_Some}
use Rattle.std.specs.Prelude.{Some, nat_lt}
use Rattle.std.specs.List.{list_all}
use Rattle.board_base.specs.Board.{file, is_a, is_in, rank, same_kind}
use Rattle.board_base.specs.Game.{IsGame, board_after}
use Rattle.board_base.specs.declared.men.Kind.TheVariants.{Pawn}
use Rattle.board_base.specs.declared.men.Man.{Man}
use Rattle.board_base.specs.declared.moves.Move.{Move}
use Rattle.cage_rules.proofs.Filling.{is_in-that}
use Rattle.men_account.specs.Labels.{label_at, labels_after}
use Rattle.play_rules.proofs.Kings.{length-after}
use Rattle.past_sketches.specs.Figures.{Figure, Sketch, figure_at, fixed_squares, is_fixed_on}
use Rattle.past_sketches.specs.FileOrder.{leaves_room}
use Rattle.past_sketches.specs.Trimmed.{is_in_order, is_left_to, trimmed, trimmed_figure}
use Rattle.past_sketches.specs.Fits.{Fits, IsManOf, IsPawnOn}
use Rattle.past_sketches.proofs.Changed.{fits-changed}
use Rattle.past_sketches.proofs.Order.{other-rank, room-by}
use Rattle.past_sketches.proofs.Sketches.{AnyFigure, each-figure, each-kind, fixed-by, fixed-there}
use Rattle.past_sketches.proofs.Wider.{man-inside}

-- the label of a fixed figure's man is on his square
pub fixed-label : (o : List Bool) (p : List Move) (S : Sketch) (q : ℕ) → IsGame o p → (fits : Fits o p S) → (by : AnyFigure S (is_fixed_on q)) → label_at (labels_after o p) q ≡ Some (fits.label by.number)
fixed-label o p S q game fits by =
    let his = fits.stand by.number by.figure by.found in
    let small = man-inside (board_after o p) his.0 his.1 (length-after o p game) his.2.there in
    subst (λ (s : ℕ). label_at (labels_after o p) s ≡ Some (fits.label by.number)) (fixed-there q his.0 by.figure by.passes small his.2.square) his.2.label

module _ (o : List Bool) (p : List Move) (T : Sketch) (game : IsGame o p) (fits : Fits o p T) where
  -- figures whose men stand on one square are one
  same-square : (i j : ℕ) (f g : Figure) (s : ℕ) → figure_at T i ≡ Some f → figure_at T j ≡ Some g → label_at (labels_after o p) s ≡ Some (fits.label i) → label_at (labels_after o p) s ≡ Some (fits.label j) → f ≡ g
  same-square i j f g s e1 e2 a b =
      let same : i ≡ j = fits.apart i j f g e1 e2 (same_Some _ _ (sym a ∙ b)) in
      same_Some _ _ (sym e1 ∙ ap (figure_at T) same ∙ e2)

  own-square : (i : ℕ) (f : Figure) (s : ℕ) (m : Man) → figure_at T i ≡ Some f → IsManOf o p f (fits.label i) s m → is_left_to T f s ≡ true
  own-square i f s m found it = elim (cases_Bool (is_in (fixed_squares T) s)) [
    | inr free ↦ or_left _ _ (not_from_false _ free)
    | inl member ↦
        let by = fixed-by T s member in
        let same : by.figure ≡ f = same-square by.number i by.figure f s by.found found (fixed-label o p T s game fits by) it.label in
        or_right (not (is_in (fixed_squares T) s)) _ (subst (λ (g : Figure). is_fixed_on s g ≡ true) same by.passes)
  ]

  -- two pawns of a file, by their places
  by-places : (i n : ℕ) (f g : Figure) (s w : ℕ) → figure_at T i ≡ Some f → figure_at T n ≡ Some g → IsPawnOn o p (fits.label i) s → IsPawnOn o p (fits.label n) w → file w ≡ file s → (g.place < f.place → rank w < rank s) × (f.place < g.place → rank s < rank w)
  by-places i n f g s w e1 e2 a b here = (
    λ lower. elim (cases_lt (rank s) (rank w)) [
      | inl above ↦ absurd (let higher = fits.order i n f g s w e1 e2 a b (sym here) above in omega (arith, lower, higher))
      | inr not_above ↦ let other = other-rank w s here (λ same. apart same (λ e. omega (arith, lower, e))) in omega (arith, not_above, other)
    ],
    λ higher. elim (cases_lt (rank w) (rank s)) [
      | inl below ↦ absurd (let lower = fits.order n i g f w s e2 e1 b a here below in omega (arith, lower, higher))
      | inr not_below ↦ let other = other-rank w s here (λ same. apart same (λ e. omega (arith, higher, e))) in omega (arith, not_below, other)
    ],
  )
    where
      apart : w ≡ s → (f.place ≡ g.place → ⊥) → ⊥
      apart same none = none (ap (λ (x : Figure). x.place) (same-square i n f g s e1 e2 a.label (subst (λ (t : ℕ). label_at (labels_after o p) t ≡ Some (fits.label n)) same b.label)))

  in-order : (i : ℕ) (f : Figure) (s : ℕ) (m : Man) → figure_at T i ≡ Some f → IsManOf o p f (fits.label i) s m → is_in_order T f s ≡ true
  in-order i f s m found it = elim (cases_Bool (list_all (same_kind Pawn) f.kinds)) [
    | inr other ↦ or_left _ _ (not_from_false _ other)
    | inl pawns ↦ or_right (not (list_all (same_kind Pawn) f.kinds)) _ (each-figure T (leaves_room f s) (λ n g e.
        let his = fits.stand n g e in
        room-by g s his.0 (nat_lt g.place f.place) (nat_lt f.place g.place) (man-inside (board_after o p) his.0 his.1 (length-after o p game) his.2.there) his.2.square (λ here kinds.
        let me : IsPawnOn o p (fits.label i) s = record { label = it.label; pawn = ap (is_a Pawn) it.there ∙ each-kind f.kinds (same_kind Pawn) m.kind pawns it.kind } in
        let other : IsPawnOn o p (fits.label n) his.0 = record { label = his.2.label; pawn = ap (is_a Pawn) his.2.there ∙ each-kind g.kinds (same_kind Pawn) his.1.kind kinds his.2.kind } in
        let both = by-places i n f g s his.0 found e me other here in
        (λ is. both.0 (ltb-true _ _ is), λ is. both.1 (ltb-true _ _ is)))))
  ]

  pub trim-fits : Fits o p (trimmed T)
  unfolding trimmed
  trim-fits = fits-changed o p p T (λ i f. trimmed_figure T f) fits (λ i f found.
      let his = fits.stand i f found in
      let small = man-inside (board_after o p) his.0 his.1 (length-after o p game) his.2.there in
      let member : is_in (trimmed_figure T f).squares his.0 ≡ true = is_in-that (λ s. is_in f.squares s && is_left_to T f s && is_in_order T f s) his.0 small ∙ and_from _ _ (and_from _ _ his.2.square (own-square i f his.0 his.1 found his.2)) (in-order i f his.0 his.1 found his.2) in
      (his.0, his.1, record { label = his.2.label; there = his.2.there; colour = his.2.colour; kind = his.2.kind; square = member; mark = his.2.mark }))
      (λ i j f g s t e1 e2 a b level lower. fits.order i j f g s t e1 e2 a b level lower)
