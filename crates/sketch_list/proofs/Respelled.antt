-- Sketches in another spelling: with the same figures by other numbers, each wider, and with other places in the same order.
use Rattle.std.proofs.Common.{◌≡◌, ℕ, ◌<◌, ◌≤◌, inl, inr, true, ap, sym, ◌∙◌, subst, arith}
use Rattle.std.proofs.lemmas.Bool.{and_from, and_parts, cases_lt, lt-ltb, ltb-true}
use Rattle.std.proofs.lemmas.Option.{same_Some}
use Rattle.std.specs.Prelude.{Some, count_by, nat_lt}
use Rattle.board_base.specs.Board.{file, is_in}
use Rattle.board_base.specs.declared.men.Kind.TheVariants.{Pawn}
use Rattle.past_account.specs.Figures.{Figure, IsRearranged, IsWider, Sketch, figure_at, may_be}
use Rattle.sketch_steps.specs.Places.{is_lower, placed_in, recounted}
use Rattle.sketch_steps.proofs.Closing.{map-at}
use Rattle.sketch_steps.proofs.Rearranging.{IsMoved, count-more, placed-wider, places-kept, unmapped}

pub record IsRespelled (S T : Sketch) : Type 0 where
  pub from : ℕ → ℕ
  pub wider : (j : ℕ) (g : Figure) → figure_at T j ≡ Some g → (f : Figure) × (figure_at S (from j) ≡ Some f) × IsWider f g
  pub apart : (i j : ℕ) (f g : Figure) → figure_at T i ≡ Some f → figure_at T j ≡ Some g → from i ≡ from j → i ≡ j
  pub back : (i : ℕ) (f : Figure) → figure_at S i ≡ Some f → (j : ℕ) × (g : Figure) × (figure_at T j ≡ Some g) × (from j ≡ i)
  pub order : (i j s t : ℕ) (f g f' g' : Figure) → figure_at S (from i) ≡ Some f → figure_at S (from j) ≡ Some g → figure_at T i ≡ Some f' → figure_at T j ≡ Some g' → may_be f Pawn ≡ true → may_be g Pawn ≡ true → is_in f.squares s ≡ true → is_in g.squares t ≡ true → file s ≡ file t → (f.place < g.place → f'.place < g'.place) × (f'.place < g'.place → f.place < g.place)

pub respelled-rearranged : (S T : Sketch) → IsRespelled S T → IsRearranged S T
respelled-rearranged S T r = record {
  from = r.from;
  wider = r.wider;
  apart = r.apart;
  kings = λ i f e king. r.back i f e;
  places = λ i j s t f g f' g' e1 e2 e3 e4 mf mg on there level. (r.order i j s t f g f' g' e1 e2 e3 e4 mf mg on there level).0;
}

wider-then : (f g h : Figure) → IsWider f g → IsWider g h → IsWider f h
wider-then f g h a b = record { colour = a.colour ∙ b.colour; kinds = λ k may. b.kinds k (a.kinds k may); squares = λ s member. b.squares s (a.squares s member); marked = λ marked. a.marked (b.marked marked) }

-- one spelling after another
module _ (S T U : Sketch) (a : IsRespelled S T) (b : IsRespelled T U) where
  ordered : (i j s t : ℕ) (f g f' g' : Figure) → figure_at S (a.from (b.from i)) ≡ Some f → figure_at S (a.from (b.from j)) ≡ Some g → figure_at U i ≡ Some f' → figure_at U j ≡ Some g' → may_be f Pawn ≡ true → may_be g Pawn ≡ true → is_in f.squares s ≡ true → is_in g.squares t ≡ true → file s ≡ file t → (f.place < g.place → f'.place < g'.place) × (f'.place < g'.place → f.place < g.place)
  ordered i j s t f g f' g' e1 e2 e3 e4 mf mg on there level =
      let x = b.wider i f' e3 in
      let y = b.wider j g' e4 in
      let u = a.wider (b.from i) x.0 x.1 in
      let v = a.wider (b.from j) y.0 y.1 in
      let same : u.0 ≡ f = same_Some u.0 f (sym u.1 ∙ e1) in
      let same' : v.0 ≡ g = same_Some v.0 g (sym v.1 ∙ e2) in
      let wide : IsWider f x.0 = subst (λ (z : Figure). IsWider z x.0) same u.2 in
      let wide' : IsWider g y.0 = subst (λ (z : Figure). IsWider z y.0) same' v.2 in
      let first = a.order (b.from i) (b.from j) s t f g x.0 y.0 e1 e2 x.1 y.1 mf mg on there level in
      let second = b.order i j s t x.0 y.0 f' g' x.1 y.1 e3 e4 (wide.kinds Pawn mf) (wide'.kinds Pawn mg) (wide.squares s on) (wide'.squares t there) level in
      (λ low. second.0 (first.0 low), λ low. first.1 (second.1 low))

  pub respelled-then : IsRespelled S U
  respelled-then = record {
    from = λ j. a.from (b.from j);
    wider = λ j h e. let y = b.wider j h e in let x = a.wider (b.from j) y.0 y.1 in (x.0, x.1, wider-then x.0 y.0 h x.2 y.2);
    apart = λ i j f g e1 e2 same. let x = b.wider i f e1 in let y = b.wider j g e2 in b.apart i j f g e1 e2 (a.apart (b.from i) (b.from j) x.0 y.0 x.1 y.1 same);
    back = λ i f e. let x = a.back i f e in let y = b.back x.0 x.1 x.2 in (y.0, y.1, y.2, ap a.from y.3 ∙ x.3);
    order = ordered;
  }

-- counting the places anew keeps their order
lower-also : (a b f : Figure) → a.place ≤ b.place → is_lower a f ≡ true → is_lower b f ≡ true
unfolding is_lower
lower-also a b f low h =
    let parts = and_parts (may_be f Pawn) (nat_lt f.place a.place) h in
    let under : f.place < a.place = ltb-true f.place a.place parts.1 in
    and_from (may_be f Pawn) (nat_lt f.place b.place) parts.0 (lt-ltb f.place b.place (omega arith))

places-told : (T : Sketch) (a b : Figure) → (placed_in T a).place < (placed_in T b).place → a.place < b.place
unfolding placed_in
places-told T a b low = elim (cases_lt a.place b.place) [
  | inl under ↦ under
  | inr over ↦ absurd (let more : count_by (is_lower b) T ≤ count_by (is_lower a) T = count-more (is_lower b) (is_lower a) T (λ f h. lower-also b a f over h) in omega (arith, more, low))
]

pub moved-respelled : (S T : Sketch) → IsMoved S T → IsRespelled S (recounted T)
unfolding recounted
moved-respelled S T m = record {
  from = m.from;
  wider = λ j g e. let u = unmapped (placed_in T) T j g e in (u.0, m.each j u.0 u.1, subst (λ (x : Figure). IsWider u.0 x) u.2 (placed-wider T u.0));
  apart = λ i j f g a b same. let u = unmapped (placed_in T) T i f a in let v = unmapped (placed_in T) T j g b in m.apart i j u.0 v.0 u.1 v.1 same;
  back = λ i f e. let b = m.back i f e in (b.0, placed_in T f, map-at (placed_in T) T b.0 f b.1, b.2);
  order = λ i j s t f g f' g' a b d e mf mg on there level.
      let u = unmapped (placed_in T) T i f' d in
      let v = unmapped (placed_in T) T j g' e in
      let same : u.0 ≡ f = same_Some u.0 f (sym (m.each i u.0 u.1) ∙ a) in
      let same' : v.0 ≡ g = same_Some v.0 g (sym (m.each j v.0 v.1) ∙ b) in
      let mine : placed_in T f ≡ f' = ap (placed_in T) (sym same) ∙ u.2 in
      let his : placed_in T g ≡ g' = ap (placed_in T) (sym same') ∙ v.2 in
      let there_f : figure_at T i ≡ Some f = subst (λ (x : Figure). figure_at T i ≡ Some x) same u.1 in (
        λ low. subst (λ (x : Figure). x.place < g'.place) mine (subst (λ (x : Figure). (placed_in T f).place < x.place) his (places-kept T i f g there_f mf low)),
        λ low. places-told T f g (subst (λ (x : Figure). x.place < (placed_in T g).place) (sym mine) (subst (λ (x : Figure). f'.place < x.place) (sym his) low)),
      );
}
