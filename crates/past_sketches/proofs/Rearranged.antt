-- A sketch that fits a moment has no more figures than the array has men, and fits with its figures in another order.
use Rattle.std.proofs.Common.{◌≡◌, ℕ, ◌<◌, ◌≤◌, Bool, true, List, ap, sym, ◌∙◌, refl, subst, arith}
use Rattle.std.proofs.lemmas.Bool.{ltb-true}
use Rattle.std.specs.Prelude.{Some}
use Rattle.std.specs.List.{count_by, range_with_len}
use Rattle.board_base.specs.Board.{array_of, at, is_a, is_in, is_of, same_colour}
use Rattle.board_base.specs.Game.{IsGame, board_after}
use Rattle.board_base.specs.declared.men.Colour.{Colour}
use Rattle.board_base.specs.declared.men.Kind.{Kind}
use Rattle.board_base.specs.declared.men.Kind.TheVariants.{Pawn, King}
use Rattle.board_base.specs.declared.men.Man.{Man}
use Rattle.board_base.specs.declared.moves.Move.{Move}
use Rattle.board_base.proofs.KindsOfMen.{another_kind, colour_is, kind_is}
use Rattle.board_base.proofs.Without.{length-array}
use Rattle.play_rules.proofs.Kings.{within}
use Rattle.men_account.proofs.Labelled.{labels-apart, labels-colours}
use Rattle.men_account.proofs.PawnLaws.{himself}
use Rattle.past_sketches.specs.Clashes.{is_crowded}
use Rattle.past_sketches.specs.Figures.{Figure, IsRearranged, Sketch, figure_at, may_be}
use Rattle.past_sketches.specs.Fits.{Fits, IsManOf, IsPawnOn}
use Rattle.past_sketches.proofs.Wanted.{fewer}
use Rattle.past_sketches.proofs.Wider.{stands-wider}

-- each figure's man began where the array has one of his colour
begins-own : (o : List Bool) (p : List Move) (S : Sketch) → IsGame o p → (fits : Fits o p S) → (c : Colour) (i : ℕ) (f : Figure) → figure_at S i ≡ Some f → same_colour c f.colour ≡ true → (fits.label i < 64) × (is_of c (at (array_of o) (fits.label i)) ≡ true)
begins-own o p S game fits c i f found his =
    let stands = fits.stand i f found in
    let of_his : is_of stands.1.colour (at (array_of o) (fits.label i)) ≡ true = labels-colours o p game stands.0 (fits.label i) stands.1 stands.2.label stands.2.there in
    let own : is_of c (at (array_of o) (fits.label i)) ≡ true = subst (λ (d : Colour). is_of d (at (array_of o) (fits.label i)) ≡ true) (stands.2.colour ∙ sym (colour_is c f.colour his)) of_his in
    (rw (← length-array o) (within (is_of c) (array_of o) (fits.label i) refl own), own)

pub crowd-none : (o : List Bool) (p : List Move) (S : Sketch) (c : Colour) → IsGame o p → Fits o p S → is_crowded o S c ≡ true → ⊥
unfolding is_crowded
crowd-none o p S c game fits more =
    let few : count_by (λ f. same_colour c f.colour) S ≤ count_by (λ h. is_of c (at (array_of o) h)) (range_with_len 0 64) = fewer S (λ f. same_colour c f.colour) (λ h. is_of c (at (array_of o) h)) fits.label (begins-own o p S game fits c) fits.apart in
    let many = ltb-true _ _ more in
    omega (arith, few, many)

-- the figure of a pawn on s
pawn-on : (o : List Bool) (p : List Move) (f : Figure) (l s t : ℕ) (m : Man) → IsGame o p → IsManOf o p f l t m → IsPawnOn o p l s → (may_be f Pawn ≡ true) × (is_in f.squares s ≡ true)
pawn-on o p f l s t m game it on =
    let here : t ≡ s = labels-apart o p game t s l it.label on.label in
    let pawn : Pawn ≡ m.kind = kind_is Pawn m.kind (ap (is_a Pawn) (sym it.there) ∙ ap (λ (u : ℕ). is_a Pawn (at (board_after o p) u)) here ∙ on.pawn) in
    (subst (λ (k : Kind). may_be f k ≡ true) (sym pawn) it.kind, subst (λ (u : ℕ). is_in f.squares u ≡ true) here it.square)

-- the figure of a king
king-figure : (o : List Bool) (p : List Move) (f : Figure) (h s : ℕ) (m : Man) → IsGame o p → IsManOf o p f h s m → is_a King (at (array_of o) h) ≡ true → may_be f King ≡ true
king-figure o p f h s m game it king =
    let same : at (array_of o) h ≡ Some m = himself o p game s h m it.label it.there (another_kind Pawn King (at (array_of o) h) king) in
    subst (λ (k : Kind). may_be f k ≡ true) (sym (kind_is King m.kind (ap (is_a King) (sym same) ∙ king))) it.kind

pub rearranged-fits : (o : List Bool) (p : List Move) (S T : Sketch) → IsGame o p → Fits o p S → IsRearranged S T → Fits o p T
rearranged-fits o p S T game fits r = record {
  label = λ j. fits.label (r.from j);
  stand = λ j g e. let f = r.wider j g e in stands-wider o p f.0 g (fits.label (r.from j)) f.2 (fits.stand (r.from j) f.0 f.1);
  apart = λ i j f g e1 e2 same. let a = r.wider i f e1 in let b = r.wider j g e2 in r.apart i j f g e1 e2 (fits.apart (r.from i) (r.from j) a.0 b.0 a.1 b.1 same);
  kings = λ h king.
      let k = fits.kings h king in
      let his = fits.stand k.0 k.1 k.2 in
      let g = r.kings k.0 k.1 k.2 (king-figure o p k.1 h his.0 his.1 game (subst (λ (l : ℕ). IsManOf o p k.1 l his.0 his.1) k.3 his.2) king) in
      (g.0, g.1, g.2, ap fits.label g.3 ∙ k.3);
  order = λ i j f' g' s t e1 e2 a b level lower.
      let f = r.wider i f' e1 in
      let g = r.wider j g' e2 in
      let here = fits.stand (r.from i) f.0 f.1 in
      let there = fits.stand (r.from j) g.0 g.1 in
      let x = pawn-on o p f.0 (fits.label (r.from i)) s here.0 here.1 game here.2 a in
      let y = pawn-on o p g.0 (fits.label (r.from j)) t there.0 there.1 game there.2 b in
      r.places i j s t f.0 g.0 f' g' f.1 g.1 e1 e2 x.0 y.0 x.1 y.1 level (fits.order (r.from i) (r.from j) f.0 g.0 s t f.1 g.1 a b level lower);
}
