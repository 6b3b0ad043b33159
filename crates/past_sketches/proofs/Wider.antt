-- A sketch fits where one does that it is above, and before the first move each figure's man is at home.
use Rattle.std.proofs.Common.{◌≡◌, ℕ, ◌<◌, Bool, true, not, zero, suc, List, [], ◌∷◌, length, refl, ap, ◌∙◌, subst}
use Rattle.std.proofs.lemmas.Bool.{and_from}
use Rattle.std.proofs.lemmas.Option.{same_Some}
use Rattle.std.specs.Prelude.{Option, Some}
use Rattle.board_base.specs.Board.{Places, array_of, at, is_empty, is_the}
use Rattle.board_base.specs.declared.men.Man.{Man}
use Rattle.board_base.specs.declared.moves.Move.{Move}
use Rattle.board_base.proofs.KindsOfMen.{same_colour-self, same_kind-self}
use Rattle.play_rules.proofs.Kings.{length-after, within}
use Rattle.play_rules.proofs.Games.{no_moves}
use Rattle.past_sketches.specs.Figures.{AreWider, Figure, IsAbove, IsWider, Sketch, figure_at}
use Rattle.past_sketches.specs.Homes.{is_home}
use Rattle.past_sketches.specs.Fits.{Fits, IsManOf, Stands}
use Rattle.past_sketches.proofs.Sketches.{kind-any}

pub stands-wider : (o : List Bool) (p : List Move) (f g : Figure) (l : ℕ) → IsWider f g → Stands o p f l → Stands o p g l
stands-wider o p f g l wide (s, m, it) =
    (s, m, record { label = it.label; there = it.there; colour = it.colour ∙ wide.colour; kind = wide.kinds m.kind it.kind; square = wide.squares s it.square; mark = λ marked. it.mark (wide.marked marked) })

above-at : (S T : Sketch) (i : ℕ) (g : Figure) → AreWider S T → figure_at T i ≡ Some g → (f : Figure) × (figure_at S i ≡ Some f) × IsWider f g
above-at [] [] i g above e = cc
above-at [] (h ∷ T) i g above e = elim above [ ]
above-at (f ∷ S) [] i g above e = elim above [ ]
above-at (f ∷ S) (h ∷ T) zero g above e = (f, refl, subst (IsWider f) (same_Some _ _ e) above.0)
above-at (f ∷ S) (h ∷ T) (suc i) g above e = above-at S T i g above.1 e

below-at : (S T : Sketch) (i : ℕ) (f : Figure) → AreWider S T → figure_at S i ≡ Some f → (g : Figure) × (figure_at T i ≡ Some g)
below-at [] T i f above e = cc
below-at (h ∷ S) [] i f above e = elim above [ ]
below-at (h ∷ S) (g ∷ T) zero f above e = (g, refl)
below-at (h ∷ S) (g ∷ T) (suc i) f above e = below-at S T i f above.1 e

pub fits-wider : (o : List Bool) (p : List Move) (S T : Sketch) → Fits o p S → IsAbove S T → Fits o p T
fits-wider o p S T fits above = record {
  label = fits.label;
  stand = λ i g e. let f = above-at S T i g above.wider e in stands-wider o p f.0 g (fits.label i) f.2 (fits.stand i f.0 f.1);
  apart = λ i j f g e1 e2 same. let a = above-at S T i f above.wider e1 in let b = above-at S T j g above.wider e2 in fits.apart i j a.0 b.0 a.1 b.1 same;
  kings = λ h king. let k = fits.kings h king in let g = below-at S T k.0 k.1 above.wider k.2 in (k.0, g.0, g.1, k.3);
  order = λ i j f g s t e1 e2 here there file_is lower.
      let a = above-at S T i f above.wider e1 in
      let b = above-at S T j g above.wider e2 in
      above.places i j a.0 b.0 f g a.1 b.1 e1 e2 (fits.order i j a.0 b.0 s t a.1 b.1 here there file_is lower);
}

-- who stands on a square stands on the board
pub man-inside : (board : Places) (s : ℕ) (m : Man) → length board ≡ 64 → at board s ≡ Some m → s < 64
man-inside board s m len there = rw (← len) (within (λ p. not (is_empty p)) board s refl (ap (λ (p : Option Man). not (is_empty p)) there))

-- before the first move he stands at home
pub begins : (o : List Bool) (f : Figure) (l s : ℕ) (m : Man) → IsManOf o [] f l s m → (s < 64) × (is_home o f s ≡ true)
begins o f l s m it =
    let his : is_the f.colour m.kind (at (array_of o) s) ≡ true = rw it.there (rw it.colour (and_from _ _ (same_colour-self f.colour) (same_kind-self m.kind))) in
    (man-inside (array_of o) s m (length-after o [] (no_moves o)) it.there, and_from _ _ it.square (kind-any f.kinds (λ k. is_the f.colour k (at (array_of o) s)) m.kind it.kind his))
