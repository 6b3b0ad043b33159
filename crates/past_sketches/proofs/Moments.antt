-- The last move of a game after which a closed sketch fits: where the men of the figures came from, and what was empty.
use Rattle.std.proofs.Common.{◌≡◌, ◌≢◌, ℕ, ◌<◌, Bool, true, false, cond, not, List, [], ◌∷◌, ◌++◌, length, refl, ap, sym, ◌∙◌, subst}
use Rattle.std.proofs.lemmas.Bool.{and_parts, and_from, both_ways}
use Rattle.std.specs.Prelude.{Some}
use Rattle.board_base.specs.Board.{array_of, at, is_a, is_in, is_of, same_kind}
use Rattle.board_base.specs.Game.{IsGame, board_after, last_move, turn_after, unmoved}
use Rattle.board_base.specs.Rights.{Rights, holds}
use Rattle.board_base.specs.declared.men.Kind.TheVariants.{Pawn}
use Rattle.board_base.specs.declared.men.Man.{Man}
use Rattle.board_base.specs.declared.moves.Move.{Move}
use Rattle.board_base.specs.declared.castles.Castle.{Castle}
use Rattle.play_rules.proofs.Legality.{Legality, legality}
use Rattle.play_rules.proofs.Games.{board_after-more, game_before, legal_last}
use Rattle.play_rules.proofs.Kings.{length-after, within}
use Rattle.men_account.specs.Labels.{labels_after}
use Rattle.men_account.proofs.Labelled.{labels_after-more, length-labels}
use Rattle.men_account.proofs.Origins.{Before, before}
use Rattle.men_fates.specs.Deeds.{way_by, way_of}
use Rattle.men_fates.specs.Ways.{is_straight}
use Rattle.men_fates.proofs.MoreDeeds.{way-more}
use Rattle.past_sketches.specs.Closed.{IsClosed}
use Rattle.past_sketches.specs.Figures.{Figure, Sketch, figure_at, fixed_squares, is_fixed_on}
use Rattle.past_sketches.specs.Fits.{Fits, IsManOf, is_plain}
use Rattle.past_sketches.proofs.Sketches.{fixed-by, fixed-there}
use Rattle.past_sketches.proofs.Wider.{man-inside}

-- a closed sketch fits after the move
pub record Moment (o : List Bool) (p : List Move) (m : Move) (held : Rights) (exact : List Bool) (T : Sketch) : Type 0 where
  pub game : IsGame o (p ++ m ∷ [])
  pub rights : (x : Castle) → holds held x ≡ true → unmoved o (p ++ m ∷ []) x ≡ true
  pub fits : Fits o (p ++ m ∷ []) T
  pub closed : IsClosed held exact T

-- the man of a figure after the move, on this square, and how he came there
pub record LastMan (o : List Bool) (p : List Move) (m : Move) (f : Figure) (l s : ℕ) : Type 0 where
  pub man : Man
  pub now : IsManOf o (p ++ m ∷ []) f l s man
  pub back : Before (board_after o p) (labels_after o p) m s l man

-- the man of a figure that is fixed on this square
pub record FixedMan (o : List Bool) (p : List Move) (m : Move) (T : Sketch) (label : ℕ → ℕ) (q : ℕ) : Type 0 where
  pub number : ℕ
  pub figure : Figure
  pub found : figure_at T number ≡ Some figure
  pub fixed : is_fixed_on q figure ≡ true
  pub last : LastMan o p m figure (label number) q

-- a straight way begins with one
straight-first : (s : ℕ) (a b : List ℕ) → is_straight s (a ++ b) ≡ true → is_straight s a ≡ true
straight-first s [] b h = refl
straight-first s (t ∷ a) b h = let parts = and_parts _ _ h in and_from _ _ parts.0 (straight-first t a b parts.1)

plain-as : (o : List Bool) (p : List Move) (m : Move) (l : ℕ) (pawn last : Bool) → cond pawn (is_straight l (way_of o (p ++ m ∷ []) l)) last ≡ true → cond pawn (is_straight l (way_of o p l)) last ≡ true
plain-as o p m l true last h = straight-first l (way_of o p l) (way_by l (board_after o p) (labels_after o p) m) (sym (ap (is_straight l) (way-more o p m l)) ∙ h)
plain-as o p m l false last h = h

-- what a mark says after a move it said before
pub plain-before : (o : List Bool) (p : List Move) (m : Move) (l : ℕ) (man : Man) → is_plain o (p ++ m ∷ []) l man ≡ true → is_plain o p l man ≡ true
plain-before o p m l man h = plain-as o p m l (same_kind Pawn man.kind) (not (is_a Pawn (at (array_of o) l))) h

module _ (o : List Bool) (p : List Move) (m : Move) (held : Rights) (exact : List Bool) (T : Sketch) (it : Moment o p m held exact T) where
  pub earlier : IsGame o p
  earlier = game_before o p m it.game

  pub legal : Legality (board_after o p) (turn_after p) (unmoved o p) (last_move p) m
  legal = legality _ _ _ _ _ (legal_last o p m it.game)

  pub size : length (board_after o p) ≡ 64
  size = length-after o p earlier

  pub from-within : m.from < 64
  from-within = rw (← size) (within (is_of (turn_after p)) (board_after o p) m.from refl legal.mover)

  pub from-not-to : m.from ≢ m.to
  from-not-to same = both_ways _ legal.not_own (subst (λ (s : ℕ). is_of (turn_after p) (at (board_after o p) s) ≡ true) same legal.mover)

  last-man : (f : Figure) (l s : ℕ) (man : Man) → IsManOf o (p ++ m ∷ []) f l s man → LastMan o p m f l s
  last-man f l s man now = record {
    man = man;
    now = now;
    back = before (board_after o p) (labels_after o p) (turn_after p) (unmoved o p) (last_move p) m size (length-labels o p earlier) legal s l man (rw labels_after-more at now.label) (rw board_after-more at now.there);
  }

  -- each figure's man
  pub man-of : (i : ℕ) (f : Figure) → figure_at T i ≡ Some f → (s : ℕ) × LastMan o p m f (it.fits.label i) s
  man-of i f e = let at_end = it.fits.stand i f e in (at_end.0, last-man f (it.fits.label i) at_end.0 at_end.1 at_end.2)

  pub inside : (f : Figure) (l s : ℕ) → LastMan o p m f l s → s < 64
  inside f l s last = man-inside (board_after o (p ++ m ∷ [])) s last.man (length-after o (p ++ m ∷ []) it.game) last.now.there

  -- and of a figure that is fixed
  pub fixed-man : (q : ℕ) → is_in (fixed_squares T) q ≡ true → FixedMan o p m T it.fits.label q
  fixed-man q member =
      let by = fixed-by T q member in
      let his = man-of by.number by.figure by.found in
      let here : his.0 ≡ q = fixed-there q his.0 by.figure by.passes (inside by.figure _ his.0 his.1) his.1.now.square in
      record { number = by.number; figure = by.figure; found = by.found; fixed = by.passes; last = subst (LastMan o p m by.figure (it.fits.label by.number)) here his.1 }
