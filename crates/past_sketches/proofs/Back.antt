-- Before a quiet move each figure's man stood on one of the figure's squares.
use Rattle.std.proofs.Common.{◌≡◌, ◌≢◌, ℕ, zero, suc, ◌<◌, ◌==◌, ◌⊎◌, inl, inr, Bool, true, false, ◌||◌, not, List, [], ◌∷◌, ◌++◌, refl, ap, sym, ◌∙◌, subst, arith}
use Rattle.past_sketches.proofs.Order.{Sides}
use Rattle.men_account.proofs.Labelled.{labels-apart}
use Rattle.std.proofs.lemmas.Bool.{and_from, both_ways, cases_Bool, eqb-true, false_from_ne_true, cases_eq, or_left, or_right}
use Rattle.std.specs.Prelude.{Option, Some, None, is_some}
use Rattle.board_base.specs.Board.{Places, at, file, is_a, is_empty, is_in, rank, same_kind}
use Rattle.board_base.specs.Play.{castling, crossed, rook_home}
use Rattle.board_base.specs.Legal.{promotion_fits}
use Rattle.board_base.specs.Game.{board_after, last_move, turn_after, unmoved}
use Rattle.board_base.specs.Rights.{Rights}
use Rattle.board_base.specs.declared.men.Colour.{Colour}
use Rattle.board_base.specs.declared.men.Kind.{Kind}
use Rattle.board_base.specs.declared.men.Kind.TheVariants.{Pawn, Rook, King}
use Rattle.board_base.specs.declared.men.Man.{Man}
use Rattle.board_base.specs.declared.moves.Move.{Move}
use Rattle.board_base.specs.declared.castles.Castle.{Castle}
use Rattle.board_base.proofs.KindsOfMen.{another_kind, kind_is, no-promo}
use Rattle.play_rules.proofs.Kings.{castle-ends}
use Rattle.men_account.specs.Labels.{label_at, labels_after}
use Rattle.men_account.proofs.Origins.{Came, moved_here, promoted_man, rook-there, stayed, with_the_king}
use Rattle.past_sketches.specs.Figures.{Figure, Sketch, figure_at}
use Rattle.past_sketches.specs.Steps.{is_deed}
use Rattle.past_sketches.specs.Fits.{Fits, IsManOf, IsPawnOn, Stands}
use Rattle.past_sketches.proofs.Moments.{Moment, earlier, legal, man-of, plain-before}
use Rattle.past_sketches.proofs.Quiet.{mover-colour, officer-from, pawn-from, pawn-sides}
use Rattle.past_sketches.proofs.Castling.{king-from, rook-from}

no-some : (promo : Option Kind) → is_some promo ≡ false → promo ≡ None
no-some None h = refl
no-some (Some k) h = cc

-- a move that is no such deed promotes nobody, and as a pawn's goes straight on
pub deed-none : (exact : List Bool) (board : Places) (c : Colour) (m : Move) → is_deed exact board m ≡ false → promotion_fits board c m ≡ true → m.promo ≡ None
unfolding promotion_fits is_deed
deed-none exact board c m quiet fits = elim (cases_Bool (is_a Pawn (at board m.from))) [
  | inr piece ↦ no-promo m.promo (is_a Pawn (at board m.from)) _ piece fits
  | inl pawn ↦ no-some m.promo (false_from_ne_true _ (λ some. both_ways _ quiet (and_from _ _ pawn (or_left _ _ (or_left _ _ some)))))
]

pub deed-straight : (exact : List Bool) (board : Places) (m : Move) → is_deed exact board m ≡ false → is_a Pawn (at board m.from) ≡ true → file m.from ≡ file m.to
unfolding is_deed
deed-straight exact board m quiet pawn = elim (cases_Bool (file m.from == file m.to)) [
  | inl same ↦ eqb-true _ _ same
  | inr other ↦ absurd (both_ways _ quiet (and_from _ _ pawn (or_left _ _ (or_right _ _ (ap not other)))))
]

-- nor on an exact file
deed-loose : (exact : List Bool) (board : Places) (m : Move) → is_deed exact board m ≡ false → is_a Pawn (at board m.from) ≡ true → is_in exact (file m.from) ≡ false
unfolding is_deed
deed-loose exact board m quiet pawn = false_from_ne_true _ (λ member. both_ways _ quiet (and_from _ _ pawn (or_right (is_some m.promo || not (file m.from == file m.to)) _ member)))

-- where a pawn stands after a quiet move, who stood on s before it
record PawnThen (o : List Bool) (p : List Move) (m : Move) (l s : ℕ) : Type 0 where
  square : ℕ
  after : IsPawnOn o (p ++ m ∷ []) l square
  whence : ((s ≡ square) × (s ≢ m.from) × (s ≢ m.to)) ⊎ ((s ≡ m.from) × (square ≡ m.to))

full-pawn : (place : Option Man) → is_a Pawn place ≡ true → is_empty place ≡ false
full-pawn None h = cc
full-pawn (Some man) h = refl

module _ (o : List Bool) (p : List Move) (m : Move) (held : Rights) (exact : List Bool) (T : Sketch) (it : Moment o p m held exact T) where
  quiet-from : (i : ℕ) (f : Figure) (man : Man) → figure_at T i ≡ Some f → IsManOf o (p ++ m ∷ []) f (it.fits.label i) m.to man → label_at (labels_after o p) m.from ≡ Some (it.fits.label i) → at (board_after o p) m.from ≡ Some man → is_deed exact (board_after o p) m ≡ false → (castle : Option Castle) → castling (board_after o p) m ≡ castle → is_in f.squares m.from ≡ true
  quiet-from i f man found now his there quiet (Some x) castles =
      king-from o p m held exact T it x castles i f (it.fits.label i) man found now (mover-colour o p m held exact T it man there) (ap (is_a King) (sym there) ∙ (castle-ends (board_after o p) m x castles).king)
  quiet-from i f man found now his there quiet None none = elim (cases_Bool (same_kind Pawn man.kind)) [
    | inr piece ↦ officer-from o p m held exact T it none i f (it.fits.label i) man found now there piece
    | inl pawn ↦ pawn-from o p m held exact T it none i f man found now there (sym (kind_is Pawn man.kind pawn)) (deed-straight exact (board_after o p) m quiet (ap (is_a Pawn) there ∙ pawn)) (deed-loose exact (board_after o p) m quiet (ap (is_a Pawn) there ∙ pawn)) his
  ]

  stood : (i : ℕ) (f : Figure) (s u : ℕ) (man : Man) → figure_at T i ≡ Some f → IsManOf o (p ++ m ∷ []) f (it.fits.label i) s man → (label_at (labels_after o p) m.from ≡ Some (it.fits.label i) → is_deed exact (board_after o p) m ≡ false) → Came (board_after o p) (labels_after o p) m u s (it.fits.label i) man → Stands o p f (it.fits.label i)
  stood i f s u man found now quiet (stayed same a b label there) =
      (s, man, record { label = label; there = there; colour = now.colour; kind = now.kind; square = now.square; mark = λ marked. plain-before o p m (it.fits.label i) man (now.mark marked) })
  stood i f s u man found now quiet (moved_here was from to label there is) =
      let none = deed-none exact (board_after o p) (turn_after p) m (quiet label) (legal o p m held exact T it).promotion in
      let same : man ≡ was = is ∙ ap (λ (k : Option Kind). promoted_man k was) none in
      let stands : at (board_after o p) m.from ≡ Some man = there ∙ ap Some (sym same) in
      let now' : IsManOf o (p ++ m ∷ []) f (it.fits.label i) m.to man = subst (λ (t : ℕ). IsManOf o (p ++ m ∷ []) f (it.fits.label i) t man) to now in
      (m.from, man, record { label = label; there = stands; colour = now.colour; kind = now.kind; square = quiet-from i f man found now' label stands (quiet label) (castling (board_after o p) m) refl; mark = λ marked. plain-before o p m (it.fits.label i) man (now.mark marked) })
  stood i f s u man found now quiet (with_the_king x castles from to label there) =
      let now' : IsManOf o (p ++ m ∷ []) f (it.fits.label i) (crossed x) man = subst (λ (t : ℕ). IsManOf o (p ++ m ∷ []) f (it.fits.label i) t man) to now in
      (rook_home x, man, record { label = label; there = there; colour = now.colour; kind = now.kind; square = rook-from o p m held exact T it x castles i f (it.fits.label i) man found now' there; mark = λ marked. plain-before o p m (it.fits.label i) man (now.mark marked) })

  -- where a pawn stands after a quiet move
  pawn-came : (i s s' u : ℕ) (f : Figure) (man : Man) → IsManOf o (p ++ m ∷ []) f (it.fits.label i) s' man → (label_at (labels_after o p) m.from ≡ Some (it.fits.label i) → is_deed exact (board_after o p) m ≡ false) → IsPawnOn o p (it.fits.label i) s → Came (board_after o p) (labels_after o p) m u s' (it.fits.label i) man → PawnThen o p m (it.fits.label i) s
  pawn-came i s s' u f man now quiet was (stayed same a b label there) =
      let here : s ≡ s' = labels-apart o p (earlier o p m held exact T it) s s' (it.fits.label i) was.label label in
      record { square = s'; after = record { label = now.label; pawn = ap (is_a Pawn) (now.there ∙ sym there) ∙ ap (λ (t : ℕ). is_a Pawn (at (board_after o p) t)) (sym here) ∙ was.pawn }; whence = inl (here, λ e. b (sym here ∙ e), λ e. a (sym here ∙ e)) }
  pawn-came i s s' u f man now quiet was (moved_here man' from to label there is) =
      let here : s ≡ m.from = labels-apart o p (earlier o p m held exact T it) s m.from (it.fits.label i) was.label label in
      let none = deed-none exact (board_after o p) (turn_after p) m (quiet label) (legal o p m held exact T it).promotion in
      let same : man ≡ man' = is ∙ ap (λ (k : Option Kind). promoted_man k man') none in
      record { square = s'; after = record { label = now.label; pawn = ap (is_a Pawn) (now.there ∙ ap Some same ∙ sym there) ∙ ap (λ (t : ℕ). is_a Pawn (at (board_after o p) t)) (sym here) ∙ was.pawn }; whence = inr (here, to) }
  pawn-came i s s' u f man now quiet was (with_the_king x castles from to label there) =
      let here : s ≡ rook_home x = labels-apart o p (earlier o p m held exact T it) s (rook_home x) (it.fits.label i) was.label label in
      absurd (both_ways _ (another_kind Pawn Rook (at (board_after o p) (rook_home x)) (rook-there (board_after o p) (turn_after p) (unmoved o p) (last_move p) m x castles (legal o p m held exact T it))) (ap (λ (t : ℕ). is_a Pawn (at (board_after o p) t)) (sym here) ∙ was.pawn))

  pawn-then : (i s : ℕ) (f : Figure) → figure_at T i ≡ Some f → (label_at (labels_after o p) m.from ≡ Some (it.fits.label i) → is_deed exact (board_after o p) m ≡ false) → IsPawnOn o p (it.fits.label i) s → PawnThen o p m (it.fits.label i) s
  pawn-then i s f found quiet was = let his = man-of o p m held exact T it i f found in pawn-came i s his.0 his.1.back.square f his.1.man his.1.now quiet was his.1.back.came

  -- a pawn who stood still, and one who moved
  moved-sides : (l s w : ℕ) → s ≡ m.from → IsPawnOn o p l s → is_deed exact (board_after o p) m ≡ false → (k : ℕ) → IsPawnOn o p k w → file w ≡ file s → w ≢ m.from → w ≢ m.to → (file m.from ≡ file m.to) × Sides m.from m.to w
  moved-sides l s w here was quiet k other level not_from not_to =
      let pawn : is_a Pawn (at (board_after o p) m.from) ≡ true = ap (λ (t : ℕ). is_a Pawn (at (board_after o p) t)) (sym here) ∙ was.pawn in
      let same = deed-straight exact (board_after o p) m quiet pawn in
      (same, pawn-sides o p m held exact T it pawn same w (level ∙ ap file here) not_from not_to (full-pawn (at (board_after o p) w) other.pawn))

  order-back : ((i : ℕ) (f : Figure) → figure_at T i ≡ Some f → label_at (labels_after o p) m.from ≡ Some (it.fits.label i) → is_deed exact (board_after o p) m ≡ false) → (i j : ℕ) (f g : Figure) (s t : ℕ) → figure_at T i ≡ Some f → figure_at T j ≡ Some g → (a : IsPawnOn o p (it.fits.label i) s) → (b : IsPawnOn o p (it.fits.label j) t) → file s ≡ file t → rank s < rank t → PawnThen o p m (it.fits.label i) s → PawnThen o p m (it.fits.label j) t → f.place < g.place
  order-back quiet i j f g s t e1 e2 a b level lower was_a was_b = by was_a.whence was_b.whence
    where
      by : ((s ≡ was_a.square) × (s ≢ m.from) × (s ≢ m.to)) ⊎ ((s ≡ m.from) × (was_a.square ≡ m.to)) → ((t ≡ was_b.square) × (t ≢ m.from) × (t ≢ m.to)) ⊎ ((t ≡ m.from) × (was_b.square ≡ m.to)) → f.place < g.place
      by (inl here) (inl there) = it.fits.order i j f g was_a.square was_b.square e1 e2 was_a.after was_b.after (ap file (sym here.0) ∙ level ∙ ap file there.0) (let x = ap rank here.0 in let y = ap rank there.0 in omega (arith, x, y, lower))
      by (inr here) (inl there) =
          let label : label_at (labels_after o p) m.from ≡ Some (it.fits.label i) = ap (label_at (labels_after o p)) (sym here.0) ∙ a.label in
          let side = moved-sides (it.fits.label i) s t here.0 a (quiet i f e1 label) (it.fits.label j) b (sym level) there.1 there.2 in
          let up = side.1.up (let x = ap rank here.0 in omega (arith, x, lower)) in
          it.fits.order i j f g was_a.square was_b.square e1 e2 was_a.after was_b.after (ap file here.1 ∙ sym side.0 ∙ ap file (sym here.0) ∙ level ∙ ap file there.0) (let x = ap rank here.1 in let y = ap rank there.0 in omega (arith, x, y, up))
      by (inl here) (inr there) =
          let label : label_at (labels_after o p) m.from ≡ Some (it.fits.label j) = ap (label_at (labels_after o p)) (sym there.0) ∙ b.label in
          let side = moved-sides (it.fits.label j) t s there.0 b (quiet j g e2 label) (it.fits.label i) a level here.1 here.2 in
          let down = side.1.down (let x = ap rank there.0 in omega (arith, x, lower)) in
          it.fits.order i j f g was_a.square was_b.square e1 e2 was_a.after was_b.after (ap file (sym here.0) ∙ level ∙ ap file there.0 ∙ side.0 ∙ ap file (sym there.1)) (let x = ap rank here.0 in let y = ap rank there.1 in omega (arith, x, y, down))
      by (inr here) (inr there) = absurd (let x = ap rank (here.0 ∙ sym there.0) in omega (arith, x, lower))

  -- where no figure's man captured as a pawn or was promoted, the sketch fits before the move
  pub fits-before : ((i : ℕ) (f : Figure) → figure_at T i ≡ Some f → label_at (labels_after o p) m.from ≡ Some (it.fits.label i) → is_deed exact (board_after o p) m ≡ false) → Fits o p T
  fits-before quiet = record {
    label = it.fits.label;
    stand = λ i f found. let his = man-of o p m held exact T it i f found in stood i f his.0 his.1.back.square his.1.man found his.1.now (quiet i f found) his.1.back.came;
    apart = it.fits.apart;
    kings = it.fits.kings;
    order = λ i j f g s t e1 e2 a b level lower. order-back quiet i j f g s t e1 e2 a b level lower (pawn-then i s f e1 (quiet i f e1) a) (pawn-then j t g e2 (quiet j g e2) b);
  }

-- the figure with a label, if there is one
pub record HasLabel (T : Sketch) (label : ℕ → ℕ) (l : ℕ) : Type 0 where
  pub number : ℕ
  pub figure : Figure
  pub found : figure_at T number ≡ Some figure
  pub same : label number ≡ l

pub find-label : (T : Sketch) (label : ℕ → ℕ) (l : ℕ) → HasLabel T label l ⊎ ((i : ℕ) (f : Figure) → figure_at T i ≡ Some f → label i ≢ l)
find-label [] label l = inr (λ i f found. cc)
find-label (g ∷ T) label l = elim (cases_eq (label 0) l) [
  | inl same ↦ inl (record { number = 0; figure = g; found = refl; same = same })
  | inr other ↦ elim (find-label T (λ i. label (suc i)) l) [
    | inl has ↦ inl (record { number = suc has.number; figure = has.figure; found = has.found; same = has.same })
    | inr none ↦ inr (later g T label l other none)
  ]
]
  where
    later : (g : Figure) (T : Sketch) (label : ℕ → ℕ) (l : ℕ) → label 0 ≢ l → ((i : ℕ) (f : Figure) → figure_at T i ≡ Some f → label (suc i) ≢ l) → (i : ℕ) (f : Figure) → figure_at (g ∷ T) i ≡ Some f → label i ≢ l
    later g T label l other none zero f found = other
    later g T label l other none (suc i) f found = none i f found
