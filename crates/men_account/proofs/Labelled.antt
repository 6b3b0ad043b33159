-- In every game the labels go where the men go.
use Rattle.std.proofs.Common.{◌≡◌, ◌⊎◌, ℕ, ◌<◌, ◌==◌, Bool, true, false, cond, ◌&&◌, not, inl, inr, List, [], ◌∷◌, ◌++◌, length, fold, refl, ap, sym, ◌∙◌, subst, arith}
use Rattle.std.proofs.lemmas.Bool.{cases_Bool, cases_lt, and_parts, both_ways}
use Rattle.std.proofs.lemmas.List.{get_or_past}
use Rattle.std.proofs.lemmas.List.FromFn.{length-map-range_with_len, get_or-map-range_with_len}
use Rattle.std.proofs.lemmas.Option.{same_Some}
use Rattle.std.specs.Prelude.{Option, Some, None, is_none}
use Rattle.board_base.proofs.Without.{length-array}
use Rattle.board_base.specs.Board.{Places, array_of, at, is_empty, is_of, is_a, same_kind}
use Rattle.board_base.specs.Play.{play, promoted, moved, castling, goes_en_passant, en_passant_victim}
use Rattle.board_base.specs.Parts.{played_as}
use Rattle.board_base.specs.Legal.{is_officer, promotion_fits}
use Rattle.board_base.specs.Game.{IsGame, board_after, turn_after, unmoved, last_move}
use Rattle.board_base.specs.declared.men.Colour.{Colour}
use Rattle.board_base.specs.declared.men.Kind.{Kind}
use Rattle.board_base.specs.declared.men.Kind.TheVariants.{Pawn}
use Rattle.board_base.specs.declared.men.Man.{Man}
use Rattle.board_base.specs.declared.moves.Move.{Move}
use Rattle.board_base.specs.declared.castles.Castle.{Castle}
use Rattle.board_base.proofs.KindsOfMen.{kind_is, same_colour-self, same_kind-self}
use Rattle.play_rules.proofs.Legality.{Legality, legality}
use Rattle.play_rules.proofs.Games.{in_every_game, board_after-more}
use Rattle.play_rules.proofs.Kings.{within, length-after}
use Rattle.men_account.specs.Labels.{Labels, label_at, own_label, first_labels, relabelled, labels_from, labels_after, LabelsEachMan, AreApart, HoldsOfEach, HasColourOf, IsPromotedFrom}
use Rattle.men_account.proofs.Moved.{on_square, moved_from, arrived, length-moved, at-moved, label-moved, moved_from-apart}

-- if the man who began here was of another kind, he was a pawn
abbrev WasPawn : Man → Option Man → Type 0
WasPawn m began = is_a m.kind began ≡ false → (is_officer m.kind ≡ true) × (is_a Pawn began ≡ true)

-- a square with a man and a label, or with neither
abbrev Agrees : Places → Option Man → Option ℕ → Type 0
Agrees first None None = Unit {0}
Agrees first (Some m) (Some l) = (is_of m.colour (at first l) ≡ true) × WasPawn m (at first l)
Agrees first None (Some l) = ⊥
Agrees first (Some m) None = ⊥

-- labels that belong to a board, where a game began on another
record Fits (first board : Places) (labels : Labels) : Type 0 where
  size : length labels ≡ 64
  agree : (s : ℕ) → Agrees first (at board s) (label_at labels s)
  apart : AreApart labels

-- a man who stands on his own square
agrees-own : (first : Places) (s : ℕ) (place : Option Man) → at first s ≡ place → Agrees first place (cond (is_empty place) None (Some s))
agrees-own first s None e = tt
agrees-own first s (Some m) e =
    (rw e (same_colour-self m.colour), λ other. absurd (both_ways _ other (rw e (same_kind-self m.kind))))

own-label-is : (first : Places) (s l : ℕ) (b : Bool) → cond b None (Some s) ≡ Some l → s ≡ l
own-label-is first s l true e = cc
own-label-is first s l false e = same_Some _ _ e

first-label : (o : List Bool) (s : ℕ) → s < 64 → label_at (first_labels o) s ≡ own_label (array_of o) s
unfolding first_labels
first-label o s inside = get_or-map-range_with_len (own_label (array_of o)) 0 64 s s None inside (omega arith)

length-first : (o : List Bool) → length (first_labels o) ≡ 64
unfolding first_labels
length-first o = length-map-range_with_len (own_label (array_of o)) 0 64

first-agree : (o : List Bool) (s : ℕ) → Agrees (array_of o) (at (array_of o) s) (label_at (first_labels o) s)
first-agree o s = elim (cases_lt s 64) [
  | inl inside ↦ rw (first-label o s inside) (agrees-own (array_of o) s (at (array_of o) s) refl)
  | inr past ↦
      let none : at (array_of o) s ≡ None = get_or_past (array_of o) s None (omega (arith, length-array o)) in
      let none' : label_at (first_labels o) s ≡ None = get_or_past (first_labels o) s None (omega (arith, length-first o)) in
      rw none (rw none' tt)
]

-- a label before the first move is its own square
pub first-is : (o : List Bool) (s l : ℕ) → label_at (first_labels o) s ≡ Some l → s ≡ l
first-is o s l e = elim (cases_lt s 64) [
  | inl inside ↦ own-label-is (array_of o) s l (is_empty (at (array_of o) s)) (sym (first-label o s inside) ∙ e)
  | inr past ↦
      let none : None ≡ Some l = sym (get_or_past (first_labels o) s None (omega (arith, length-first o))) ∙ e in
      cc
]

first-fits : (o : List Bool) → Fits (array_of o) (array_of o) (first_labels o)
first-fits o = record {
  size = length-first o;
  agree = first-agree o;
  apart = λ s t l e1 e2. first-is o s l e1 ∙ sym (first-is o t l e2);
}

pub promoted-none : (promo : Option Kind) → promoted promo None ≡ None
promoted-none None = refl
promoted-none (Some k) = refl

-- a label was on some square before
pub on-label : (labels : Labels) (o : Option ℕ) (l : ℕ) → on_square labels o ≡ Some l → (s : ℕ) × (o ≡ Some s) × (label_at labels s ≡ Some l)
on-label labels None l e = cc
on-label labels (Some s) l e = (s, refl, e)

-- what came from a square agrees with its label as on that square
agrees-from : (first board : Places) (labels : Labels) → Fits first board labels → (o : Option ℕ) → Agrees first (on_square board o) (on_square labels o)
agrees-from first board labels fits None = tt
agrees-from first board labels fits (Some s) = fits.agree s

-- a pawn began as a pawn
began-pawn : (place : Option Man) (m : Man) → same_kind Pawn m.kind ≡ true → WasPawn m place → is_a Pawn place ≡ true
began-pawn place m pawn was = elim (cases_Bool (is_a m.kind place)) [
  | inl same ↦ subst (λ (k : Kind). is_a k place ≡ true) (sym (kind_is Pawn m.kind pawn)) same
  | inr other ↦ (was other).1
]

-- a promotion
agrees-promoted : (first : Places) (place : Option Man) (label : Option ℕ) (k : Kind) → is_a Pawn place ≡ true → is_officer k ≡ true → Agrees first place label → Agrees first (promoted (Some k) place) label
agrees-promoted first None label k pawn officer here = absurd (both_ways false refl pawn)
agrees-promoted first (Some m) None k pawn officer here = elim here [ ]
agrees-promoted first (Some m) (Some l) k pawn officer here = (here.0, λ other. (officer, began-pawn (at first l) m pawn here.1))

-- where there is a promotion, a pawn comes to the target, or nothing
abbrev Promotes : Option Kind → Option Man → Type 0
Promotes None place = Unit {0}
Promotes (Some k) place = (place ≡ None) ⊎ ((is_a Pawn place ≡ true) × (is_officer k ≡ true))

-- a man who comes to the target agrees with his label
agrees-arrived : (first : Places) (promo : Option Kind) (castle : Option Castle) (b : Bool) (place : Option Man) (label : Option ℕ) → (castle ≡ None → b ≡ true → Promotes promo place) → Agrees first place label → Agrees first (arrived (promoted promo) castle b place) label
agrees-arrived first promo (Some x) b place label may here = here
agrees-arrived first promo None false place label may here = here
agrees-arrived first None None true place label may here = here
agrees-arrived first (Some k) None true place label may here = elim (may refl refl) [
  | inl none ↦ subst (λ (p : Option Man). Agrees first (promoted (Some k) p) label) (sym none) (subst (λ (p : Option Man). Agrees first p label) none here)
  | inr pawn ↦ agrees-promoted first place label k pawn.0 pawn.1 here
]

promotes-at : (board : Places) (promo : Option Kind) (from : ℕ) (reaches b : Bool) → elim promo as (λ _. Bool) [ None ↦ not (is_a Pawn (at board from) && reaches) | Some k ↦ is_a Pawn (at board from) && reaches && is_officer k ] ≡ true → Promotes promo (on_square board (cond b None (Some from)))
promotes-at board None from reaches b h = tt
promotes-at board (Some k) from reaches true h = inl refl
promotes-at board (Some k) from reaches false h = let parts = and_parts _ _ h in inr ((and_parts _ _ parts.0).0, parts.1)

-- a move that is no castling promotes nothing but a pawn
promotes : (board : Places) (c : Colour) (m : Move) (en_passant : Bool) (s : ℕ) → promotion_fits board c m ≡ true → (s == m.to) ≡ true → Promotes m.promo (on_square board (moved_from m None en_passant s))
unfolding promotion_fits
promotes board c m en_passant s fits here =
    rw here (promotes-at board m.promo m.from _ (en_passant && (s == en_passant_victim m)) fits)

-- a move takes labels that belong to the board to labels that belong to the next one
fits-moved : (first board : Places) (labels : Labels) (c : Colour) (m : Move) (castle : Option Castle) → length board ≡ 64 → m.from < 64 → m.to < 64 → promotion_fits board c m ≡ true → Fits first board labels → Fits first (played_as board m castle) (moved (λ label. label) m castle (goes_en_passant board m) labels)
fits-moved first board labels c m castle len f t fits here = record {
  size = length-moved (λ label. label) m castle (goes_en_passant board m) labels ∙ here.size;
  agree = λ s.
      let from : Option ℕ = moved_from m castle (goes_en_passant board m) s in
      let man = at-moved (promoted m.promo) m castle (goes_en_passant board m) board s (promoted-none m.promo) len f t in
      let label = label-moved m castle (goes_en_passant board m) labels s here.size f t in
      rw man (rw label (agrees-arrived first m.promo castle (s == m.to) (on_square board from) (on_square labels from) (λ none at_target. subst (λ (x : Option Castle). Promotes m.promo (on_square board (moved_from m x (goes_en_passant board m) s))) (sym none) (promotes board c m (goes_en_passant board m) s fits at_target)) (agrees-from first board labels here from)));
  apart = λ s t' l e1 e2.
      let a = on-label labels (moved_from m castle (goes_en_passant board m) s) l (sym (label-moved m castle (goes_en_passant board m) labels s here.size f t) ∙ e1) in
      let b = on-label labels (moved_from m castle (goes_en_passant board m) t') l (sym (label-moved m castle (goes_en_passant board m) labels t' here.size f t) ∙ e2) in
      moved_from-apart m castle (goes_en_passant board m) s t' a.0 a.1 (b.1 ∙ ap Some (sym (here.apart a.0 b.0 l a.2 b.2)));
}

fits-played : (first board : Places) (labels : Labels) (c : Colour) (rights : Castle → Bool) (last : Option Move) (m : Move) → length board ≡ 64 → Legality board c rights last m → Fits first board labels → Fits first (play board m) (relabelled board labels m)
unfolding play relabelled
fits-played first board labels c rights last m len l here =
    let f : m.from < 64 = rw (← len) (within (is_of c) board m.from refl l.mover) in
    fits-moved first board labels c m (castling board m) len f l.on_board l.promotion here

labels_from-more : (board : Places) (labels : Labels) (g : List Move) (m : Move) → labels_from board labels (g ++ m ∷ []) ≡ relabelled (fold play board g) (labels_from board labels g) m
labels_from-more board labels [] m = refl
labels_from-more board labels (n ∷ g) m = labels_from-more (play board n) (relabelled board labels n) g m

pub labels_after-more : (o : List Bool) (g : List Move) (m : Move) → labels_after o (g ++ m ∷ []) ≡ relabelled (board_after o g) (labels_after o g) m
labels_after-more o = labels_from-more (array_of o) (first_labels o)

fit-after : (o : List Bool) (g : List Move) → IsGame o g → Fits (array_of o) (board_after o g) (labels_after o g)
fit-after o = in_every_game o (λ g. Fits (array_of o) (board_after o g) (labels_after o g)) (first-fits o)
    (λ g m game legal before.
    rw (board_after-more o g m) (rw (labels_after-more o g m) (fits-played (array_of o) (board_after o g) (labels_after o g) (turn_after g) (unmoved o g) (last_move g) m (length-after o g game) (legality _ _ _ _ _ legal) before)))

pub length-labels : (o : List Bool) (g : List Move) → IsGame o g → length (labels_after o g) ≡ 64
length-labels o g game = (fit-after o g game).size

pub labels-apart : (o : List Bool) (g : List Move) → IsGame o g → AreApart (labels_after o g)
labels-apart o g game = (fit-after o g game).apart

both-there : (first : Places) (place : Option Man) (label : Option ℕ) → Agrees first place label → is_none label ≡ is_empty place
both-there first None None h = refl
both-there first (Some m) (Some l) h = refl
both-there first None (Some l) h = elim h [ ]
both-there first (Some m) None h = elim h [ ]

pub labels-each_man : (o : List Bool) (g : List Move) → IsGame o g → LabelsEachMan (board_after o g) (labels_after o g)
labels-each_man o g game s = both-there (array_of o) (at (board_after o g) s) (label_at (labels_after o g) s) ((fit-after o g game).agree s)

-- the man on a square agrees with his label
agreement : (o : List Bool) (g : List Move) → IsGame o g → HoldsOfEach (board_after o g) (labels_after o g) (λ s l m. Agrees (array_of o) (Some m) (Some l))
agreement o g game s l m label there =
    subst (λ (x : Option ℕ). Agrees (array_of o) (Some m) x) label (subst (λ (p : Option Man). Agrees (array_of o) p (label_at (labels_after o g) s)) there ((fit-after o g game).agree s))

pub labels-colours : (o : List Bool) (g : List Move) → IsGame o g → HoldsOfEach (board_after o g) (labels_after o g) (HasColourOf (array_of o))
labels-colours o g game s l m label there = (agreement o g game s l m label there).0

pub labels-promotions : (o : List Bool) (g : List Move) → IsGame o g → HoldsOfEach (board_after o g) (labels_after o g) (IsPromotedFrom (array_of o))
labels-promotions o g game s l m label there = (agreement o g game s l m label there).1
