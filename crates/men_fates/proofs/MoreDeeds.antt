-- What one move adds to the way of a man and to the captures by pawns.
use Rattle.std.proofs.Common.{◌≡◌, ℕ, ◌==◌, Bool, true, false, cond, List, [], ◌∷◌, ◌++◌, fold, map, refl, ap, sym, ◌∙◌}
use Rattle.std.proofs.lemmas.Bool.{and_left, and_right, and_from, cond-false, cond-true, eq-eqb, eqb-true, false_from_ne_true, ne_eqb}
use Rattle.std.proofs.lemmas.List.{append_assoc, append-nil, map-append}
use Rattle.std.proofs.lemmas.List.Elements.{filter-append}
use Rattle.std.specs.Prelude.{Option, Some, None}
use Rattle.std.specs.Option.{option_to_list}
use Rattle.std.specs.List.{filter}
use Rattle.board_base.specs.Board.{Places, array_of, at, is_a, is_the}
use Rattle.board_base.specs.Play.{play}
use Rattle.board_base.specs.Game.{board_after}
use Rattle.board_base.specs.declared.men.Colour.{Colour}
use Rattle.board_base.specs.declared.men.Kind.TheVariants.{Pawn}
use Rattle.board_base.specs.declared.moves.Move.{Move}
use Rattle.men_account.specs.Labels.{Labels, label_at, first_labels, relabelled, labels_from, labels_after}
use Rattle.men_account.specs.Captures.{taken_on}
use Rattle.men_fates.specs.Deeds.{Strike, is_label, squares_trodden, strike, strike_by, strikes, strikes_from, struck_by, way_by, way_from, way_of}

from-more : (h : ℕ) (board : Places) (labels : Labels) (g : List Move) (m : Move) → way_from h board labels (g ++ m ∷ []) ≡ way_from h board labels g ++ way_by h (fold play board g) (labels_from board labels g) m
from-more h board labels [] m = append-nil (way_by h board labels m)
from-more h board labels (n ∷ g) m =
    ap (λ (l : List ℕ). way_by h board labels n ++ l) (from-more h (play board n) (relabelled board labels n) g m)
    ∙ sym (append_assoc (way_by h board labels n) (way_from h (play board n) (relabelled board labels n) g) _)

pub way-more : (o : List Bool) (g : List Move) (m : Move) (h : ℕ) → way_of o (g ++ m ∷ []) h ≡ way_of o g h ++ way_by h (board_after o g) (labels_after o g) m
way-more o g m h = from-more h (array_of o) (first_labels o) g m

strikes_from-more : (c : Colour) (board : Places) (labels : Labels) (g : List Move) (m : Move) → strikes_from c board labels (g ++ m ∷ []) ≡ strikes_from c board labels g ++ strike_by c (fold play board g) (labels_from board labels g) m
strikes_from-more c board labels [] m = append-nil (strike_by c board labels m)
strikes_from-more c board labels (n ∷ g) m =
    ap (λ (l : List Strike). strike_by c board labels n ++ l) (strikes_from-more c (play board n) (relabelled board labels n) g m)
    ∙ sym (append_assoc (strike_by c board labels n) (strikes_from c (play board n) (relabelled board labels n) g) _)

pub strikes-more : (o : List Bool) (g : List Move) (m : Move) (c : Colour) → strikes o (g ++ m ∷ []) c ≡ strikes o g c ++ strike_by c (board_after o g) (labels_after o g) m
strikes-more o g m c = strikes_from-more c (array_of o) (first_labels o) g m

pub struck-append : (h : ℕ) (a b : List Strike) → struck_by h (a ++ b) ≡ struck_by h a ++ struck_by h b
struck-append h a b =
    ap (map (λ x. x.on)) (filter-append (λ x. x.by == h) a b) ∙ map-append (λ x. x.on) (filter (λ x. x.by == h) a) (filter (λ x. x.by == h) b)

-- the label of a place
pub label-is : (label : Option ℕ) (h : ℕ) → label ≡ Some h → is_label label h ≡ true
label-is None h e = cc
label-is (Some l) h e = eq-eqb l h cc

pub label-told : (label : Option ℕ) (h : ℕ) → is_label label h ≡ true → label ≡ Some h
label-told None h e = cc
label-told (Some l) h e = ap Some (eqb-true l h e)

-- the pawn who moves goes on; all others stay
pub mover-goes : (h : ℕ) (board : Places) (labels : Labels) (m : Move) → is_a Pawn (at board m.from) ≡ true → label_at labels m.from ≡ Some h → way_by h board labels m ≡ squares_trodden m
mover-goes h board labels m pawn label = cond-true _ (squares_trodden m) [] (and_from _ _ pawn (label-is (label_at labels m.from) h label))

pub other-rests : (h : ℕ) (board : Places) (labels : Labels) (m : Move) → (label_at labels m.from ≡ Some h → ⊥) → way_by h board labels m ≡ []
other-rests h board labels m other = cond-false _ (squares_trodden m) [] (and_right (is_a Pawn (at board m.from)) _ (false_from_ne_true _ (λ same. other (label-told (label_at labels m.from) h same))))

pub piece-rests : (h : ℕ) (board : Places) (labels : Labels) (m : Move) → is_a Pawn (at board m.from) ≡ false → way_by h board labels m ≡ []
piece-rests h board labels m no_pawn = cond-false _ (squares_trodden m) [] (and_left _ (is_label (label_at labels m.from) h) no_pawn)

-- a capture is made by the man with the label on its origin
struck-other : (h : ℕ) (by of : Option ℕ) (s : ℕ) → (by ≡ Some h → ⊥) → struck_by h (strike by of s) ≡ []
struck-other h None of s other = refl
struck-other h (Some k) None s other = refl
struck-other h (Some k) (Some l) s other = rw (ne_eqb k h (λ same. other (ap Some same))) refl

pub strike-plain : (c : Colour) (board : Places) (labels : Labels) (m : Move) → is_the c Pawn (at board m.from) ≡ true → strike_by c board labels m ≡ strike (label_at labels m.from) (label_at labels (taken_on board m)) m.to
strike-plain c board labels m pawn = cond-true _ _ [] pawn

pub strike-none : (c : Colour) (board : Places) (labels : Labels) (m : Move) → is_the c Pawn (at board m.from) ≡ false → strike_by c board labels m ≡ []
strike-none c board labels m pawn = cond-false _ _ [] pawn

strikes-nobody : (h : ℕ) (b : Bool) (all : List Strike) → struck_by h all ≡ [] → struck_by h (cond b all []) ≡ []
strikes-nobody h true all e = e
strikes-nobody h false all e = refl

pub other-strikes : (h : ℕ) (c : Colour) (board : Places) (labels : Labels) (m : Move) → (label_at labels m.from ≡ Some h → ⊥) → struck_by h (strike_by c board labels m) ≡ []
other-strikes h c board labels m other = strikes-nobody h (is_the c Pawn (at board m.from)) _ (struck-other h (label_at labels m.from) (label_at labels (taken_on board m)) m.to other)

pub struck-one : (h l s : ℕ) (by of : Option ℕ) → by ≡ Some h → of ≡ Some l → struck_by h (strike by of s) ≡ s ∷ []
struck-one h l s None of a b = cc
struck-one h l s (Some k) None a b = cc
struck-one h l s (Some k) (Some v) a b = let same : k ≡ h = cc in rw (eq-eqb k h same) refl

pub struck-empty : (h s : ℕ) (by of : Option ℕ) → of ≡ None → struck_by h (strike by of s) ≡ []
struck-empty h s None of b = refl
struck-empty h s (Some k) None b = refl
struck-empty h s (Some k) (Some v) b = cc

-- the men taken by pawns
map-cond : (b : Bool) (all : List Strike) → map (λ x. x.of) (cond b all []) ≡ cond b (map (λ x. x.of) all) []
map-cond true all = refl
map-cond false all = refl

pub strike-takes : (by of : Option ℕ) (s k : ℕ) → by ≡ Some k → map (λ x. x.of) (strike by of s) ≡ option_to_list of
strike-takes None of s k e = cc
strike-takes (Some j) None s k e = refl
strike-takes (Some j) (Some l) s k e = refl
