-- Equal men and moves, by the tests that tell them.
use Rattle.std.proofs.Common.{◌≡◌, ℕ, true, refl, ap, sym, ◌∙◌}
use Rattle.std.proofs.lemmas.Bool.{and_parts, and_from, both_ways, eqb-true, eq-eqb}
use Rattle.std.specs.Prelude.{Option, Some, None, is_none}
use Rattle.board_base.specs.Board.{is_the, is_empty, man, same_place}
use Rattle.board_base.specs.Legal.{is_move, same_promo}
use Rattle.board_base.specs.declared.men.Man.{Man}
use Rattle.board_base.specs.declared.men.Colour.{Colour}
use Rattle.board_base.specs.declared.men.Kind.{Kind}
use Rattle.board_base.specs.declared.moves.Move.{Move}
use Rattle.board_base.proofs.KindsOfMen.{colour_is, kind_is, same_kind-self, same_colour-self}

pub none_is : {A : Type 0} (o : Option A) → is_none o ≡ true → o ≡ None
none_is None h = refl
none_is (Some x) h = cc

pub empty_is : (place : Option Man) → is_empty place ≡ true → place ≡ None
empty_is None h = refl
empty_is (Some m) h = cc

pub place_is : (x y : Option Man) → same_place x y ≡ true → x ≡ y
place_is None None h = refl
place_is None (Some b) h = cc
place_is (Some a) None h = cc
place_is (Some a) (Some b) h =
    let parts = and_parts _ _ h in
    ap (λ (d : Colour). Some (record a { colour = d })) (colour_is a.colour b.colour parts.0) ∙ ap (λ (j : Kind). Some (record b { kind = j })) (kind_is a.kind b.kind parts.1)

pub place_self : (x : Option Man) → same_place x x ≡ true
place_self None = refl
place_self (Some m) = and_from _ _ (same_colour-self m.colour) (same_kind-self m.kind)

pub the_is : (c : Colour) (k : Kind) (place : Option Man) → is_the c k place ≡ true → place ≡ man c k
the_is c k None h = cc
the_is c k (Some m) h =
    let parts = and_parts _ _ h in
    ap (λ (d : Colour). Some (record m { colour = d })) (sym (colour_is c m.colour parts.0)) ∙ ap (λ (j : Kind). man c j) (sym (kind_is k m.kind parts.1))

pub promo_is : (a b : Option Kind) → same_promo a b ≡ true → a ≡ b
promo_is None None h = refl
promo_is None (Some k) h = cc
promo_is (Some j) None h = cc
promo_is (Some j) (Some k) h = ap Some (kind_is j k h)

pub promo_self : (a : Option Kind) → same_promo a a ≡ true
promo_self None = refl
promo_self (Some k) = same_kind-self k

pub moves_equal : (a b : Move) → a.from ≡ b.from → a.to ≡ b.to → a.promo ≡ b.promo → a ≡ b
moves_equal a b f t p =
    ap (λ (x : ℕ). record a { from = x }) f ∙ ap (λ (x : ℕ). record a { from = b.from; to = x }) t ∙ ap (λ (x : Option Kind). record b { promo = x }) p

pub move_is : (l m : Move) → is_move (Some l) m ≡ true → l ≡ m
move_is l m h =
    let parts = and_parts _ _ h in
    let ends = and_parts _ _ parts.0 in
    moves_equal l m (eqb-true _ _ ends.0) (eqb-true _ _ ends.1) (promo_is l.promo m.promo parts.1)

pub last_is : (last : Option Move) (d : Move) → is_move last d ≡ true → last ≡ Some d
last_is None d h = absurd (both_ways _ refl h)
last_is (Some l) d h = ap Some (move_is l d h)

pub move_self : (m : Move) → is_move (Some m) m ≡ true
move_self m = and_from _ _ (and_from _ _ (eq-eqb m.from m.from refl) (eq-eqb m.to m.to refl)) (promo_self m.promo)
