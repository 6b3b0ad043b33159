-- How many figures of a side a sketch has, and that figures that are changed stay on their sides.
use Rattle.std.proofs.Common.{◌≡◌, ℕ, suc, ◌+◌, ◌≤◌, Bool, true, false, cond, List, [], ◌∷◌, ◌++◌, length, map, refl, ap, ◌∙◌, arith}
use Rattle.std.proofs.lemmas.Bool.{and_from, and_parts, le-ltb, ltb-false}
use Rattle.std.proofs.lemmas.List.Sums.{length-filter, sum_by-cons}
use Rattle.std.specs.Prelude.{count_by, nat_lt}
use Rattle.std.specs.List.{list_all, range_with_len}
use Rattle.board_base.specs.Board.{array_of, at, is_of, men_squares, same_colour}
use Rattle.board_base.specs.declared.men.Colour.{Colour}
use Rattle.board_base.specs.declared.men.Colour.TheVariants.{White, Black}
use Rattle.sketch_proof.proofs.Rowed.{begun-few}
use Rattle.figures.specs.Clashes.{is_crowded}
use Rattle.figures.specs.Figures.{Figure, Sketch, each_changed}
use Rattle.sketch_walk.specs.Places.{has_low_place}

-- the figures of this colour
abbrev pub side : Colour → Sketch → ℕ
side c S = count_by (λ f. same_colour c f.colour) S

abbrev pub one : Colour → Figure → ℕ
one c f = cond (same_colour c f.colour) 1 0

pub side-cons : (c : Colour) (f : Figure) (S : Sketch) → side c (f ∷ S) ≡ one c f + side c S
side-cons c f S = sum_by-cons (λ (g : Figure). one c g) f S

-- how many men of this colour the array has
abbrev pub begun : List Bool → Colour → ℕ
begun o c = count_by (λ h. is_of c (at (array_of o) h)) (range_with_len 0 64)

pub begun-low : (o : List Bool) (c : Colour) → begun o c ≤ 16
unfolding men_squares
begun-low o c = let e = length-filter (λ h. is_of c (at (array_of o) h)) (range_with_len 0 64) in omega (arith, e, begun-few c o)

one-side : (c : Colour) → cond (same_colour White c) 1 0 + cond (same_colour Black c) 1 0 ≡ 1
one-side White = refl
one-side Black = refl

-- both sides' figures are all
pub both-sides : (S : Sketch) → side White S + side Black S ≡ length S
both-sides [] = refl
both-sides (f ∷ S) = let h = one-side f.colour in omega (arith, side-cons White f S, side-cons Black f S, both-sides S, h)

pub few-told : (o : List Bool) (S : Sketch) (c : Colour) → is_crowded o S c ≡ false → side c S ≤ begun o c
unfolding is_crowded
few-told o S c h = let e = ltb-false (begun o c) (side c S) h in omega (arith, e)

pub few-tells : (o : List Bool) (S : Sketch) (c : Colour) → side c S ≤ begun o c → is_crowded o S c ≡ false
unfolding is_crowded
few-tells o S c h = le-ltb (begun o c) (side c S) h

-- figures that keep their colours
pub side-each : (c : Colour) (h : ℕ → Figure → Figure) (k : ℕ) (S : Sketch) → ((n : ℕ) (f : Figure) → (h n f).colour ≡ f.colour) → side c (each_changed h k S) ≡ side c S
side-each c h k [] keeps = refl
side-each c h k (f ∷ S) keeps =
    let same : one c (h k f) ≡ one c f = ap (λ (d : Colour). cond (same_colour c d) 1 0) (keeps k f) in
    omega (arith, side-cons c (h k f) (each_changed h (suc k) S), side-cons c f S, side-each c h (suc k) S keeps, same)

pub side-map : (c : Colour) (h : Figure → Figure) (S : Sketch) → ((f : Figure) → (h f).colour ≡ f.colour) → side c (map h S) ≡ side c S
side-map c h [] keeps = refl
side-map c h (f ∷ S) keeps =
    let same : one c (h f) ≡ one c f = ap (λ (d : Colour). cond (same_colour c d) 1 0) (keeps f) in
    omega (arith, side-cons c (h f) (map h S), side-cons c f S, side-map c h S keeps, same)

pub side-append : (c : Colour) (S T : Sketch) → side c (S ++ T) ≡ side c S + side c T
side-append c [] T = let none : side c [] ≡ 0 = refl in omega (arith, none)
side-append c (f ∷ S) T = omega (arith, side-cons c f (S ++ T), side-cons c f S, side-append c S T)

-- figures that keep their places
pub low-each : (h : ℕ → Figure → Figure) (k : ℕ) (S : Sketch) → ((n : ℕ) (f : Figure) → (h n f).place ≡ f.place) → list_all has_low_place S ≡ true → list_all has_low_place (each_changed h k S) ≡ true
unfolding has_low_place
low-each h k [] keeps low = refl
low-each h k (f ∷ S) keeps low =
    let both = and_parts (nat_lt f.place 127) (list_all has_low_place S) low in
    and_from _ _ (ap (λ (p : ℕ). nat_lt p 127) (keeps k f) ∙ both.0) (low-each h (suc k) S keeps both.1)
