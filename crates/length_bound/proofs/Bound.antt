-- Potentials that the costs bound are a lower bound on the moves of a side.
use Rattle.std.proofs.Common.{◌≡◌, ◌≢◌, ℕ, ◌+◌, ◌-◌, ◌/◌, ◌%◌, ◌<◌, ◌≤◌, ◌==◌, Bool, true, false, cond, inl, inr, List, [], ◌∷◌, length, map, slice_index, refl, ap, sym, ◌∙◌, subst, arith}
use Rattle.std.specs.Prelude.{Option, Some, None, ℤ, pos, negsuc, ◌+ℤ◌, ◌≤ℤ◌, max, IsTrue}
use Rattle.std.specs.List.{sum_by, range_with_len}
use Rattle.std.proofs.lemmas.Bool.{both_ways, cases_Bool, cond-true, cond-false, eqb-true, eqb-false, or_cases}
use Rattle.std.proofs.lemmas.Int.{ints}
use Rattle.std.proofs.lemmas.List.{length-map}
use Rattle.std.proofs.lemmas.List.Elements.{All-map, Contains-get_or}
use Rattle.std.proofs.lemmas.List.FromFn.{get_or-map-range_with_len}
use Rattle.std.proofs.lemmas.List.Sums.{sum_by-cons}
use Rattle.board_base.specs.Board.{Places, array_of, at, is_of, same_colour, men_squares, home_of}
use Rattle.board_base.specs.Play.{side}
use Rattle.board_base.specs.Rights.{Rights, holds}
use Rattle.board_base.specs.Game.{IsGame, board_after, turn_after, unmoved}
use Rattle.board_base.specs.declared.men.Colour.{Colour}
use Rattle.board_base.specs.declared.men.Colour.TheVariants.{White, Black}
use Rattle.board_base.specs.declared.men.Man.{Man}
use Rattle.board_base.specs.declared.moves.Move.{Move}
use Rattle.board_base.specs.declared.castles.Castle.{Castle}
use Rattle.board_base.specs.declared.castles.Castle.TheVariants.{WhiteShort, WhiteLong, BlackShort, BlackLong}
use Rattle.board_base.proofs.KindsOfMen.{colour_is}
use Rattle.assignment.specs.Assignments.{IsInjection, assignment_cost, total}
use Rattle.assignment.proofs.Duality.{weak_duality}
use Rattle.men_account.specs.Labels.{Labels, label_at, labels_after}
use Rattle.general_lemmas.proofs.Differing.{Has, contains-has, differ-apart, differ-range, has-filter, differ-filter, differ-map}
use Rattle.general_lemmas.proofs.SumsAmong.{sum-filter}
use Rattle.men_account.proofs.Labelled.{labels-each_man, labels-apart, labels-colours}
use Rattle.men_account.proofs.Paired.{label-of}
use Rattle.men_account.proofs.PawnLaws.{man-of}
use Rattle.men_account.proofs.SideHomes.{home-black, home-white}
use Rattle.query_base.specs.Asked.{Asked}
use Rattle.query_base.specs.Reach.{Reaches}
use Rattle.length_bound.specs.SideBounds.{moves_of, man_cost, side_cost, place_cost, move_costs, IsSideBound, at_least_0, holds_some, moves_shown, length_with}
use Rattle.length_bound.proofs.OneMove.{cost-of}
use Rattle.length_bound.proofs.InGames.{Spent, not_castled, has_castled, spent}

-- the place of a home among the homes of its side
abbrev column : Colour → Option ℕ → ℕ
column c None = 0
column White (Some l) = l
column Black (Some l) = l - 48

column-is : (o : List Bool) (c : Colour) (l : ℕ) → is_of c (at (array_of o) l) ≡ true → (column c (Some l) < 16) × (home_of c (column c (Some l)) ≡ l)
column-is o White l here = (home-white o l here, refl)
column-is o Black l here =
    let above : 47 < l = (home-black o l here).0 in
    let below : l < 64 = (home-black o l here).1 in
    (omega arith, omega arith)

-- what is known of each man's square
record Stands (o : List Bool) (c : Colour) (board : Places) (labels : Labels) (s : ℕ) : Type 0 where
  man : Man
  there : at board s ≡ Some man
  own : same_colour c man.colour ≡ true
  home : ℕ
  label : label_at labels s ≡ Some home
  began : is_of c (at (array_of o) home) ≡ true

stands-after : (o : List Bool) (g : List Move) (c : Colour) → IsGame o g → (s : ℕ) → Has (men_squares c (board_after o g)) s → Stands o c (board_after o g) (labels_after o g) s
unfolding men_squares
stands-after o g c game s h =
    let board : Places = board_after o g in
    let here = (has-filter (λ t. is_of c (at board t)) (range_with_len 0 64) s h).0 in
    let man = man-of (is_of c) (at board s) refl here in
    let label = label-of (at board s) (label_at (labels_after o g) s) man.0 man.1 (labels-each_man o g game s) in
    let own : same_colour c man.0.colour ≡ true = sym (ap (is_of c) man.1) ∙ here in
    let colour = labels-colours o g game s label.0 man.0 label.1 man.1 in
    let began : is_of c (at (array_of o) label.0) ≡ true = subst (λ (d : Colour). is_of d (at (array_of o) label.0) ≡ true) (sym (colour_is c man.0.colour own)) colour in
    record { man = man.0; there = man.1; own = own; home = label.0; label = label.1; began = began }

-- the homes on which the men of a side began, by their places among its homes
columns_of : List Bool → List Move → Colour → List ℕ
columns_of o g c = map (λ s. column c (label_at (labels_after o g) s)) (men_squares c (board_after o g))

columns-within : (o : List Bool) (g : List Move) (c : Colour) → IsGame o g → (s : ℕ) → Has (men_squares c (board_after o g)) s → column c (label_at (labels_after o g) s) < 16
columns-within o g c game s h =
    let x = stands-after o g c game s h in
    let e : column c (label_at (labels_after o g) s) ≡ column c (Some x.home) = ap (column c) x.label in
    omega (arith, e, (column-is o c x.home x.began).0)

columns-apart : (o : List Bool) (g : List Move) (c : Colour) → IsGame o g → (s t : ℕ) → Has (men_squares c (board_after o g)) s → Has (men_squares c (board_after o g)) t → column c (label_at (labels_after o g) s) ≡ column c (label_at (labels_after o g) t) → s ≡ t
columns-apart o g c game s t a b same =
    let x = stands-after o g c game s a in
    let y = stands-after o g c game t b in
    let one : column c (Some x.home) ≡ column c (Some y.home) = sym (ap (column c) x.label) ∙ same ∙ ap (column c) y.label in
    let homes : x.home ≡ y.home = sym (column-is o c x.home x.began).1 ∙ ap (home_of c) one ∙ (column-is o c y.home y.began).1 in
    labels-apart o g game s t y.home (x.label ∙ ap Some homes) y.label

injection : (o : List Bool) (g : List Move) (c : Colour) → IsGame o g → IsInjection 16 (length (move_costs o c (board_after o g))) (columns_of o g c)
unfolding columns_of move_costs men_squares
injection o g c game =
    let squares : List ℕ = men_squares c (board_after o g) in
    let differ = differ-map (λ s. column c (label_at (labels_after o g) s)) squares (columns-apart o g c game) (differ-filter (λ s. is_of c (at (board_after o g) s)) (range_with_len 0 64) (differ-range 0 64)) in
    record {
      size = length-map squares (λ s. column c (label_at (labels_after o g) s)) ∙ sym (length-map squares (λ s. map (λ j. place_cost o (at (board_after o g) s) s (home_of c j)) (range_with_len 0 16)));
      within = All-map (λ j. j < 16) (λ s. column c (label_at (labels_after o g) s)) squares (λ k d low. columns-within o g c game _ (contains-has squares _ (Contains-get_or squares k d low)));
      apart = λ i k low high same. differ-apart (columns_of o g c) differ i k 0 low high same;
    }

-- each man's cost from the home on which he began
row-cost : (o : List Bool) (c : Colour) (board : Places) (labels : Labels) (s : ℕ) → Stands o c board labels s → slice_index (map (λ j. place_cost o (at board s) s (home_of c j)) (range_with_len 0 16)) (column c (label_at labels s)) ≡ man_cost o c (at board s) (label_at labels s) s
row-cost o c board labels s h =
    let at_home = column-is o c h.home h.began in
    ap (λ (l : Option ℕ). slice_index (map (λ j. place_cost o (at board s) s (home_of c j)) (range_with_len 0 16)) (column c l)) h.label
    ∙ get_or-map-range_with_len (λ j. place_cost o (at board s) s (home_of c j)) 0 16 (column c (Some h.home)) (column c (Some h.home)) 0 at_home.0 (omega arith)
    ∙ ap (place_cost o (at board s) s) at_home.1
    ∙ ap (λ (p : Option Man). place_cost o p s h.home) h.there
    ∙ sym (cost-of o c (at board s) (label_at labels s) s h.home h.man h.label h.there h.own)

rows-cost : (o : List Bool) (c : Colour) (board : Places) (labels : Labels) (squares : List ℕ) → ((s : ℕ) → Has squares s → Stands o c board labels s) → assignment_cost (map (λ s. map (λ j. place_cost o (at board s) s (home_of c j)) (range_with_len 0 16)) squares) (map (λ s. column c (label_at labels s)) squares) ≡ sum_by (λ s. man_cost o c (at board s) (label_at labels s) s) squares
rows-cost o c board labels [] stands = refl
rows-cost o c board labels (s ∷ squares) stands =
    let first = row-cost o c board labels s (stands s (inl refl)) in
    let rest = rows-cost o c board labels squares (λ t h. stands t (inr h)) in
    omega (arith, first, rest, sum_by-cons (λ t. man_cost o c (at board t) (label_at labels t) t) s squares)

-- the men's homes cost no more than the men needed
cost-most : (o : List Bool) (g : List Move) (c : Colour) → IsGame o g → assignment_cost (move_costs o c (board_after o g)) (columns_of o g c) ≤ side_cost o c (board_after o g) (labels_after o g)
unfolding columns_of move_costs side_cost men_squares
cost-most o g c game =
    let is = rows-cost o c (board_after o g) (labels_after o g) (men_squares c (board_after o g)) (stands-after o g c game) in
    let part = sum-filter (λ s. man_cost o c (at (board_after o g) s) (label_at (labels_after o g) s) s) (λ s. is_of c (at (board_after o g) s)) (range_with_len 0 64) in
    omega (arith, is, part)

positive-most : (x : ℤ) (n : ℕ) → x ≤ℤ pos n → at_least_0 x ≤ n
positive-most (pos k) n h = omega (arith, ints, h)
positive-most (negsuc k) n h = omega arith

-- potentials sum to no more than what the men needed
potentials-most : (o : List Bool) (g : List Move) (c : Colour) (u v : List ℤ) → IsGame o g → IsSideBound o c (board_after o g) u v → at_least_0 (total u +ℤ total v) ≤ side_cost o c (board_after o g) (labels_after o g)
potentials-most o g c u v game bound =
    let dual = weak_duality 16 (move_costs o c (board_after o g)) u v (columns_of o g c) bound.bounded (injection o g c game) in
    omega (arith, positive-most _ _ dual, cost-most o g c game)

-- a castling that is held is the side's
held-one : (c : Colour) (held : Rights) → holds_some c held ≡ true → (x : Castle) × (side x ≡ c) × (holds held x ≡ true)
held-one White held h = elim (or_cases _ _ h) [ inl short ↦ (WhiteShort, refl, short) | inr long ↦ (WhiteLong, refl, long) ]
held-one Black held h = elim (or_cases _ _ h) [ inl short ↦ (BlackShort, refl, short) | inr long ↦ (BlackLong, refl, long) ]

shown-by : (o : List Bool) (g : List Move) (c : Colour) (held : Rights) (n : ℕ) (some : Bool) → holds_some c held ≡ some → ((x : Castle) → holds held x ≡ true → unmoved o g x ≡ true) → n ≤ side_cost o c (board_after o g) (labels_after o g) → Spent o c g → n - cond some 0 2 ≤ moves_of c (length g)
shown-by o g c held n true is kept most (not_castled h) = omega arith
shown-by o g c held n false is kept most (not_castled h) = omega arith
shown-by o g c held n false is kept most (has_castled h lost) = omega arith
shown-by o g c held n true is kept most (has_castled h lost) =
    let one = held-one c held is in
    absurd (both_ways _ (lost one.0 one.1) (kept one.0 one.2))

-- in every game a side makes at least so many moves
pub moves-least : (o : List Bool) (g : List Move) (c : Colour) (held : Rights) (u v : List ℤ) → IsGame o g → ((x : Castle) → IsTrue (holds held x) → IsTrue (unmoved o g x)) → IsSideBound o c (board_after o g) u v → moves_shown c held u v ≤ moves_of c (length g)
moves-least o g c held u v game kept bound =
    shown-by o g c held (at_least_0 (total u +ℤ total v)) (holds_some c held) refl kept (potentials-most o g c u v game bound) (spent o c g game)

max-small : (k n : ℕ) → k ≤ n → 1 ≤ n → max k 1 ≤ n
max-small k n a b = omega arith

even-turn : (n : ℕ) → cond (n % 2 == 0) White Black ≡ White → n % 2 ≡ 0
even-turn n e = elim (cases_Bool (n % 2 == 0)) [
  | inl even ↦ eqb-true _ _ even
  | inr odd ↦ let never : Black ≡ White = sym (cond-false _ White Black odd) ∙ e in cc
]

length-from : (c : Colour) (n k : ℕ) (turn : Colour) → cond (n % 2 == 0) White Black ≡ turn → k ≤ moves_of c n → length_with c turn k ≤ n
length-from White n k White e h = let even = even-turn n e in omega (arith, even)
length-from Black n k White e h = let even = even-turn n e in omega (arith, even)
length-from White n k Black e h = elim (cases_Bool (n % 2 == 0)) [
  | inl even ↦ let never : White ≡ Black = sym (cond-true _ White Black even) ∙ e in cc
  | inr odd ↦
      let ne : n % 2 ≢ 0 = eqb-false _ _ odd in
      let small = max-small k ((n + 1) / 2) h (omega arith) in
      omega (arith, ne, small)
]
length-from Black n k Black e h = elim (cases_Bool (n % 2 == 0)) [
  | inl even ↦ let never : White ≡ Black = sym (cond-true _ White Black even) ∙ e in cc
  | inr odd ↦ let ne : n % 2 ≢ 0 = eqb-false _ _ odd in omega (arith, ne)
]

-- every game is at least so long
pub length-least : (o : List Bool) (g : List Move) (c : Colour) (held : Rights) (u v : List ℤ) → IsGame o g → ((x : Castle) → IsTrue (holds held x) → IsTrue (unmoved o g x)) → IsSideBound o c (board_after o g) u v → length_with c (turn_after g) (moves_shown c held u v) ≤ length g
length-least o g c held u v game kept bound = length-from c (length g) (moves_shown c held u v) (turn_after g) refl (moves-least o g c held u v game kept bound)

-- and every game that reaches a query
pub reach-least : (q : Asked) (g : List Move) (c : Colour) (u v : List ℤ) → Reaches g q → IsSideBound q.odds c q.board u v → length_with c q.turn (moves_shown c q.held u v) ≤ length g
reach-least q g c u v reaches bound =
    rw (← reaches.turn) (length-least q.odds g c q.held u v reaches.game reaches.held (rw reaches.board bound))

-- what the men of a side needed
pub needed-most : (o : List Bool) (g : List Move) (c : Colour) → IsGame o g → side_cost o c (board_after o g) (labels_after o g) ≤ moves_of c (length g) + 2
needed-most o g c game = elim (spent o c g game) [ not_castled h ↦ omega arith | has_castled h lost ↦ h ]

pub needed-uncastled : (o : List Bool) (g : List Move) (c : Colour) (x : Castle) → IsGame o g → side x ≡ c → IsTrue (unmoved o g x) → side_cost o c (board_after o g) (labels_after o g) ≤ moves_of c (length g)
needed-uncastled o g c x game own kept = elim (spent o c g game) [ not_castled h ↦ h | has_castled h lost ↦ absurd (both_ways _ (lost x own) kept) ]
