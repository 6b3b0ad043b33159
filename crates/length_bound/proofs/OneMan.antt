-- What one move adds to what a man needs.
use Rattle.std.proofs.Common.{◌≡◌, ℕ, ◌+◌, ◌-◌, ◌<◌, ◌≤◌, Bool, true, false, cond, inl, inr, List, [], ◌∷◌, map, refl, ap, sym, ◌∙◌, subst, arith}
use Rattle.std.specs.Prelude.{Option, Some, None, min, nat_le}
use Rattle.std.specs.List.{range_with_len}
use Rattle.std.proofs.lemmas.Bool.{and_from, both_ways, cases_Bool, cases_lt, cond-true, cond-false, eqb-true, leb-true, leb-false}
use Rattle.std.proofs.Math.Nat.{min-le_left, min-le_right, min-eq_left, min-eq_right}
use Rattle.board_base.specs.Board.{no_men, array_of, at, is_the, same_colour, same_kind, file, rank}
use Rattle.board_base.specs.Attacks.{distance, files_apart, ranks_apart, one_ahead, kind_attacks, king_distance, on_the_way, toward}
use Rattle.board_base.specs.Legal.{pawn_rank, last_rank, is_officer}
use Rattle.board_base.specs.declared.men.Colour.{Colour}
use Rattle.board_base.specs.declared.men.Colour.TheVariants.{White, Black}
use Rattle.board_base.specs.declared.men.Kind.{Kind}
use Rattle.board_base.specs.declared.men.Kind.TheVariants.{Pawn, Knight, Bishop, Rook, Queen, King}
use Rattle.board_base.specs.declared.men.Man.{Man}
use Rattle.board_base.specs.declared.castles.Castle.{Castle}
use Rattle.board_base.specs.declared.castles.Castle.TheVariants.{WhiteShort, WhiteLong, BlackShort, BlackLong}
use Rattle.board_base.specs.Play.{king_home, king_target, rook_home, crossed}
use Rattle.board_base.proofs.KindsOfMen.{kind_is, same_colour-self, same_kind-self}
use Rattle.board_base.proofs.CastleSquares.{king_home-within, rook_home-within, crossed-within}
use Rattle.general_lemmas.proofs.Differing.{Has, has-range}
use Rattle.men_account.proofs.Origins.{promoted_man}
use Rattle.men_account.proofs.FilesLeft.{array-pawn}
use Rattle.length_bound.specs.MoveCosts.{steps, pawn_moves, pawn_way, least, promotion_square, promoted_way, from_pawn, from_officer, cost_from, move_cost}
use Rattle.length_bound.proofs.Stepping.{one-step, steps-most, no-step}

-- a pawn's legal move, as far as its ranks and files go
pub data PawnGoes (c : Colour) (s t : ℕ) : Type 0 where
  by_one : one_ahead c s t ≡ true → files_apart s t ≤ 1 → PawnGoes c s t
  by_two : rank s ≡ pawn_rank c → file s ≡ file t → ranks_apart s t ≡ 2 → PawnGoes c s t

-- the cases of a pawn's moves
data Climbs (files low high : ℕ) (n : ℕ) : Type 0 where
  doubled : low + files + 2 ≤ high → n ≡ high - low - 1 → Climbs files low high n
  single : low + files ≤ high → high < low + files + 2 → n ≡ high - low → Climbs files low high n
  never : high < low + files → n ≡ 64 → Climbs files low high n

climbs : (files low high : ℕ) → Climbs files low high (pawn_moves files low high)
climbs files low high = elim (cases_Bool (nat_le (low + files) high)) [
  | inl fits ↦ elim (cases_Bool (nat_le (low + files + 2) high)) [
    | inl two ↦ doubled (leb-true _ _ two) (cond-true _ _ 64 fits ∙ cond-true _ _ _ two)
    | inr one ↦ single (leb-true _ _ fits) (leb-false _ _ one) (cond-true _ _ 64 fits ∙ cond-false _ _ _ one)
  ]
  | inr out ↦ never (leb-false _ _ out) (cond-false _ _ 64 out)
]

climb-most : (files low high n : ℕ) → high < 8 → Climbs files low high n → n ≤ 64
climb-most files low high n small (doubled a e) = omega arith
climb-most files low high n small (single a b e) = omega arith
climb-most files low high n small (never a e) = omega arith

-- one rank on, and at most one file aside
climb-one : (d e low high low' high' n k : ℕ) → e ≤ d + 1 → d ≤ e + 1 → high' + low ≡ high + low' + 1 → k ≤ 64 → Climbs d low high n → Climbs e low' high' k → k ≤ n + 1
climb-one d e low high low' high' n k a b up most (never x is) after = omega arith
climb-one d e low high low' high' n k a b up most (doubled x is) (doubled y is') = omega arith
climb-one d e low high low' high' n k a b up most (doubled x is) (single y z is') = omega arith
climb-one d e low high low' high' n k a b up most (doubled x is) (never y is') = omega arith
climb-one d e low high low' high' n k a b up most (single x z is) (doubled y is') = omega arith
climb-one d e low high low' high' n k a b up most (single x w is) (single y z is') = omega arith
climb-one d e low high low' high' n k a b up most (single x w is) (never y is') = omega arith

-- two ranks on from the home's rank
climb-two : (d low high low' high' n k : ℕ) → low ≡ high → high' + low ≡ high + low' + 2 → k ≤ 64 → Climbs d low high n → Climbs d low' high' k → k ≤ n + 1
climb-two d low high low' high' n k same up most (never x is) after = omega arith
climb-two d low high low' high' n k same up most (doubled x is) after = omega arith
climb-two d low high low' high' n k same up most (single x z is) (doubled y is') = omega arith
climb-two d low high low' high' n k same up most (single x w is) (single y z is') = omega arith
climb-two d low high low' high' n k same up most (single x w is) (never y is') = omega arith

aside : (h s t : ℕ) → files_apart s t ≤ 1 → (files_apart h t ≤ files_apart h s + 1) × (files_apart h s ≤ files_apart h t + 1)
unfolding distance
aside h s t one = (omega arith, omega arith)

double-up : (s t : ℕ) → rank s ≡ 1 → ranks_apart s t ≡ 2 → rank t ≡ rank s + 2
unfolding distance
double-up s t home two = omega arith

double-down : (s t : ℕ) → t < 64 → rank s ≡ 6 → ranks_apart s t ≡ 2 → rank t + 2 ≡ rank s
unfolding distance
double-down s t small home two = omega arith

-- a pawn's move adds at most one
pub pawn-on : (c : Colour) (h s t : ℕ) → t < 64 → rank h ≡ pawn_rank c → PawnGoes c s t → pawn_way c h t ≤ pawn_way c h s + 1
unfolding pawn_way
pawn-on White h s t small home (by_one ahead one) =
    let up : rank t ≡ rank s + 1 = eqb-true _ _ ahead in
    let after = climbs (files_apart h t) (rank h) (rank t) in
    let near = aside h s t one in
    climb-one (files_apart h s) (files_apart h t) (rank h) (rank s) (rank h) (rank t) _ _ near.0 near.1 (omega arith) (climb-most _ _ (rank t) _ (omega arith) after) (climbs (files_apart h s) (rank h) (rank s)) after
pawn-on White h s t small home (by_two at_home same two) =
    let up = double-up s t at_home two in
    let after = climbs (files_apart h t) (rank h) (rank t) in
    let e : files_apart h t ≡ files_apart h s = ap (λ (f : ℕ). distance (file h) f) (sym same) in
    climb-two (files_apart h t) (rank h) (rank s) (rank h) (rank t) _ _ (omega arith) (omega arith) (climb-most _ _ (rank t) _ (omega arith) after) (subst (λ (d : ℕ). Climbs d (rank h) (rank s) (pawn_moves (files_apart h s) (rank h) (rank s))) (sym e) (climbs (files_apart h s) (rank h) (rank s))) after
pawn-on Black h s t small home (by_one ahead one) =
    let down : rank s ≡ rank t + 1 = eqb-true _ _ ahead in
    let after = climbs (files_apart h t) (rank t) (rank h) in
    let near = aside h s t one in
    climb-one (files_apart h s) (files_apart h t) (rank s) (rank h) (rank t) (rank h) _ _ near.0 near.1 (omega arith) (climb-most _ _ (rank h) _ (omega arith) after) (climbs (files_apart h s) (rank s) (rank h)) after
pawn-on Black h s t small home (by_two at_home same two) =
    let down = double-down s t small at_home two in
    let after = climbs (files_apart h t) (rank t) (rank h) in
    let e : files_apart h t ≡ files_apart h s = ap (λ (f : ℕ). distance (file h) f) (sym same) in
    climb-two (files_apart h t) (rank s) (rank h) (rank t) (rank h) _ _ (omega arith) (omega arith) (climb-most _ _ (rank h) _ (omega arith) after) (subst (λ (d : ℕ). Climbs d (rank s) (rank h) (pawn_moves (files_apart h s) (rank s) (rank h))) (sym e) (climbs (files_apart h s) (rank s) (rank h))) after

min-more : (a b c d : ℕ) → a ≤ c + 1 → b ≤ d + 1 → min a b ≤ min c d + 1
min-more a b c d x y = elim (cases_lt c d) [
  | inl low ↦ omega (arith, min-eq_left (let h : c ≤ d = omega arith in h), min-le_left a b)
  | inr high ↦ omega (arith, min-eq_right high, min-le_right a b)
]

least-more : (f g : ℕ → ℕ) (xs : List ℕ) → ((x : ℕ) → g x ≤ f x + 1) → least (map g xs) ≤ least (map f xs) + 1
least-more f g [] h = omega arith
least-more f g (x ∷ xs) h = min-more (g x) (least (map g xs)) (f x) (least (map f xs)) (h x) (least-more f g xs h)

pub least-at : (g : ℕ → ℕ) (xs : List ℕ) (x : ℕ) → Has xs x → least (map g xs) ≤ g x
least-at g [] x h = elim h [ ]
least-at g (y ∷ xs) x h = elim h [
  | inl e ↦ let same : g y ≡ g x = ap g e in omega (arith, same, min-le_left (g y) (least (map g xs)))
  | inr later ↦ omega (arith, least-at g xs x later, min-le_right (g y) (least (map g xs)))
]

pub least-most : (xs : List ℕ) → least xs ≤ 64
least-most [] = omega arith
least-most (x ∷ xs) = omega (arith, least-most xs, min-le_right x (least xs))

promoted-on : (c : Colour) (k : Kind) (h s t : ℕ) → s < 64 → kind_attacks no_men White k s t ≡ true → promoted_way c k h t ≤ promoted_way c k h s + 1
unfolding promoted_way
promoted-on c k h s t small attacked =
    least-more (λ f. pawn_way c h (promotion_square c f) + steps k (promotion_square c f) s) (λ f. pawn_way c h (promotion_square c f) + steps k (promotion_square c f) t) (range_with_len 0 8)
    (λ f. omega (arith, one-step k (promotion_square c f) s t small attacked))

from_pawn-on : (c : Colour) (k : Kind) (h s t : ℕ) → s < 64 → same_kind Pawn k ≡ false → kind_attacks no_men White k s t ≡ true → from_pawn k c h t ≤ from_pawn k c h s + 1
from_pawn-on c Pawn h s t small other attacked = absurd (both_ways (same_kind Pawn Pawn) other refl)
from_pawn-on c Knight h s t small other attacked = promoted-on c Knight h s t small attacked
from_pawn-on c Bishop h s t small other attacked = promoted-on c Bishop h s t small attacked
from_pawn-on c Rook h s t small other attacked = promoted-on c Rook h s t small attacked
from_pawn-on c Queen h s t small other attacked = promoted-on c Queen h s t small attacked
from_pawn-on c King h s t small other attacked = omega arith

cond-more : (b : Bool) (x y z w : ℕ) → (b ≡ true → x ≤ y + 1) → (b ≡ false → z ≤ w + 1) → cond b x z ≤ cond b y w + 1
cond-more true x y z w a c = a refl
cond-more false x y z w a c = c refl

from-on : (place : Option Man) (man : Man) (h s t : ℕ) → s < 64 → same_kind Pawn man.kind ≡ false → kind_attacks no_men White man.kind s t ≡ true → cost_from place man t h ≤ cost_from place man s h + 1
from-on None man h s t small other attacked = omega arith
from-on (Some first) man h s t small other attacked =
    cond-more (same_colour man.colour first.colour) _ _ _ _
    (λ colour. cond-more (same_kind Pawn first.kind) _ _ _ _
    (λ pawn. from_pawn-on man.colour man.kind h s t small other attacked)
    (λ officer. cond-more (same_kind first.kind man.kind) _ _ _ _ (λ same. one-step man.kind h s t small attacked) (λ unlike. omega arith)))
    (λ enemy. omega arith)

-- a step of a man who is no pawn adds at most one
pub officer-on : (o : List Bool) (man : Man) (h s t : ℕ) → s < 64 → same_kind Pawn man.kind ≡ false → kind_attacks no_men White man.kind s t ≡ true → move_cost o man t h ≤ move_cost o man s h + 1
unfolding move_cost
officer-on o man h s t small other attacked = from-on (at (array_of o) h) man h s t small other attacked

-- what a pawn becomes on its last rank needs no step more
on-last : (c : Colour) (t : ℕ) → rank t ≡ last_rank c → promotion_square c (file t) ≡ t
on-last White t there = omega arith
on-last Black t there = omega arith

promoted-here : (c : Colour) (k : Kind) (h t : ℕ) → t < 64 → rank t ≡ last_rank c → promoted_way c k h t ≤ pawn_way c h t
unfolding promoted_way
promoted-here c k h t small there =
    let e : promotion_square c (file t) ≡ t = on-last c t there in
    let one = least-at (λ f. pawn_way c h (promotion_square c f) + steps k (promotion_square c f) t) (range_with_len 0 8) (file t) (has-range 0 8 (file t) (omega arith) (omega arith)) in
    let none : steps k (promotion_square c (file t)) t ≡ 0 = ap (λ (u : ℕ). steps k u t) e ∙ no-step k t in
    let way : pawn_way c h (promotion_square c (file t)) ≡ pawn_way c h t = ap (pawn_way c h) e in
    omega arith

-- an officer who began as a pawn
officer-from : (k : Kind) (c : Colour) (h t : ℕ) → is_officer k ≡ true → from_pawn k c h t ≡ promoted_way c k h t
officer-from Pawn c h t officer = absurd (both_ways false refl officer)
officer-from Knight c h t officer = refl
officer-from Bishop c h t officer = refl
officer-from Rook c h t officer = refl
officer-from Queen c h t officer = refl
officer-from King c h t officer = absurd (both_ways false refl officer)

-- what a pawn may be after his move to t
pub data Becomes (c : Colour) (t : ℕ) (promo : Option Kind) : Type 0 where
  stays_pawn : promo ≡ None → Becomes c t promo
  promotes_to : (k : Kind) → promo ≡ Some k → is_officer k ≡ true → rank t ≡ last_rank c → Becomes c t promo

officer-most : (j k : Kind) (h s : ℕ) → from_officer j k h s ≤ 64
officer-most j k h s = elim (cases_Bool (same_kind j k)) [
  | inl same ↦ let e = cond-true _ (steps k h s) 64 same in omega (arith, e, steps-most k h s)
  | inr other ↦ let e = cond-false _ (steps k h s) 64 other in omega (arith, e)
]

no-pawn-home : (j : Kind) (h s : ℕ) → same_kind Pawn j ≡ false → from_officer j Pawn h s ≡ 64
no-pawn-home Pawn h s other = absurd (both_ways (same_kind Pawn Pawn) other refl)
no-pawn-home Knight h s other = refl
no-pawn-home Bishop h s other = refl
no-pawn-home Rook h s other = refl
no-pawn-home Queen h s other = refl
no-pawn-home King h s other = refl

-- the rank of a pawn's home
abbrev HomeRank : Option Man → Colour → ℕ → Type 0
HomeRank place c h = is_the c Pawn place ≡ true → rank h ≡ pawn_rank c

pawn-from : (place : Option Man) (c : Colour) (h s t : ℕ) → t < 64 → HomeRank place c h → PawnGoes c s t → cost_from place (record { colour = c; kind = Pawn }) t h ≤ cost_from place (record { colour = c; kind = Pawn }) s h + 1
pawn-from None c h s t small home goes = omega arith
pawn-from (Some first) c h s t small home goes =
    cond-more (same_colour c first.colour) _ _ _ _
    (λ colour. cond-more (same_kind Pawn first.kind) _ _ _ _
    (λ kind. pawn-on c h s t small (home (and_from _ _ colour kind)) goes)
    (λ other. omega (arith, no-pawn-home first.kind h t other, no-pawn-home first.kind h s other)))
    (λ other. omega arith)

promoted-from : (place : Option Man) (c : Colour) (k : Kind) (h s t : ℕ) → t < 64 → HomeRank place c h → PawnGoes c s t → is_officer k ≡ true → rank t ≡ last_rank c → cost_from place (record { colour = c; kind = k }) t h ≤ cost_from place (record { colour = c; kind = Pawn }) s h + 1
promoted-from None c k h s t small home goes officer there = omega arith
promoted-from (Some first) c k h s t small home goes officer there =
    cond-more (same_colour c first.colour) _ _ _ _
    (λ colour. cond-more (same_kind Pawn first.kind) _ _ _ _
    (λ kind. omega (arith, officer-from k c h t officer, promoted-here c k h t small there, pawn-on c h s t small (home (and_from _ _ colour kind)) goes))
    (λ other. omega (arith, officer-most first.kind k h t, no-pawn-home first.kind h s other)))
    (λ other. omega arith)

pawn-becomes : (place : Option Man) (c : Colour) (promo : Option Kind) (h s t : ℕ) → t < 64 → HomeRank place c h → PawnGoes c s t → Becomes c t promo → cost_from place (promoted_man promo (record { colour = c; kind = Pawn })) t h ≤ cost_from place (record { colour = c; kind = Pawn }) s h + 1
pawn-becomes place c promo h s t small home goes (stays_pawn e) =
    subst (λ (p : Option Kind). cost_from place (promoted_man p (record { colour = c; kind = Pawn })) t h ≤ cost_from place (record { colour = c; kind = Pawn }) s h + 1) (sym e) (pawn-from place c h s t small home goes)
pawn-becomes place c promo h s t small home goes (promotes_to k e officer there) =
    subst (λ (p : Option Kind). cost_from place (promoted_man p (record { colour = c; kind = Pawn })) t h ≤ cost_from place (record { colour = c; kind = Pawn }) s h + 1) (sym e) (promoted-from place c k h s t small home goes officer there)

-- a man of this colour and kind
abbrev built : Colour → Kind → Man
built c k = record { colour = c; kind = k }

same-parts : (c d : Colour) (k j : Kind) → c ≡ d → k ≡ j → built c k ≡ built d j
same-parts c d k j a b = cc

same-man : (man : Man) (c : Colour) (k : Kind) → man.colour ≡ c → man.kind ≡ k → man ≡ built c k
same-man man c k a b = same-parts man.colour c man.kind k a b

-- a pawn's move, and what he becomes by it, add at most one
pub pawn-moves-on : (o : List Bool) (man : Man) (c : Colour) (promo : Option Kind) (h s t : ℕ) → man.colour ≡ c → man.kind ≡ Pawn → t < 64 → PawnGoes c s t → Becomes c t promo → move_cost o (promoted_man promo man) t h ≤ move_cost o man s h + 1
unfolding move_cost
pawn-moves-on o man c promo h s t colour kind small goes becomes =
    subst (λ (x : Man). cost_from (at (array_of o) h) (promoted_man promo x) t h ≤ cost_from (at (array_of o) h) x s h + 1) (sym (same-man man c Pawn colour kind)) (pawn-becomes (at (array_of o) h) c promo h s t small (array-pawn o c h) goes becomes)

king-crosses : (x : Castle) → (kind_attacks no_men White King (king_home x) (crossed x) ≡ true) × (kind_attacks no_men White King (crossed x) (king_target x) ≡ true)
unfolding kind_attacks king_distance distance
king-crosses WhiteShort = (refl, refl)
king-crosses WhiteLong = (refl, refl)
king-crosses BlackShort = (refl, refl)
king-crosses BlackLong = (refl, refl)

rook-crosses : (x : Castle) → kind_attacks no_men White Rook (rook_home x) (crossed x) ≡ true
unfolding kind_attacks king_distance on_the_way toward distance
rook-crosses WhiteShort = refl
rook-crosses WhiteLong = refl
rook-crosses BlackShort = refl
rook-crosses BlackLong = refl

of-kind : (man : Man) (k : Kind) → man.kind ≡ k → same_kind Pawn k ≡ false → (same_kind Pawn man.kind ≡ false)
of-kind man k e other = ap (same_kind Pawn) e ∙ other

attacks-as : (man : Man) (k : Kind) (s t : ℕ) → man.kind ≡ k → kind_attacks no_men White k s t ≡ true → kind_attacks no_men White man.kind s t ≡ true
attacks-as man k s t e h = ap (λ (j : Kind). kind_attacks no_men White j s t) e ∙ h

-- castling adds two for the king and one for the rook
pub king-castles : (o : List Bool) (man : Man) (x : Castle) (h : ℕ) → man.kind ≡ King → move_cost o man (king_target x) h ≤ move_cost o man (king_home x) h + 2
king-castles o man x h kind =
    let other : same_kind Pawn man.kind ≡ false = of-kind man King kind refl in
    let first = officer-on o man h (king_home x) (crossed x) (king_home-within x) other (attacks-as man King (king_home x) (crossed x) kind (king-crosses x).0) in
    let second = officer-on o man h (crossed x) (king_target x) (crossed-within x) other (attacks-as man King (crossed x) (king_target x) kind (king-crosses x).1) in
    omega (arith, first, second)

pub rook-castles : (o : List Bool) (man : Man) (x : Castle) (h : ℕ) → man.kind ≡ Rook → move_cost o man (crossed x) h ≤ move_cost o man (rook_home x) h + 1
rook-castles o man x h kind =
    officer-on o man h (rook_home x) (crossed x) (rook_home-within x) (of-kind man Rook kind refl) (attacks-as man Rook (rook_home x) (crossed x) kind (rook-crosses x))

own-files : (s : ℕ) → files_apart s s ≡ 0
unfolding distance
own-files s = omega arith

own-climbed : (files r n : ℕ) → files ≡ 0 → Climbs files r r n → n ≡ 0
own-climbed files r n none (doubled a e) = omega arith
own-climbed files r n none (single a b e) = omega arith
own-climbed files r n none (never a e) = omega arith

own-climb : (files r : ℕ) → files ≡ 0 → pawn_moves files r r ≡ 0
own-climb files r none = own-climbed files r (pawn_moves files r r) none (climbs files r r)

own-pawn : (c : Colour) (s : ℕ) → pawn_way c s s ≡ 0
unfolding pawn_way
own-pawn White s = own-climb (files_apart s s) (rank s) (own-files s)
own-pawn Black s = own-climb (files_apart s s) (rank s) (own-files s)

-- a man on his own home needs none
pub at-home-none : (o : List Bool) (man : Man) (s : ℕ) → at (array_of o) s ≡ Some man → move_cost o man s s ≡ 0
unfolding move_cost
at-home-none o man s there =
    ap (λ (p : Option Man). cost_from p man s s) there
    ∙ cond-true _ _ 64 (same_colour-self man.colour)
    ∙ elim (cases_Bool (same_kind Pawn man.kind)) [
      | inl pawn ↦ cond-true _ _ _ pawn ∙ ap (λ (k : Kind). from_pawn k man.colour s s) (sym (kind_is Pawn man.kind pawn)) ∙ own-pawn man.colour s
      | inr other ↦ cond-false _ _ _ other ∙ cond-true _ _ 64 (same_kind-self man.kind) ∙ no-step man.kind s
    ]

pub promoted-colour : (promo : Option Kind) (man : Man) → (promoted_man promo man).colour ≡ man.colour
promoted-colour None man = refl
promoted-colour (Some k) man = refl
