-- No more homes are dead than those on which their men don't stand, and those that an enemy pawn can strike aren't shielded.
use Rattle.std.proofs.Common.{◌≡◌, ℕ, suc, ◌+◌, ◌-◌, ◌<◌, ◌≤◌, inl, inr, Bool, true, false, cond, ◌&&◌, ◌||◌, ◌==◌, not, List, length, refl, sym, ap, ◌∙◌, subst, arith}
use Rattle.std.specs.Prelude.{Option, None, ℤ, pos, ◌+ℤ◌, ◌≤ℤ◌, ◌<ℤ◌}
use Rattle.std.specs.List.{count_by, list_all, range_with_len}
use Rattle.std.proofs.lemmas.Bool.{and_from, and_parts, both_ways, cases_Bool, false_from_ne_true, not-true, not_from_false, or_cases, or_from, or_left, or_right}
use Rattle.std.proofs.lemmas.Int.{ints}
use Rattle.std.proofs.lemmas.List.FromFn.{length-range_with_len}
use Rattle.std.proofs.lemmas.List.Sums.{count_by-le-length}
use Rattle.general_lemmas.proofs.Counts.{count-end, one_if}
use Rattle.board_base.specs.Attacks.{distance}
use Rattle.board_base.specs.Board.{Places, array_of, at, file, initial_array, is_a, is_empty, is_in, is_of, is_the, opponent, rank}
use Rattle.board_base.specs.Legal.{is_officer}
use Rattle.board_base.specs.declared.men.Colour.{Colour}
use Rattle.board_base.specs.declared.men.Colour.TheVariants.{White, Black}
use Rattle.board_base.specs.declared.men.Kind.{Kind}
use Rattle.board_base.specs.declared.men.Kind.TheVariants.{Pawn, Knight, Bishop, Rook, Queen}
use Rattle.board_base.specs.declared.men.Man.{Man}
use Rattle.board_base.proofs.Without.{at-without}
use Rattle.board_base.proofs.KindsOfMen.{full-of}
use Rattle.play_rules.specs.Laws.{is_end}
use Rattle.men_account.specs.Account.{counts_of, excess_of, is_any, is_dark, is_light, men, allowance_of}
use Rattle.men_account.specs.Homes.{men_of}
use Rattle.men_account.specs.declared.tallies.Allowance.{Allowance}
use Rattle.men_account.specs.declared.tallies.Counts.{Counts}
use Rattle.query_base.specs.Asked.{Asked}
use Rattle.cage_rules.specs.Refuted.{HasTooMany, is_spent}
use Rattle.cage_rules.specs.Regions.{beginner, is_dead, is_exposed, is_officer_home, is_shielded, is_struck, may_strike, region}
use Rattle.cage_rules.proofs.Beginners.{officer-inside}
use Rattle.cage_rules.proofs.Regions.{region-home}
use Rattle.general_lemmas.proofs.Ranges.{any-found}
use Rattle.cage_rules.proofs.Tested.{at_board}
use Rattle.assignment.specs.Assignments.{IsBounded, IsInjection, assignment_cost, total}
use Rattle.assignment.proofs.Duality.{weak_duality}
use Rattle.pawn_assign.specs.PawnCosts.{pawn_costs}
use Rattle.static_rules.specs.Left.{has_stayed, left_with}
use Rattle.static_rules.specs.SetRules.{IsAbove}
use Rattle.static_rules.specs.Stayed.{IsStayedAllowance, front, is_guarded, may_be_spent, pawns_alone}
use Rattle.static_rules.proofs.Alive.{alive-at-home}
use Rattle.static_rules.proofs.Larger.{excess-more, less-count}
use Rattle.static_rules.proofs.Left.{at-left, home-of}

both-not : (a b : Bool) → a ≡ true → not (a && not b) ≡ true → b ≡ true
both-not true true e h = refl
both-not true false e h = h
both-not false b e h = absurd (both_ways false refl e)

-- Officers who stand where they began

kept-both : (c : Colour) (k : Kind) (b : Bool) (place : Option Man) → is_the c k (cond b place None) ≡ true → (b ≡ true) × (is_the c k place ≡ true)
kept-both c k true place h = (refl, h)
kept-both c k false place h = absurd (both_ways false refl h)

stayed-less : (o : List Bool) (board : Places) (set : List Bool) (c : Colour) (k : Kind) (among : ℕ → Bool) → is_officer k ≡ true → men c k among (left_with (has_stayed (array_of o) board) (array_of o)) ≤ men c k (λ s. among s && not (is_dead board set s)) (array_of o)
unfolding men
stayed-less o board set c k among officer =
    less-count (λ s. is_the c k (at (left_with (has_stayed (array_of o) board) (array_of o)) s) && among s) (λ s. is_the c k (at (array_of o) s) && (among s && not (is_dead board set s))) 0 64 (λ s low high here.
    let inside : s < 64 = omega arith in
    let parts = and_parts (is_the c k (at (left_with (has_stayed (array_of o) board) (array_of o)) s)) (among s) here in
    let kept = kept-both c k (has_stayed (array_of o) board s) (at (array_of o) s) (ap (is_the c k) (sym (at-left (has_stayed (array_of o) board) (array_of o) s inside)) ∙ parts.0) in
    let full : is_empty (at (array_of o) s) ≡ false = full-of c (at (array_of o) s) (and_parts (is_of c (at (array_of o) s)) (is_a k (at (array_of o) s)) kept.1).0 in
    and_from _ _ kept.1 (and_from _ _ parts.1 (not_from_false _ (alive-at-home o board set s (home-of o c k s officer kept.1) full kept.0))))

above-most : (all most excess less : ℕ) → all < excess → excess ≤ less → less ≤ most → most ≡ all → ⊥
above-most all most excess less above fewer few same = omega arith

-- no more than those who don't stand there have been promoted
few-more : (o : List Bool) (q : Asked) (side : Colour) (a : Allowance) → IsStayedAllowance (array_of o) side q.board a → excess_of (counts_of side q.board) a ≤ a.pawns → (set : List Bool) → HasTooMany o q set side → ⊥
few-more o q side a (pawns, knights, light, dark, rooks, queens) few set more =
    let living : Allowance = allowance_of side (λ h. not (is_dead q.board set h)) (array_of o) in
    let least = excess-more (counts_of side q.board) living a (omega (arith, knights, stayed-less o q.board set side Knight is_any refl)) (omega (arith, light, stayed-less o q.board set side Bishop is_light refl)) (omega (arith, dark, stayed-less o q.board set side Bishop is_dark refl)) (omega (arith, rooks, stayed-less o q.board set side Rook is_any refl)) (omega (arith, queens, stayed-less o q.board set side Queen is_any refl)) in
    above-most _ _ _ _ more least few pawns

-- nor are more than there are men beside the king
few-men : (o : List Bool) (q : Asked) (side : Colour) (pawns : ℕ) → pawns ≡ men side Pawn is_any (array_of o) → excess_of (counts_of side q.board) (pawns_alone pawns) ≤ pawns → (set : List Bool) → HasTooMany o q set side → ⊥
few-men o q side pawns is few set more =
    let living : Allowance = allowance_of side (λ h. not (is_dead q.board set h)) (array_of o) in
    let least = excess-more (counts_of side q.board) living (pawns_alone pawns) (omega arith) (omega arith) (omega arith) (omega arith) (omega arith) in
    above-most _ _ _ _ more least few is

-- Homes that an enemy pawn can strike

-- an enemy pawn on u, which is neither on rank 1 nor on rank 8, strikes the man who begins on h
strikes : ℕ → ℕ → Bool
strikes h u = is_struck (beginner h) h u && not (is_end u)

-- so it is from the squares beside the one in front
is_struck_home : ℕ → Bool
is_struck_home h = (file h == 0 || strikes h (front h - 1)) && (file h == 7 || strikes h (front h + 1))

each-home : list_all (λ h. not (is_officer_home h && not (is_struck_home h))) (range_with_len 0 64) ≡ true
unfolding beginner initial_array distance strikes is_struck_home
each-home = refl

unexposed : (set : List Bool) (h : ℕ) → is_officer_home h ≡ true → is_shielded set h ≡ true → is_exposed set (beginner h) h ≡ false
unfolding is_shielded
unexposed set h home shielded =
    let inside : h < 64 = officer-inside h home in
    false_from_ne_true _ (λ exposed. both_ways _ (not-true _ (at_board (λ t. not (is_in (region set h) t && is_exposed set (beginner h) t)) h shielded inside)) (and_from _ _ (region-home set (beginner h) h inside) exposed))

-- a square from which the man at home would be struck is in the set
in-front : (set : List Bool) (h u : ℕ) → u < 64 → is_exposed set (beginner h) h ≡ false → strikes h u ≡ true → is_in set u ≡ true
unfolding is_exposed strikes
in-front set h u inside safe strike = elim (cases_Bool (is_in set u)) [
  | inl member ↦ member
  | inr out ↦
      let parts = and_parts (is_struck (beginner h) h u) (not (is_end u)) strike in
      absurd (both_ways _ safe (any-found (may_strike set (beginner h) h) 0 64 u (omega arith) (omega arith) (and_from _ _ parts.0 (not_from_false _ (or_from (is_end u) (is_in set u) (not-true _ parts.1) out)))))
]

front-low : (h : ℕ) → front h < 63
front-low h = elim (cases_Bool (rank h == 0)) [
  | inl first ↦ let is : front h ≡ 8 + file h = ap (λ (b : Bool). cond b (8 + file h) (48 + file h)) first in omega arith
  | inr last ↦ let is : front h ≡ 48 + file h = ap (λ (b : Bool). cond b (8 + file h) (48 + file h)) last in omega arith
]

beside : (set : List Bool) (edge strike : Bool) (u : ℕ) → (strike ≡ true → is_in set u ≡ true) → (edge || strike) ≡ true → (edge || is_in set u) ≡ true
beside set edge strike u there h = elim (or_cases edge strike h) [
  | inl at_edge ↦ or_left edge (is_in set u) at_edge
  | inr struck ↦ or_right edge (is_in set u) (there struck)
]

guarded : (set : List Bool) (h : ℕ) → is_officer_home h ≡ true → is_shielded set h ≡ true → is_guarded set h ≡ true
unfolding is_struck_home
guarded set h home shielded =
    let safe = unexposed set h home shielded in
    let low = front-low h in
    let struck = and_parts _ _ (both-not (is_officer_home h) (is_struck_home h) home (at_board (λ t. not (is_officer_home t && not (is_struck_home t))) h each-home (officer-inside h home))) in
    and_from _ _ (beside set (file h == 0) (strikes h (front h - 1)) (front h - 1) (in-front set h (front h - 1) (omega arith) safe) struck.0) (beside set (file h == 7) (strikes h (front h + 1)) (front h + 1) (in-front set h (front h + 1) (omega arith) safe) struck.1)

spent-may : (o : List Bool) (board : Places) (set : List Bool) (h : ℕ) → is_empty (at (array_of o) h) ≡ false → is_spent board set h ≡ true → may_be_spent (array_of o) board set h ≡ true
spent-may o board set h full spent =
    let parts = and_parts (is_officer_home h && is_dead board set h) (is_shielded set h) spent in
    let dead = and_parts (is_officer_home h) (is_dead board set h) parts.0 in
    let gone : has_stayed (array_of o) board h ≡ false = false_from_ne_true _ (λ stayed. both_ways _ (alive-at-home o board set h dead.0 full stayed) dead.1) in
    and_from _ _ (and_from _ _ dead.0 (not_from_false _ gone)) (guarded set h dead.0 parts.1)

-- so many of the first squares are homes of a side whose men may have been spent
abbrev pub may_spend : Places → Colour → Places → List Bool → ℕ → ℕ
may_spend first side board set i = count_by (λ s. is_of side (at first s) && may_be_spent first board set s) (range_with_len 0 i)

pub may_spend-more : (first : Places) (side : Colour) (board : Places) (set : List Bool) (i n after : ℕ) → n ≡ may_spend first side board set i → after ≡ n + cond (is_of side (at first i) && may_be_spent first board set i) 1 0 → after ≡ may_spend first side board set (i + 1)
may_spend-more first side board set i n after so_far e =
    let grown = count-end (λ s. is_of side (at first s) && may_be_spent first board set s) i 0 in
    let from_zero : 0 + i ≡ i = omega arith in
    let last : ◌≡◌ {A = ℕ} (cond (is_of side (at first (0 + i)) && may_be_spent first board set (0 + i)) 1 0) (cond (is_of side (at first i) && may_be_spent first board set i) 1 0) = ap (λ (s : ℕ). one_if (is_of side (at first s) && may_be_spent first board set s)) from_zero in
    let suc_i : i + 1 ≡ suc i = omega arith in
    let next : may_spend first side board set (i + 1) ≡ may_spend first side board set (suc i) = ap (may_spend first side board set) suc_i in
    omega (arith, grown, last, next, so_far, e)

pub may_spend-few : (first : Places) (side : Colour) (board : Places) (set : List Bool) (i : ℕ) → may_spend first side board set i ≤ i
may_spend-few first side board set i = omega (arith, count_by-le-length (λ s. is_of side (at first s) && may_be_spent first board set s) (range_with_len 0 i), length-range_with_len 0 i)

pub may_spend-all : (first : Places) (side : Colour) (board : Places) (set : List Bool) (i : ℕ) → i ≡ 64 → may_spend first side board set i ≡ men_of side (may_be_spent first board set) first
unfolding men_of
may_spend-all first side board set i e = ap (may_spend first side board set) e

spent-less : (o : List Bool) (c : Colour) (board : Places) (set : List Bool) → men_of c (is_spent board set) (array_of o) ≤ men_of c (may_be_spent (array_of o) board set) (array_of o)
unfolding men_of
spent-less o c board set =
    less-count (λ s. is_of c (at (array_of o) s) && is_spent board set s) (λ s. is_of c (at (array_of o) s) && may_be_spent (array_of o) board set s) 0 64 (λ s low high here.
    let parts = and_parts (is_of c (at (array_of o) s)) (is_spent board set s) here in and_from _ _ parts.0 (spent-may o board set s (full-of c _ parts.0) parts.1))

-- a side begins with seven officers
begun-of : (c : Colour) (b : Bool) (place : Option Man) → is_of c (cond b None place) ≡ true → is_of c place ≡ true
begun-of c true place h = absurd (both_ways false refl h)
begun-of c false place h = h

officers : (c : Colour) → count_by (λ s. is_of c (at initial_array s) && is_officer_home s) (range_with_len 0 64) ≡ 7
unfolding initial_array beginner
officers White = refl
officers Black = refl

seven-spent : (o : List Bool) (c : Colour) (board : Places) (set : List Bool) → men_of c (is_spent board set) (array_of o) ≤ 7
unfolding men_of array_of
seven-spent o c board set =
    let less = less-count (λ s. is_of c (at (array_of o) s) && is_spent board set s) (λ s. is_of c (at initial_array s) && is_officer_home s) 0 64 (λ s low high here.
    let parts = and_parts (is_of c (at (array_of o) s)) (is_spent board set s) here in
    let home = and_parts (is_officer_home s) (is_dead board set s) (and_parts (is_officer_home s && is_dead board set s) (is_shielded set s) parts.1).0 in
    and_from _ _ (begun-of c (is_in o s) (at initial_array s) (sym (ap (is_of c) (at-without o initial_array s)) ∙ parts.0)) home.0) in
    omega (arith, less, officers c)

too-few : (cost on_board spent most all : ℕ) (sum : ℤ) → spent ≤ most → cost + (on_board + most) ≤ all → sum ≤ℤ pos cost → pos all <ℤ (sum +ℤ pos (on_board + spent)) → ⊥
too-few cost on_board spent most all sum less few least above = absurd (omega (arith, ints))

-- where the pawns need no more captures than there are men gone beside those who may have been spent
few-needed : (q : Asked) (side : Colour) (set : List Bool) (table : List (List ℕ)) (files : List ℕ) (most : ℕ) → men_of (opponent side) (is_spent q.board set) (array_of q.odds) ≤ most → table ≡ pawn_costs q.odds side q.board → IsInjection 8 (length table) files → assignment_cost table files + (men_of (opponent side) is_any q.board + most) ≤ men_of (opponent side) is_any (array_of q.odds) → (u v : List ℤ) → IsAbove q.odds q side set u v → ⊥
few-needed q side set table files most spent same injection few u v h =
    let least = weak_duality 8 table u v files (subst (λ (t : List (List ℕ)). IsBounded 8 t u v) (sym same) h.needs.bounded) injection in
    too-few (assignment_cost table files) (men_of (opponent side) is_any q.board) (men_of (opponent side) (is_spent q.board set) (array_of q.odds)) most (men_of (opponent side) is_any (array_of q.odds)) (total u +ℤ total v) spent few least h.needs.above

-- The same, as the tests have it.

pub few-men-from : (q : Asked) (side : Colour) (o : List Bool) (board : Places) (counted : Counts) (a : Allowance) → o ≡ q.odds → board ≡ q.board → counted ≡ counts_of side board → a ≡ allowance_of side is_any (array_of o) → excess_of counted (pawns_alone a.pawns) ≤ a.pawns → (set : List Bool) → HasTooMany q.odds q set side → ⊥
few-men-from q side o board counted a odds here counts is few set more =
    few-men o q side a.pawns (ap (λ (x : Allowance). x.pawns) is) (subst (λ (k : Counts). excess_of k (pawns_alone a.pawns) ≤ a.pawns) (counts ∙ ap (counts_of side) here) few) set
    (subst (λ (x : List Bool). HasTooMany x q set side) (sym odds) more)

pub few-from : (q : Asked) (side : Colour) (o : List Bool) (board : Places) (counted : Counts) (a : Allowance) (n : ℕ) → o ≡ q.odds → board ≡ q.board → counted ≡ counts_of side board → IsStayedAllowance (array_of o) side board a → n ≡ excess_of counted a → n ≤ a.pawns → (set : List Bool) → HasTooMany q.odds q set side → ⊥
few-from q side o board counted a n odds here counts stayed is few set more =
    few-more o q side a (subst (λ (b : Places). IsStayedAllowance (array_of o) side b a) here stayed) (subst (λ (m : ℕ). m ≤ a.pawns) (is ∙ ap (λ (k : Counts). excess_of k a) (counts ∙ ap (counts_of side) here)) few) set
    (subst (λ (x : List Bool). HasTooMany x q set side) (sym odds) more)

on-board : (q : Asked) (side enemy : Colour) (board : Places) (on_board : ℕ) → board ≡ q.board → enemy ≡ opponent side → on_board ≡ men_of enemy is_any board → on_board ≡ men_of (opponent side) is_any q.board
on-board q side enemy board on_board here against counted = counted ∙ ap (λ (c : Colour). men_of c is_any board) against ∙ ap (men_of (opponent side) is_any) here

with-all : (q : Asked) (side enemy : Colour) (o : List Bool) (begun : ℕ) → o ≡ q.odds → enemy ≡ opponent side → begun ≡ men_of enemy is_any (array_of o) → begun ≡ men_of (opponent side) is_any (array_of q.odds)
with-all q side enemy o begun odds against all = all ∙ ap (λ (c : Colour). men_of c is_any (array_of o)) against ∙ ap (λ (x : List Bool). men_of (opponent side) is_any (array_of x)) odds

sums : (cost other on_board on most spent begun all : ℕ) → cost ≡ other → on_board ≡ on → most ≡ spent → begun ≡ all → cost + (on_board + most) ≤ begun → other + (on + spent) ≤ all
sums cost other on_board on most spent begun all e1 e2 e3 e4 few = omega arith

pub ample-from : (q : Asked) (side : Colour) (set o : List Bool) (board : Places) (enemy : Colour) (table : List (List ℕ)) (files : List ℕ) (on_board begun : ℕ) → o ≡ q.odds → board ≡ q.board → enemy ≡ opponent side → table ≡ pawn_costs q.odds side q.board → IsInjection 8 (length table) files → on_board ≡ men_of enemy is_any board → begun ≡ men_of enemy is_any (array_of o) → assignment_cost table files + (on_board + 7) ≤ begun → (u v : List ℤ) → IsAbove q.odds q side set u v → ⊥
ample-from q side set o board enemy table files on_board begun odds here against same injection counted all few =
    few-needed q side set table files 7 (seven-spent q.odds (opponent side) q.board set) same injection (sums _ _ on_board (men_of (opponent side) is_any q.board) 7 7 begun (men_of (opponent side) is_any (array_of q.odds)) refl (on-board q side enemy board on_board here against counted) refl (with-all q side enemy o begun odds against all) few)

pub needed-from : (q : Asked) (side : Colour) (set o : List Bool) (first board : Places) (enemy : Colour) (table : List (List ℕ)) (files : List ℕ) (cost on_board spent begun : ℕ) → o ≡ q.odds → board ≡ q.board → enemy ≡ opponent side → first ≡ array_of o → spent ≡ men_of enemy (may_be_spent first board set) first → table ≡ pawn_costs q.odds side q.board → IsInjection 8 (length table) files → cost ≡ assignment_cost table files → on_board ≡ men_of enemy is_any board → begun ≡ men_of enemy is_any (array_of o) → cost + on_board + spent ≤ begun → (u v : List ℤ) → IsAbove q.odds q side set u v → ⊥
needed-from q side set o first board enemy table files cost on_board spent begun odds here against is may same injection costs counted all few =
    let may_spent : spent ≡ men_of (opponent side) (may_be_spent (array_of q.odds) q.board set) (array_of q.odds) =
    may ∙ ap (λ (f : Places). men_of enemy (may_be_spent f board set) f) (is ∙ ap array_of odds) ∙ ap (λ (b : Places). men_of enemy (may_be_spent (array_of q.odds) b set) (array_of q.odds)) here ∙ ap (λ (c : Colour). men_of c (may_be_spent (array_of q.odds) q.board set) (array_of q.odds)) against in
    few-needed q side set table files (men_of (opponent side) (may_be_spent (array_of q.odds) q.board set) (array_of q.odds)) (spent-less q.odds (opponent side) q.board set) same injection
    (sums cost (assignment_cost table files) on_board (men_of (opponent side) is_any q.board) spent (men_of (opponent side) (may_be_spent (array_of q.odds) q.board set) (array_of q.odds)) begun (men_of (opponent side) is_any (array_of q.odds)) costs (on-board q side enemy board on_board here against counted) may_spent (with-all q side enemy o begun odds against all) (omega arith))
