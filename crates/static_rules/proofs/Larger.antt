-- What the rules gain where the set grows, and with the best potentials.
use Rattle.std.proofs.Common.{◌≡◌, ℕ, zero, suc, ◌+◌, ◌-◌, ◌<◌, ◌≤◌, Bool, true, cond, ◌&&◌, not, List, length, arith}
use Rattle.std.specs.Prelude.{◌↔◌, ℤ, pos, ◌+ℤ◌, ◌<ℤ◌, ◌≤ℤ◌}
use Rattle.std.proofs.lemmas.Bool.{and_parts, and_from, both_ways, false_from_ne_true, not-true, not_from_false}
use Rattle.std.proofs.lemmas.Int.{ints}
use Rattle.std.proofs.lemmas.List.Sums.{sum_by-cons}
use Rattle.std.specs.List.{count_by, range_with_len}
use Rattle.board_base.specs.Board.{Places, array_of, at, is_of, is_the, opponent}
use Rattle.board_base.specs.Legal.{is_officer}
use Rattle.board_base.specs.Potentials.{ArePotentials, Duals, duals}
use Rattle.board_base.specs.declared.men.Colour.{Colour}
use Rattle.board_base.specs.declared.men.Kind.{Kind}
use Rattle.board_base.specs.declared.men.Kind.TheVariants.{Knight, Bishop, Rook, Queen}
use Rattle.men_account.specs.Account.{counts_of, excess_of, is_any, is_dark, is_light, men, allowance_of}
use Rattle.men_account.specs.Homes.{men_of}
use Rattle.men_account.specs.declared.tallies.Counts.{Counts}
use Rattle.men_account.specs.declared.tallies.Allowance.{Allowance}
use Rattle.play_rules.specs.Reach.{IsWithin}
use Rattle.query_base.specs.Asked.{Asked}
use Rattle.cage_rules.specs.Frozen.{IsAsArray, IsFrozen}
use Rattle.cage_rules.specs.Refuted.{HasTooMany, is_spent}
use Rattle.cage_rules.specs.Regions.{is_dead, is_officer_home, is_shielded}
use Rattle.cage_rules.proofs.Gains.{dead-more, shielded-more}
use Rattle.assignment.specs.Assignments.{total}
use Rattle.pawn_assign.specs.PawnCosts.{pawn_squares}
use Rattle.static_rules.specs.SetRules.{CapsSupports, FrozenSupports, IsAbove, IsSettled, PromoSupports}
use Rattle.static_rules.specs.Greatest.{AreBest, IsGreatestSettled}
use Rattle.static_rules.proofs.Left.{home-of}
use Rattle.general_lemmas.proofs.Counts.{one_if-more}

-- counts

-- what passes more counts more
pub less-count : (p q : ℕ → Bool) (k n : ℕ) → ((s : ℕ) → k ≤ s → s < k + n → p s ≡ true → q s ≡ true) → count_by p (range_with_len k n) ≤ count_by q (range_with_len k n)
less-count p q k zero less = omega arith
less-count p q k (suc n) less =
    let here : ◌≤◌ (cond (p k) 1 0) (cond (q k) 1 0) = one_if-more (p k) (q k) (less k (omega arith) (omega arith)) in
    let rest = less-count p q (k + 1) n (λ s low high. less s (omega arith) (omega arith)) in
    omega (arith, sum_by-cons (λ x. cond (p x) 1 0) k (range_with_len (k + 1) n), sum_by-cons (λ x. cond (q x) 1 0) k (range_with_len (k + 1) n), here, rest)

-- a home that is alive with the larger set is alive with the smaller
alive-less : (board : Places) (inner outer : List Bool) (h : ℕ) → is_officer_home h ≡ true → length inner ≡ 64 → IsWithin inner outer → not (is_dead board outer h) ≡ true → not (is_dead board inner h) ≡ true
alive-less board inner outer h home size within alive =
    not_from_false _ (false_from_ne_true _ (λ dead. both_ways _ (not-true _ alive) (dead-more board inner outer h home size within dead)))

living-less : (o : List Bool) (board : Places) (inner outer : List Bool) (c : Colour) (k : Kind) (among : ℕ → Bool) → is_officer k ≡ true → length inner ≡ 64 → IsWithin inner outer → men c k (λ s. among s && not (is_dead board outer s)) (array_of o) ≤ men c k (λ s. among s && not (is_dead board inner s)) (array_of o)
unfolding men
living-less o board inner outer c k among officer size within =
    less-count (λ s. is_the c k (at (array_of o) s) && (among s && not (is_dead board outer s))) (λ s. is_the c k (at (array_of o) s) && (among s && not (is_dead board inner s))) 0 64 (λ s low high here.
    let parts = and_parts (is_the c k (at (array_of o) s)) (among s && not (is_dead board outer s)) here in
    let tests = and_parts (among s) (not (is_dead board outer s)) parts.1 in
    and_from _ _ parts.0 (and_from _ _ tests.0 (alive-less board inner outer s (home-of o c k s officer parts.0) size within tests.1)))

off-less : (n a b : ℕ) → b ≤ a → n - a ≤ n - b
off-less n a b h = omega arith

sums-less : (p a b c d e a' b' c' d' e' : ℕ) → a ≤ a' → b ≤ b' → c ≤ c' → d ≤ d' → e ≤ e' → p + a + b + c + d + e ≤ p + a' + b' + c' + d' + e'
sums-less p a b c d e a' b' c' d' e' h1 h2 h3 h4 h5 = omega arith

pub excess-more : (n : Counts) (a b : Allowance) → b.knights ≤ a.knights → b.light_bishops ≤ a.light_bishops → b.dark_bishops ≤ a.dark_bishops → b.rooks ≤ a.rooks → b.queens ≤ a.queens → excess_of n a ≤ excess_of n b
excess-more n a b knights light dark rooks queens =
    sums-less n.pawns (n.queens - a.queens) (n.rooks - a.rooks) (n.knights - a.knights) (n.light_bishops - a.light_bishops) (n.dark_bishops - a.dark_bishops) (n.queens - b.queens) (n.rooks - b.rooks) (n.knights - b.knights) (n.light_bishops - b.light_bishops) (n.dark_bishops - b.dark_bishops) (off-less n.queens a.queens b.queens queens) (off-less n.rooks a.rooks b.rooks rooks) (off-less n.knights a.knights b.knights knights) (off-less n.light_bishops a.light_bishops b.light_bishops light) (off-less n.dark_bishops a.dark_bishops b.dark_bishops dark)

still-more : (a b c : ℕ) → a < b → b ≤ c → a < c
still-more a b c h k = omega arith

more-gains : (o : List Bool) (q : Asked) (side : Colour) (inner outer : List Bool) → length inner ≡ 64 → IsWithin inner outer → HasTooMany o q inner side → HasTooMany o q outer side
more-gains o q side inner outer size within more =
    still-more _ _ _ more (excess-more (counts_of side q.board) (allowance_of side (λ h. not (is_dead q.board inner h)) (array_of o)) (allowance_of side (λ h. not (is_dead q.board outer h)) (array_of o)) (living-less o q.board inner outer side Knight is_any (λ i. true) size within) (living-less o q.board inner outer side Bishop is_light (λ i. true) size within) (living-less o q.board inner outer side Bishop is_dark (λ i. true) size within) (living-less o q.board inner outer side Rook is_any (λ i. true) size within) (living-less o q.board inner outer side Queen is_any (λ i. true) size within))

spent-more : (o : List Bool) (board : Places) (inner outer : List Bool) (c : Colour) → length inner ≡ 64 → IsWithin inner outer → men_of c (is_spent board inner) (array_of o) ≤ men_of c (is_spent board outer) (array_of o)
unfolding men_of
spent-more o board inner outer c size within =
    less-count (λ s. is_of c (at (array_of o) s) && is_spent board inner s) (λ s. is_of c (at (array_of o) s) && is_spent board outer s) 0 64 (λ s low high here.
    let parts = and_parts (is_of c (at (array_of o) s)) (is_spent board inner s) here in
    let spent = and_parts (is_officer_home s && is_dead board inner s) (is_shielded inner s) parts.1 in
    let dead = and_parts (is_officer_home s) (is_dead board inner s) spent.0 in
    and_from _ _ parts.0 (and_from _ _ (and_from _ _ dead.0 (dead-more board inner outer s dead.0 size within dead.1)) (shielded-more inner outer s dead.0 size within spent.1)))

-- above it remains where the sum and the number grow
above-more : (all board inner outer : ℕ) (sum best : ℤ) → pos all <ℤ (sum +ℤ pos (board + inner)) → inner ≤ outer → sum ≤ℤ best → pos all <ℤ (best +ℤ pos (board + outer))
above-more all board inner outer sum best above more better = omega (arith, ints)

no-less : (n : ℤ) → n ≤ℤ n
no-less n = omega (arith, ints)

above-gains : (o : List Bool) (q : Asked) (side : Colour) (inner outer : List Bool) (u v : List ℤ) → length inner ≡ 64 → IsWithin inner outer → IsAbove o q side inner u v → IsAbove o q side outer u v
above-gains o q side inner outer u v size within h = record {
  pawns = h.pawns;
  eight = h.eight;
  needs = record {
    bounded = h.needs.bounded;
    above = above-more (men_of (opponent side) is_any (array_of o)) (men_of (opponent side) is_any q.board) (men_of (opponent side) (is_spent q.board inner) (array_of o)) (men_of (opponent side) (is_spent q.board outer) (array_of o)) (total u +ℤ total v) (total u +ℤ total v) h.needs.above (spent-more o q.board inner outer (opponent side) size within) (no-less (total u +ℤ total v));
  };
}

above-best : (o : List Bool) (q : Asked) (side : Colour) (set : List Bool) (u v bu bv : List ℤ) → AreBest o side q.board bu bv → IsAbove o q side set u v → IsAbove o q side set bu bv
above-best o q side set u v bu bv b h =
    let few : length (pawn_squares side q.board) ≤ 8 = (let p = h.pawns in let e = h.eight in omega arith) in
    let best = b few in
    let spent : ℕ = men_of (opponent side) (is_spent q.board set) (array_of o) in
    record {
      pawns = best.0.1;
      eight = (let same = best.0.1 in omega arith);
      needs = record {
        bounded = best.0.0;
        above = above-more (men_of (opponent side) is_any (array_of o)) (men_of (opponent side) is_any q.board) spent spent (total u +ℤ total v) (total bu +ℤ total bv) h.needs.above (omega arith) (best.1 u v h.needs.bounded);
      };
    }

-- The rules gain where the set grows and the sum of the potentials does.

pub promo-gains : (o : List Bool) (q : Asked) (side : Colour) (inner outer : List Bool) → IsWithin inner outer → IsSettled o q outer → PromoSupports o q side inner → PromoSupports o q side outer
promo-gains o q side inner outer within settled h = record { settled = settled; more = more-gains o q side inner outer h.settled.whole within h.more }

pub caps-gains : (o : List Bool) (q : Asked) (side : Colour) (inner outer : List Bool) (u v : List ℤ) → IsWithin inner outer → IsSettled o q outer → CapsSupports o q side inner u v → CapsSupports o q side outer u v
caps-gains o q side inner outer u v within settled h = record { settled = settled; numbers = h.numbers; above = above-gains o q side inner outer u v h.settled.whole within h.above }

pub best-gains : (o : List Bool) (q : Asked) (side : Colour) (set : List Bool) (u v bu bv : List ℤ) → AreBest o side q.board bu bv → ArePotentials (duals bu bv) → CapsSupports o q side set u v → CapsSupports o q side set bu bv
best-gains o q side set u v bu bv best numbers h = record { settled = h.settled; numbers = numbers; above = above-best o q side set u v bu bv best h.above }

-- The greatest sets and the best potentials decide.

pub frozen-decided : (o : List Bool) (q : Asked) (greatest : List Bool) → ((set : List Bool) → IsFrozen q set → IsWithin set greatest) → IsAsArray o q.board greatest → (set : List Bool) → FrozenSupports o q set → ⊥
frozen-decided o q greatest contains same set h = h.changed (λ s member. same s (contains set h.frozen s member))

pub promo-decided : (o : List Bool) (q : Asked) (side : Colour) (greatest : List Bool) → IsGreatestSettled o q greatest → (set : List Bool) → PromoSupports o q side set → HasTooMany o q greatest side
promo-decided o q side greatest g set h = more-gains o q side set greatest h.settled.whole (g.greatest set h.settled.frozen h.settled.as_array) h.more

-- what a set and potentials tell of the greatest set
pub caps-greatest : (o : List Bool) (q : Asked) (side : Colour) (greatest : List Bool) → IsGreatestSettled o q greatest → (set : List Bool) (u v : List ℤ) → CapsSupports o q side set u v → IsAbove o q side greatest u v
caps-greatest o q side greatest g set u v h = above-gains o q side set greatest u v h.settled.whole (g.greatest set h.settled.frozen h.settled.as_array) h.above

pub caps-decided : (o : List Bool) (q : Asked) (side : Colour) (greatest : List Bool) (bu bv : List ℤ) → IsGreatestSettled o q greatest → AreBest o side q.board bu bv → (set : List Bool) (u v : List ℤ) → CapsSupports o q side set u v → IsAbove o q side greatest bu bv
caps-decided o q side greatest bu bv g best set u v h = above-best o q side greatest u v bu bv best (caps-greatest o q side greatest g set u v h)

pub frozen-by-greatest : (o : List Bool) (q : Asked) (greatest : List Bool) → length greatest ≡ 64 → IsFrozen q greatest → ((set : List Bool) → IsFrozen q set → IsWithin set greatest) → ((set : List Bool) × FrozenSupports o q set) ↔ FrozenSupports o q greatest
frozen-by-greatest o q greatest size frozen contains =
    (λ h. record { whole = size; frozen = frozen; changed = λ same. frozen-decided o q greatest contains same h.0 h.1 }, λ h. (greatest, h))

pub promo-by-greatest : (o : List Bool) (q : Asked) (side : Colour) (greatest : List Bool) → IsGreatestSettled o q greatest → ((set : List Bool) × PromoSupports o q side set) ↔ PromoSupports o q side greatest
promo-by-greatest o q side greatest g = (λ h. record { settled = g.settled; more = promo-decided o q side greatest g h.0 h.1 }, λ h. (greatest, h))

pub caps-by-greatest : (o : List Bool) (q : Asked) (side : Colour) (greatest : List Bool) (u v : List ℤ) → IsGreatestSettled o q greatest → AreBest o side q.board u v → ArePotentials (duals u v) → ((set : List Bool) × (p : Duals) × CapsSupports o q side set p.u p.v) ↔ CapsSupports o q side greatest u v
caps-by-greatest o q side greatest u v g best numbers =
    (λ h. record { settled = g.settled; numbers = numbers; above = caps-decided o q side greatest u v g best h.0 h.1.u h.1.v h.2 }, λ h. (greatest, duals u v, h))
