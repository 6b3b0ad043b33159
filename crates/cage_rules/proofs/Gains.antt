-- Frozen sets together, and what a larger set gains.
use Rattle.std.proofs.Common.{◌≡◌, ℕ, ◌<◌, ◌⊎◌, inl, inr, Bool, true, false, ◌&&◌, ◌||◌, not, List, length, ap, ◌∙◌, arith}
use Rattle.std.proofs.lemmas.Bool.{and_parts, and_from, or_cases, or_left, or_right, or_from, or_parts, not-true, not_from_false, both_ways, false_from_ne_true}
use Rattle.std.specs.Prelude.{Option, Some, None}
use Rattle.board_base.specs.Board.{Places, at, is_empty, is_in, is_like}
use Rattle.board_base.specs.declared.men.Man.{Man}
use Rattle.play_rules.specs.Reach.{IsWithin}
use Rattle.query_base.specs.Asked.{Asked}
use Rattle.cage_rules.specs.Frozen.{IsAsArray, IsFrozen}
use Rattle.cage_rules.specs.Regions.{beginner, is_dead, is_exposed, is_officer_home, is_shielded, may_roam, may_strike, region, wall, walls}
use Rattle.cage_rules.specs.Sets.{union}
use Rattle.cage_rules.proofs.Beginners.{officer-inside}
use Rattle.cage_rules.proofs.Filling.{in-that, is_in-that}
use Rattle.cage_rules.proofs.Greatest.{still-more}
use Rattle.cage_rules.proofs.Loose.{Still}
use Rattle.cage_rules.proofs.Regions.{closed-tells, region-goes, region-home, region-least}
use Rattle.general_lemmas.proofs.Ranges.{any-found}
use Rattle.cage_rules.proofs.Tested.{all_board, any-told, at_board, member-inside}
use Rattle.cage_rules.proofs.Walls.{at-walls, goes-between}

union-left : (a b : List Bool) → length a ≡ 64 → IsWithin a (union a b)
unfolding union
union-left a b size s member = is_in-that (λ s. is_in a s || is_in b s) s (member-inside a s size member) ∙ or_left (is_in a s) (is_in b s) member

union-right : (a b : List Bool) → length b ≡ 64 → IsWithin b (union a b)
unfolding union
union-right a b size s member = is_in-that (λ s. is_in a s || is_in b s) s (member-inside b s size member) ∙ or_right (is_in a s) (is_in b s) member

in-union : (a b : List Bool) (s : ℕ) → is_in (union a b) s ≡ true → (is_in a s ≡ true) ⊎ (is_in b s ≡ true)
unfolding union
in-union a b s member = or_cases (is_in a s) (is_in b s) (in-that (λ s. is_in a s || is_in b s) s member).1

-- two frozen sets are frozen together
pub union-frozen : (q : Asked) (a b : List Bool) → length a ≡ 64 → length b ≡ 64 → IsFrozen q a → IsFrozen q b → IsFrozen q (union a b)
union-frozen q a b sa sb fa fb =
    let here : (s : ℕ) → is_in (union a b) s ≡ true → Still q (union a b) s =
    λ s member. elim (in-union a b s member) [
      | inl first ↦ still-more q a (union a b) s (union-left a b sa) fa first
      | inr second ↦ still-more q b (union a b) s (union-right a b sb) fb second
    ] in
    record { occupied = λ s member. (here s member).occupied; caged = λ s member. (here s member).caged }

-- two sets that are as in the array are so together
pub union-as-array : (o : List Bool) (board : Places) (a b : List Bool) → IsAsArray o board a → IsAsArray o board b → IsAsArray o board (union a b)
union-as-array o board a b here there s member = elim (in-union a b s member) [ inl first ↦ here s first | inr second ↦ there s second ]

-- the walls of a set are occupied where those of a smaller one stand
walls-full : (inner outer : List Bool) → IsWithin inner outer → ((s : ℕ) → is_in inner s ≡ true → s < 64) → (s : ℕ) → is_in inner s ≡ true → is_empty (at (walls outer) s) ≡ false
walls-full inner outer within inside s member = ap is_empty (at-walls outer s (inside s member) ∙ ap wall (within s member))

roams-less : (inner outer : List Bool) (place : Option Man) (t u : ℕ) → IsWithin inner outer → ((s : ℕ) → is_in inner s ≡ true → s < 64) → may_roam outer place t u ≡ true → may_roam inner place t u ≡ true
roams-less inner outer None t u within inside h = h
roams-less inner outer (Some man) t u within inside h =
    let parts = and_parts _ _ h in
    let out : is_in inner u ≡ false = false_from_ne_true _ (λ member. both_ways _ (not-true _ parts.1) (within u member)) in
    and_from _ _ (goes-between (walls outer) inner man.colour man.kind t u (walls-full inner outer within inside) parts.0) (not_from_false _ out)

-- a larger set leaves a smaller region
pub region-less : (inner outer : List Bool) (h : ℕ) → h < 64 → length inner ≡ 64 → IsWithin inner outer → IsWithin (region outer h) (region inner h)
region-less inner outer h inside size within =
    region-least outer (beginner h) h (region inner h) inside (region-home inner (beginner h) h inside)
    (closed-tells outer (beginner h) (region inner h) (λ t u ti ui member goes. region-goes inner (beginner h) h t u ui member (roams-less inner outer (beginner h) t u within (λ s there. member-inside inner s size there) goes)))

-- so a home that is dead stays dead
pub dead-more : (board : Places) (inner outer : List Bool) (h : ℕ) → is_officer_home h ≡ true → length inner ≡ 64 → IsWithin inner outer → is_dead board inner h ≡ true → is_dead board outer h ≡ true
unfolding is_dead
dead-more board inner outer h home size within dead =
    all_board (λ t. not (is_in (region outer h) t && is_like (beginner h) (at board t))) (λ t inside.
    not_from_false _ (false_from_ne_true _ (λ alive.
    let parts = and_parts _ _ alive in
    both_ways _ (not-true _ (at_board (λ t. not (is_in (region inner h) t && is_like (beginner h) (at board t))) t dead inside))
    (and_from _ _ (region-less inner outer h (officer-inside h home) size within t parts.0) parts.1))))

strikes-less : (inner outer : List Bool) (place : Option Man) (t u : ℕ) → IsWithin inner outer → may_strike outer place t u ≡ true → may_strike inner place t u ≡ true
strikes-less inner outer place t u within h =
    let parts = and_parts _ _ h in
    let neither = or_parts _ _ (not-true _ parts.1) in
    and_from _ _ parts.0 (not_from_false _ (or_from _ _ neither.0 (false_from_ne_true _ (λ member. both_ways _ neither.1 (within u member)))))

exposed-less : (inner outer : List Bool) (place : Option Man) (t : ℕ) → IsWithin inner outer → is_exposed outer place t ≡ true → is_exposed inner place t ≡ true
unfolding is_exposed
exposed-less inner outer place t within h =
    let some = any-told (may_strike outer place t) 0 64 h in
    any-found (may_strike inner place t) 0 64 some.0 (omega arith) some.1 (strikes-less inner outer place t some.0 within some.2)

-- and one that is shielded stays shielded
pub shielded-more : (inner outer : List Bool) (h : ℕ) → is_officer_home h ≡ true → length inner ≡ 64 → IsWithin inner outer → is_shielded inner h ≡ true → is_shielded outer h ≡ true
unfolding is_shielded
shielded-more inner outer h home size within shielded =
    all_board (λ t. not (is_in (region outer h) t && is_exposed outer (beginner h) t)) (λ t inside.
    not_from_false _ (false_from_ne_true _ (λ exposed.
    let parts = and_parts _ _ exposed in
    both_ways _ (not-true _ (at_board (λ t. not (is_in (region inner h) t && is_exposed inner (beginner h) t)) t shielded inside))
    (and_from _ _ (region-less inner outer h (officer-inside h home) size within t parts.0) (exposed-less inner outer (beginner h) t within parts.1)))))
