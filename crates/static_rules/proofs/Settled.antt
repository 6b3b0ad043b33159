-- It can be settled whether some rule line supports a query: the greatest sets and the least cost decide.
use Rattle.std.proofs.Common.{◌≡◌, ℕ, ◌+◌, ◌<◌, ◌≤◌, ◌⊎◌, inl, inr, Bool, true, false, not, List, length, refl, sym, ap, ◌∙◌, arith}
use Rattle.std.specs.Prelude.{IsTrue, ℤ, pos, ◌+ℤ◌, ◌-ℤ◌, ◌<ℤ◌}
use Rattle.std.proofs.lemmas.Bool.{not-true, not_from_false}
use Rattle.std.proofs.lemmas.Bool.Decides.{Decides-eqb}
use Rattle.std.proofs.lemmas.Int.{ints}
use Rattle.board_base.specs.Board.{Places, array_of, at, is_empty, is_in, opponent, same_place}
use Rattle.board_base.specs.Game.{lacks_home}
use Rattle.board_base.specs.Legal.{in_check}
use Rattle.board_base.specs.Potentials.{ArePotentials, Duals}
use Rattle.board_base.specs.Rights.{holds}
use Rattle.board_base.specs.declared.castles.Castle.{Castle}
use Rattle.board_base.specs.declared.men.Colour.{Colour}
use Rattle.board_base.specs.declared.men.Colour.TheVariants.{White, Black}
use Rattle.board_base.proofs.Without.{length-array}
use Rattle.castle_history.specs.Homes.{HaveHomes, are_at_home}
use Rattle.play_rules.specs.Kings.{HasOneKingEach, kings}
use Rattle.play_rules.specs.Laws.{HasNoPawnOnEnds, has_no_pawn_on_ends}
use Rattle.play_rules.specs.Reach.{IsWithin}
use Rattle.play_rules.proofs.NoPawns.{answers_law}
use Rattle.men_account.specs.Account.{accounts_for, is_any}
use Rattle.men_account.specs.Homes.{men_of}
use Rattle.query_base.specs.Asked.{Asked}
use Rattle.query_base.specs.declared.rule_lines.RuleLine.{RuleLine}
use Rattle.query_base.specs.declared.rule_lines.RuleLine.TheVariants.{Kings, Ranks, Check, Rights, Count, Frozen, Caps, Promo}
use Rattle.cage_rules.specs.Frozen.{IsAsArray, IsFrozen}
use Rattle.cage_rules.specs.Refuted.{HasTooMany, is_spent}
use Rattle.cage_rules.specs.Sets.{squares_that}
use Rattle.cage_rules.specs.Tests.{squares_alike}
use Rattle.cage_rules.proofs.Existing.{alike-or-not, greatest-within}
use Rattle.cage_rules.proofs.Filling.{is_in-that, length-that}
use Rattle.cage_rules.proofs.Greatest.{alike-within, occupied-inside, within-alike}
use Rattle.cage_rules.proofs.Tested.{member-inside}
use Rattle.assignment.specs.Assignments.{IsBounded, least_cost, total}
use Rattle.pawn_assign.specs.PawnCosts.{pawn_costs, pawn_squares}
use Rattle.pawn_assign.proofs.EachPawn.{decides, rows}
use Rattle.static_rules.specs.SetRules.{CapsSupports, FrozenSupports, PromoSupports}
use Rattle.static_rules.specs.Greatest.{IsGreatestSettled}
use Rattle.static_rules.specs.Supports.{HasRightsHomes, IsClosed, Supports}
use Rattle.static_rules.proofs.Larger.{caps-greatest, promo-decided}
use Rattle.general_lemmas.proofs.Settling.{Settled, at_most, below, both, by_test, either, implied, negated, same, test}
use Rattle.board_base.proofs.Settled.{each_castle, each_colour}

-- The greatest sets

whole : List Bool
whole = squares_that (λ s. true)

length-whole : length whole ≡ 64
unfolding whole
length-whole = length-that (λ s. true)

within-whole : (set : List Bool) → length set ≡ 64 → IsWithin set whole
unfolding whole
within-whole set size s member = is_in-that (λ t. true) s (member-inside set s size member)

length-alike : (board first : Places) → length (squares_alike board first) ≡ 64
unfolding squares_alike
length-alike board first = length-that (λ s. same_place (at board s) (at first s))

-- the greatest set that is frozen and as in the array at the query's odds
greatest : Asked → List Bool
greatest q = (greatest-within q (squares_alike q.board (array_of q.odds)) (length-alike q.board (array_of q.odds))).0

-- a frozen set that is as in the array is on the board
settled-inside : (q : Asked) (set : List Bool) → IsFrozen q set → IsAsArray q.odds q.board set → (s : ℕ) → is_in set s ≡ true → s < 64
settled-inside q set frozen alike s member = occupied-inside (array_of q.odds) s (length-array q.odds) (ap is_empty (sym (alike s member)) ∙ frozen.occupied s member)

is-greatest : (q : Asked) → IsGreatestSettled q.odds q (greatest q)
unfolding greatest
is-greatest q =
    let found = (greatest-within q (squares_alike q.board (array_of q.odds)) (length-alike q.board (array_of q.odds))).1 in
    record {
      settled = record { whole = found.size; frozen = found.frozen; as_array = within-alike q.odds q.board (greatest q) found.within };
      greatest = λ other frozen same_there. found.holds other frozen (alike-within q.odds q.board other (settled-inside q other frozen same_there) same_there);
    }

-- The rules on sets

frozen-settled : (q : Asked) → Settled ((set : List Bool) × FrozenSupports q.odds q set)
frozen-settled q =
    let g = greatest-within q whole length-whole in
    elim (alike-or-not q.odds q.board g.0 g.1.size) [
      | inl alike ↦ inr (λ h. h.1.changed (λ s member. alike s (g.1.holds h.0 h.1.frozen (within-whole h.0 h.1.whole) s member)))
      | inr changed ↦ inl (g.0, record { whole = g.1.size; frozen = g.1.frozen; changed = changed })
    ]

promo-settled : (q : Asked) (side : Colour) → Settled ((set : List Bool) × PromoSupports q.odds q side set)
promo-settled q side =
    let g = is-greatest q in
    let more : Settled (HasTooMany q.odds q (greatest q) side) = below _ _ in
    elim more [
      | inl more ↦ inl (greatest q, record { settled = g.settled; more = more })
      | inr few ↦ inr (λ h. few (promo-decided q.odds q side (greatest q) g h.0 h.1))
    ]

-- the men that the other side has lost to pawns at most, as an integer
lost : Asked → Colour → ℕ
lost q side = men_of (opponent side) is_any q.board + men_of (opponent side) (is_spent q.board (greatest q)) (array_of q.odds)

over : (all rest : ℕ) (sum : ℤ) → (pos all -ℤ pos rest) <ℤ sum → pos all <ℤ (sum +ℤ pos rest)
over all rest sum h = omega (arith, ints)

over-back : (all rest : ℕ) (sum : ℤ) → pos all <ℤ (sum +ℤ pos rest) → (pos all -ℤ pos rest) <ℤ sum
over-back all rest sum h = omega (arith, ints)

over-least : (all rest cost : ℕ) → all < cost + rest → (pos all -ℤ pos rest) <ℤ pos cost
over-least all rest cost h = omega (arith, ints)

over-least-back : (all rest cost : ℕ) → (pos all -ℤ pos rest) <ℤ pos cost → all < cost + rest
over-least-back all rest cost h = omega (arith, ints)

-- the potentials that are given or sought are bounded, and their sum is above the men that can have been lost
caps-found : (q : Asked) (side : Colour) (d : Duals) → ArePotentials d → IsBounded 8 (pawn_costs q.odds side q.board) d.u d.v → length (pawn_squares side q.board) ≤ 8 → (pos (men_of (opponent side) is_any (array_of q.odds)) -ℤ pos (lost q side)) <ℤ (total d.u +ℤ total d.v) → CapsSupports q.odds q side (greatest q) d.u d.v
unfolding lost
caps-found q side d numbers bounded few above = record {
  settled = (is-greatest q).settled;
  numbers = numbers;
  above = record {
    pawns = sym (bounded.rows ∙ rows q.odds side q.board);
    eight = omega (arith, bounded.rows, rows q.odds side q.board);
    needs = record { bounded = bounded; above = over _ _ (total d.u +ℤ total d.v) above };
  };
}

caps-least : (q : Asked) (side : Colour) (set : List Bool) (u v : List ℤ) → CapsSupports q.odds q side set u v → (pos (men_of (opponent side) is_any (array_of q.odds)) -ℤ pos (lost q side)) <ℤ (total u +ℤ total v)
unfolding lost
caps-least q side set u v h = over-back _ _ (total u +ℤ total v) (caps-greatest q.odds q side (greatest q) (is-greatest q) set u v h).needs.above

caps-settled : (q : Asked) (side : Colour) → Settled ((set : List Bool) × (p : Duals) × CapsSupports q.odds q side set p.u p.v)
caps-settled q side =
    let all : ℕ = men_of (opponent side) is_any (array_of q.odds) in
    let cost : ℕ = least_cost 8 (pawn_costs q.odds side q.board) in
    let few : Settled (length (pawn_squares side q.board) ≤ 8) = at_most (length (pawn_squares side q.board)) 8 in
    let above : Settled (all < cost + lost q side) = below all (cost + lost q side) in
    elim (both _ _ few above) [
      | inl h ↦
          let d = (decides q.odds side q.board (pos all -ℤ pos (lost q side)) h.0).1 (over-least all (lost q side) cost h.1) in
          inl (greatest q, d.0, caps-found q side d.0 d.1 d.2 h.0 d.3)
      | inr less ↦ inr (λ (set, p, h).
          let eight : length (pawn_squares side q.board) ≤ 8 = omega (arith, h.above.pawns, h.above.eight) in
          less (eight, over-least-back all (lost q side) cost ((decides q.odds side q.board (pos all -ℤ pos (lost q side)) eight).0 (p, h.numbers, h.above.needs.bounded, caps-least q side set p.u p.v h))))
    ]

-- The rules without sets

abbrev pub IsSimple : RuleLine → Type 0
IsSimple (Frozen set) = ⊥
IsSimple (Caps side set p) = ⊥
IsSimple (Promo side set) = ⊥
IsSimple r = Unit {0}

is-false : (b : Bool) → Settled (b ≡ false)
is-false b = same (IsTrue (not b)) (b ≡ false) (not-true b) (not_from_false b) (test (not b))

rights-settled : (q : Asked) → Settled (HasRightsHomes q)
rights-settled q =
    let begun : Settled ((x : Castle) → IsTrue (holds q.held x) → lacks_home q.odds x ≡ false) = each_castle (λ x. IsTrue (holds q.held x) → lacks_home q.odds x ≡ false) (λ x. implied _ _ (test (holds q.held x)) (is-false (lacks_home q.odds x))) in
    let at_home : Settled (HaveHomes q.board q.held) = each_castle (λ x. IsTrue (holds q.held x) → IsTrue (are_at_home q.board x)) (λ x. implied (IsTrue (holds q.held x)) (IsTrue (are_at_home q.board x)) (test (holds q.held x)) (test (are_at_home q.board x))) in
    same (((x : Castle) → IsTrue (holds q.held x) → lacks_home q.odds x ≡ false) × HaveHomes q.board q.held) (HasRightsHomes q) (λ h. record { begun = h.0; at_home = h.1 }) (λ r. (r.begun, r.at_home)) (both _ _ begun at_home)

pub simple_settled : (q : Asked) (r : RuleLine) → IsSimple r → Settled (Supports q r)
simple_settled q Kings simple =
    negated (HasOneKingEach q.board) (each_colour (λ c. kings c q.board ≡ 1) (by_test _ _ (Decides-eqb (kings White q.board) 1)) (by_test _ _ (Decides-eqb (kings Black q.board) 1)))
simple_settled q Ranks simple =
    negated (HasNoPawnOnEnds q.board) (by_test (HasNoPawnOnEnds q.board) (has_no_pawn_on_ends q.board) (answers_law q.board (has_no_pawn_on_ends q.board) refl))
simple_settled q Check simple = test (in_check q.board (opponent q.turn))
simple_settled q Rights simple = negated (HasRightsHomes q) (rights-settled q)
simple_settled q (Count side) simple = negated (IsTrue (accounts_for q.odds q.board side)) (test (accounts_for q.odds q.board side))
simple_settled q (Frozen set) simple = absurd simple
simple_settled q (Caps side set p) simple = absurd simple
simple_settled q (Promo side set) simple = absurd simple

-- All rules

abbrev Simple : Asked → Type 0
Simple q = (Supports q Kings ⊎ Supports q Ranks) ⊎ ((Supports q Check ⊎ Supports q Rights) ⊎ (Supports q (Count White) ⊎ Supports q (Count Black)))

abbrev SomeFrozen : Asked → Type 0
SomeFrozen q = (set : List Bool) × FrozenSupports q.odds q set

abbrev SomePromo : Asked → Colour → Type 0
SomePromo q side = (set : List Bool) × PromoSupports q.odds q side set

abbrev SomeCaps : Asked → Colour → Type 0
SomeCaps q side = (set : List Bool) × (p : Duals) × CapsSupports q.odds q side set p.u p.v

abbrev OnSets : Asked → Type 0
OnSets q = SomeFrozen q ⊎ ((SomePromo q White ⊎ SomePromo q Black) ⊎ (SomeCaps q White ⊎ SomeCaps q Black))

closed-by : (q : Asked) → Simple q ⊎ OnSets q → IsClosed q
closed-by q (inl (inl (inl h))) = (Kings, h)
closed-by q (inl (inl (inr h))) = (Ranks, h)
closed-by q (inl (inr (inl (inl h)))) = (Check, h)
closed-by q (inl (inr (inl (inr h)))) = (Rights, h)
closed-by q (inl (inr (inr (inl h)))) = (Count White, h)
closed-by q (inl (inr (inr (inr h)))) = (Count Black, h)
closed-by q (inr (inl (set, h))) = (Frozen set, h)
closed-by q (inr (inr (inl (inl (set, h))))) = (Promo White set, h)
closed-by q (inr (inr (inl (inr (set, h))))) = (Promo Black set, h)
closed-by q (inr (inr (inr (inl (set, p, h))))) = (Caps White set p, h)
closed-by q (inr (inr (inr (inr (set, p, h))))) = (Caps Black set p, h)

place-of : (q : Asked) → IsClosed q → Simple q ⊎ OnSets q
place-of q (Kings, h) = inl (inl (inl h))
place-of q (Ranks, h) = inl (inl (inr h))
place-of q (Check, h) = inl (inr (inl (inl h)))
place-of q (Rights, h) = inl (inr (inl (inr h)))
place-of q (Count White, h) = inl (inr (inr (inl h)))
place-of q (Count Black, h) = inl (inr (inr (inr h)))
place-of q (Frozen set, h) = inr (inl (set, h))
place-of q (Promo White set, h) = inr (inr (inl (inl (set, h))))
place-of q (Promo Black set, h) = inr (inr (inl (inr (set, h))))
place-of q (Caps White set p, h) = inr (inr (inr (inl (set, p, h))))
place-of q (Caps Black set p, h) = inr (inr (inr (inr (set, p, h))))

pub closed_settled : (q : Asked) → Settled (IsClosed q)
closed_settled q =
    let s = simple_settled q in
    let simple : Settled (Simple q) =
    either (Supports q Kings ⊎ Supports q Ranks) ((Supports q Check ⊎ Supports q Rights) ⊎ (Supports q (Count White) ⊎ Supports q (Count Black))) (either _ _ (s Kings tt) (s Ranks tt)) (either (Supports q Check ⊎ Supports q Rights) (Supports q (Count White) ⊎ Supports q (Count Black)) (either _ _ (s Check tt) (s Rights tt)) (either _ _ (s (Count White) tt) (s (Count Black) tt))) in
    let sets : Settled (OnSets q) =
    either (SomeFrozen q) ((SomePromo q White ⊎ SomePromo q Black) ⊎ (SomeCaps q White ⊎ SomeCaps q Black)) (frozen-settled q)
    (either (SomePromo q White ⊎ SomePromo q Black) (SomeCaps q White ⊎ SomeCaps q Black) (either _ _ (promo-settled q White) (promo-settled q Black)) (either _ _ (caps-settled q White) (caps-settled q Black))) in
    same (Simple q ⊎ OnSets q) (IsClosed q) (closed-by q) (place-of q) (either (Simple q) (OnSets q) simple sets)
