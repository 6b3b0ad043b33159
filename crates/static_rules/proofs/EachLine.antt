-- It can be settled of each rule line whether it supports a query.
use Rattle.std.proofs.Common.{◌≡◌, ℕ, ◌<◌, ◌≤◌, inl, inr, Bool, List, [], ◌∷◌, length, arith}
use Rattle.std.specs.Prelude.{ℤ, pos, slice_index_or, ◌+ℤ◌, ◌≤ℤ◌, ◌<ℤ◌}
use Rattle.std.specs.Cmp.{unsigned_Decides}
use Rattle.std.specs.List.{All}
use Rattle.std.proofs.lemmas.Int.{by_lt_z, ints}
use Rattle.std.proofs.lemmas.List.Elements.{All-cons, All-head, All-nil, All-tail}
use Rattle.board_base.specs.Potentials.{ArePotentials, IsWithinLimit, duals}
use Rattle.board_base.specs.SameSets.{sets_decide}
use Rattle.board_base.specs.declared.men.Colour.{Colour}
use Rattle.assignment.specs.Assignments.{IsBounded}
use Rattle.assignment.specs.Tables.{cost_at}
use Rattle.cage_rules.specs.Frozen.{IsAsArray, IsFrozen}
use Rattle.cage_rules.specs.Refuted.{HasTooMany, NeedTooMany}
use Rattle.cage_rules.specs.Tests.{kept, ways_of}
use Rattle.cage_rules.proofs.Existing.{alike-or-not}
use Rattle.cage_rules.proofs.Greatest.{fixed-frozen, frozen-fixed}
use Rattle.pawn_assign.specs.PawnCosts.{pawn_costs, pawn_squares}
use Rattle.query_base.specs.Asked.{Asked}
use Rattle.query_base.specs.declared.rule_lines.RuleLine.{RuleLine}
use Rattle.query_base.specs.declared.rule_lines.RuleLine.TheVariants.{Kings, Ranks, Check, Rights, Count, Frozen, Caps, Promo}
use Rattle.static_rules.specs.SetRules.{CapsSupports, FrozenSupports, IsAbove, IsSettled, PromoSupports}
use Rattle.static_rules.specs.Supports.{Supports}
use Rattle.static_rules.proofs.Settled.{simple_settled}
use Rattle.general_lemmas.proofs.Settling.{Settled, at_most, below, both, by_test, each_below, negated, same}

-- Sets

is-sized : (set : List Bool) → Settled (length set ≡ 64)
is-sized set = by_test (length set ≡ 64) _ (unsigned_Decides (length set) 64)

is-frozen : (q : Asked) (set : List Bool) → length set ≡ 64 → Settled (IsFrozen q set)
is-frozen q set size = same (kept (ways_of q) set ≡ set) (IsFrozen q set) (fixed-frozen q set) (frozen-fixed q set size) (by_test _ _ (sets_decide (kept (ways_of q) set) set))

frozen-line : (q : Asked) (set : List Bool) → Settled (FrozenSupports q.odds q set)
frozen-line q set = elim (is-sized set) [
  | inr other ↦ inr (λ h. other h.whole)
  | inl size ↦ same (IsFrozen q set × (IsAsArray q.odds q.board set → ⊥)) (FrozenSupports q.odds q set) (λ h. record { whole = size; frozen = h.0; changed = h.1 }) (λ h. (h.frozen, h.changed)) (both _ _ (is-frozen q set size) (negated _ (alike-or-not q.odds q.board set size)))
]

-- a set is frozen and as in the array, or it isn't
pub set_settled : (o : List Bool) (q : Asked) (set : List Bool) → Settled (IsSettled o q set)
set_settled o q set = elim (is-sized set) [
  | inr other ↦ inr (λ h. other h.whole)
  | inl size ↦ same (IsFrozen q set × IsAsArray o q.board set) (IsSettled o q set) (λ h. record { whole = size; frozen = h.0; as_array = h.1 }) (λ h. (h.frozen, h.as_array)) (both _ _ (is-frozen q set size) (alike-or-not o q.board set size))
]

promo-line : (q : Asked) (side : Colour) (set : List Bool) → Settled (PromoSupports q.odds q side set)
promo-line q side set =
    let more : Settled (HasTooMany q.odds q set side) = below _ _ in
    same (IsSettled q.odds q set × HasTooMany q.odds q set side) (PromoSupports q.odds q side set) (λ h. record { settled = h.0; more = h.1 }) (λ h. (h.settled, h.more)) (both _ _ (set_settled q.odds q set) more)

-- Potentials

int-at-most : (a b : ℤ) → Settled (a ≤ℤ b)
int-at-most a b = by_lt_z b a (λ above. inr (λ most. absurd (omega (arith, ints)))) (λ most. inl most)

int-below : (a b : ℤ) → Settled (a <ℤ b)
int-below a b = by_lt_z a b (λ less. inl less) (λ past. inr (λ less. absurd (omega (arith, ints))))

-- what is said of each number of a list
each-of : (P : ℤ → Type 0) (xs : List ℤ) → ((x : ℤ) → Settled (P x)) → Settled (All P xs)
each-of P [] s = inl (All-nil P)
each-of P (x ∷ xs) s = same (P x × All P xs) (All P (x ∷ xs)) (λ h. All-cons P x xs h.0 h.1) (λ h. (All-head P x xs h, All-tail P x xs h)) (both _ _ (s x) (each-of P xs s))

within-limit : (x : ℤ) → Settled (IsWithinLimit x)
within-limit x = both _ _ (int-at-most _ x) (int-at-most x (pos 64))

are-potentials : (u v : List ℤ) → Settled (ArePotentials (duals u v))
are-potentials u v =
    same (((length u ≤ 8) × (length v ≡ 8)) × (All IsWithinLimit u × All IsWithinLimit v)) (ArePotentials (duals u v)) (λ h. record { pawns = h.0.0; files = h.0.1; u_within = h.1.0; v_within = h.1.1 }) (λ h. ((h.pawns, h.files), (h.u_within, h.v_within)))
    (both _ _ (both _ _ (at_most (length u) 8) (by_test _ _ (unsigned_Decides (length v) 8))) (both _ _ (each-of IsWithinLimit u within-limit) (each-of IsWithinLimit v within-limit)))

-- no two potentials of a row and a column are above the cost
abbrev IsPairBounded : List (List ℕ) → List ℤ → List ℤ → ℕ → ℕ → Type 0
IsPairBounded table u v i j = (slice_index_or u i (pos 0) +ℤ slice_index_or v j (pos 0)) ≤ℤ pos (cost_at table i j)

are-bounded : (table : List (List ℕ)) (u v : List ℤ) → Settled (IsBounded 8 table u v)
are-bounded table u v =
    let sizes : Settled ((length u ≡ length table) × (length v ≡ 8)) = both _ _ (by_test _ _ (unsigned_Decides (length u) (length table))) (by_test _ _ (unsigned_Decides (length v) 8)) in
    let low : Settled (All (λ x. x ≤ℤ pos 0) v) = each-of (λ x. x ≤ℤ pos 0) v (λ x. int-at-most x (pos 0)) in
    let pairs : Settled ((i : ℕ) → i < length table → (j : ℕ) → j < 8 → IsPairBounded table u v i j) = each_below (λ i. (j : ℕ) → j < 8 → IsPairBounded table u v i j) (length table) (λ i. each_below (IsPairBounded table u v i) 8 (λ j. int-at-most _ _)) in
    same (((length u ≡ length table) × (length v ≡ 8)) × (All (λ x. x ≤ℤ pos 0) v × ((i : ℕ) → i < length table → (j : ℕ) → j < 8 → IsPairBounded table u v i j))) (IsBounded 8 table u v)
    (λ h. record { rows = h.0.0; columns = h.0.1; below = h.1.0; pairs = λ i j row column. h.1.1 i row j column }) (λ h. ((h.rows, h.columns), (h.below, λ i row j column. h.pairs i j row column))) (both _ _ sizes (both _ _ low pairs))

are-above : (q : Asked) (side : Colour) (set : List Bool) (u v : List ℤ) → Settled (IsAbove q.odds q side set u v)
are-above q side set u v =
    let needs : Settled (NeedTooMany q.odds q set side u v) =
    same (IsBounded 8 (pawn_costs q.odds side q.board) u v × (_ <ℤ _)) (NeedTooMany q.odds q set side u v) (λ h. record { bounded = h.0; above = h.1 }) (λ h. (h.bounded, h.above)) (both _ _ (are-bounded (pawn_costs q.odds side q.board) u v) (int-below _ _)) in
    same (((length (pawn_squares side q.board) ≡ length u) × (length u ≤ 8)) × NeedTooMany q.odds q set side u v) (IsAbove q.odds q side set u v) (λ h. record { pawns = h.0.0; eight = h.0.1; needs = h.1 }) (λ h. ((h.pawns, h.eight), h.needs))
    (both _ _ (both _ _ (by_test _ _ (unsigned_Decides (length (pawn_squares side q.board)) (length u))) (at_most (length u) 8)) needs)

caps-line : (q : Asked) (side : Colour) (set : List Bool) (u v : List ℤ) → Settled (CapsSupports q.odds q side set u v)
caps-line q side set u v =
    same (IsSettled q.odds q set × (ArePotentials (duals u v) × IsAbove q.odds q side set u v)) (CapsSupports q.odds q side set u v) (λ h. record { settled = h.0; numbers = h.1.0; above = h.1.1 }) (λ h. (h.settled, (h.numbers, h.above)))
    (both _ _ (set_settled q.odds q set) (both _ _ (are-potentials u v) (are-above q side set u v)))

-- a rule line supports a query, or it doesn't
pub line_settled : (q : Asked) (r : RuleLine) → Settled (Supports q r)
line_settled q Kings = simple_settled q Kings tt
line_settled q Ranks = simple_settled q Ranks tt
line_settled q Check = simple_settled q Check tt
line_settled q Rights = simple_settled q Rights tt
line_settled q (Count side) = simple_settled q (Count side) tt
line_settled q (Frozen set) = frozen-line q set
line_settled q (Caps side set p) = caps-line q side set p.u p.v
line_settled q (Promo side set) = promo-line q side set
