-- Potentials that bound the costs have a sum above a number exactly where the least cost is above it.
use Rattle.std.proofs.Common.{◌↔◌, ℕ, List, length, pos, arith}
use Rattle.std.specs.Prelude.{ℤ, ◌<ℤ◌}
use Rattle.std.specs.List.{range_with_len}
use Rattle.std.proofs.lemmas.Int.{ints}
use Rattle.assignment.specs.Tables.{IsTable}
use Rattle.assignment.specs.Assignments.{IsBoundedAbove, least_cost}
use Rattle.assignment.proofs.Duality.{weak_duality}
use Rattle.assignment.proofs.Existence.{solved}
use Rattle.assignment.proofs.Injections.{IsInjection-range, least_cost-is}

above : (width limit : ℕ) (table : List (List ℕ)) (n : ℤ) (u v : List ℤ) → IsTable table width limit → IsBoundedAbove n width limit table u v → n <ℤ pos (least_cost width table)
above width limit table n u v costs h =
    let best = least_cost-is width table (range_with_len 0 (length table)) (IsInjection-range width (length table) costs.rows) in
    let low = weak_duality width table u v best.0 h.bounded best.1 in
    let is = best.2 in
    let more = h.above in
    omega (arith, ints)

reached : (width limit : ℕ) (table : List (List ℕ)) (n : ℤ) → IsTable table width limit → n <ℤ pos (least_cost width table) → (u : List ℤ) × (v : List ℤ) × IsBoundedAbove n width limit table u v
reached width limit table n costs h =
    let all = solved table width costs.rows in
    let sum = all.3.reached in
    let least = all.3.least in
    (all.1, all.2, record { bounded = all.3.bounded; u_within = all.3.u_within limit costs; v_within = all.3.v_within limit costs; above = omega (arith, ints) })

pub decided : (width limit : ℕ) (table : List (List ℕ)) → IsTable table width limit → (n : ℤ) → ((u : List ℤ) × (v : List ℤ) × IsBoundedAbove n width limit table u v) ↔ (n <ℤ pos (least_cost width table))
decided width limit table costs n = (λ some. above width limit table n some.0 some.1 costs some.2, reached width limit table n costs)
