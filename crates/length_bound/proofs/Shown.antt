-- What the calls on potentials answer.
use Rattle.std.proofs.Common.{inl, inr, ◌≡◌, ℕ, ◌*◌, ◌<◌, ◌≤◌, Bool, List, [], ◌∷◌, length, arith}
use Rattle.std.specs.Prelude.{Option, Some, None, ℤ, pos, ◌+ℤ◌, ◌≤ℤ◌, SomeIff, IfSome}
use Rattle.std.specs.List.{All}
use Rattle.std.proofs.lemmas.Bool.{cases_lt}
use Rattle.std.proofs.lemmas.Int.{ints}
use Rattle.std.proofs.lemmas.List.{length-map}
use Rattle.std.proofs.lemmas.List.Elements.{All-head, All-tail}
use Rattle.board_base.specs.Board.{Places, at, men_squares}
use Rattle.board_base.specs.Potentials.{IsWithinLimit}
use Rattle.board_base.specs.declared.men.Colour.{Colour}
use Rattle.board_base.specs.declared.moves.Move.{Move}
use Rattle.assignment.specs.Assignments.{IsBounded, total}
use Rattle.assignment.proofs.Duality.{total-below}
use Rattle.query_base.specs.Asked.{Asked}
use Rattle.query_base.specs.Reach.{Reaches}
use Rattle.length_bound.specs.SideBounds.{man_row, move_costs, IsSideBound, moves_shown, length_with}
use Rattle.length_bound.proofs.Bound.{reach-least}

pub rows : (o : List Bool) (c : Colour) (board : Places) → length (move_costs o c board) ≡ length (men_squares c board)
unfolding move_costs
rows o c board = length-map (men_squares c board) (λ s. man_row o c (at board s) s)

-- potentials need at most sixteen men
pub too-many : (o : List Bool) (c : Colour) (board : Places) (u v : List ℤ) → (length (men_squares c board) ≤ 16 → ⊥) → IsSideBound o c board u v → ⊥
too-many o c board u v many bound = many (omega (arith, bound.sixteen, bound.bounded.rows, rows o c board))

total-within : (u : List ℤ) → All IsWithinLimit u → total u ≤ℤ pos (64 * length u)
total-within [] h = omega (arith, ints)
total-within (x ∷ u) h =
    let here = (All-head IsWithinLimit x u h).1 in
    let rest = total-within u (All-tail IsWithinLimit x u h) in
    omega (arith, ints, here, rest)

-- their sum is no great number
pub sum-small : (table : List (List ℕ)) (u v : List ℤ) (answer : Option ℤ) → SomeIff answer (IsBounded 16 table u v) (total u +ℤ total v) → length u ≤ 16 → All IsWithinLimit u → IfSome answer (λ sum. sum ≤ℤ pos 1024)
sum-small table u v None h few within = tt
sum-small table u v (Some sum) h few within =
    let low = total-below v h.0.below in
    let high = total-within u within in
    let is = h.1 in
    omega (arith, ints, low, high, is, few)

-- the length that is answered is that of every game
pub answer-least : (q : Asked) (c : Colour) (u v : List ℤ) (answer : Option ℕ) → SomeIff answer (IsSideBound q.odds c q.board u v) (length_with c q.turn (moves_shown c q.held u v)) → IfSome answer (λ n. (g : List Move) → Reaches g q → n ≤ length g)
answer-least q c u v None h = tt
answer-least q c u v (Some n) h = λ g reaches. let most = reach-least q g c u v reaches h.0 in let is = h.1 in omega (arith, most, is)

pub not-few : (n : ℕ) → (n ≤ 16 → ⊥) → 16 < n
not-few n h = elim (cases_lt 16 n) [ inl above ↦ above | inr low ↦ absurd (h low) ]
