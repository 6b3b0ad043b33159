-- What the definitions give for tables that are written out.
use Rattle.std.proofs.Common.{◌≡◌, [], ◌∷◌, length, refl, pos, negsuc}
use Rattle.assignment.specs.Assignments.{assignment_cost, injections, least_cost, total}

two_of_three : injections 3 2 ≡ (1 ∷ 0 ∷ []) ∷ (2 ∷ 0 ∷ []) ∷ (0 ∷ 1 ∷ []) ∷ (2 ∷ 1 ∷ []) ∷ (0 ∷ 2 ∷ []) ∷ (1 ∷ 2 ∷ []) ∷ []
unfolding injections
two_of_three = refl

as_many_as_there_are : length (injections 4 4) ≡ 24
unfolding injections
as_many_as_there_are = refl

no_row : injections 5 0 ≡ [] ∷ []
unfolding injections
no_row = refl

none_fits : injections 2 3 ≡ []
unfolding injections
none_fits = refl

-- each row would like the second column
both_like_one : least_cost 2 ((3 ∷ 1 ∷ []) ∷ (5 ∷ 2 ∷ []) ∷ []) ≡ 5
unfolding least_cost injections
both_like_one = refl

one_column_is_left_out : least_cost 3 ((4 ∷ 1 ∷ 3 ∷ []) ∷ (2 ∷ 0 ∷ 5 ∷ []) ∷ []) ≡ 3
unfolding least_cost injections
one_column_is_left_out = refl

-- the least of six sums
three_rows : least_cost 3 ((4 ∷ 1 ∷ 3 ∷ []) ∷ (2 ∷ 0 ∷ 5 ∷ []) ∷ (3 ∷ 2 ∷ 2 ∷ []) ∷ []) ≡ 5
unfolding least_cost injections
three_rows = refl

cost_of_one : assignment_cost ((4 ∷ 1 ∷ 3 ∷ []) ∷ (2 ∷ 0 ∷ 5 ∷ []) ∷ (3 ∷ 2 ∷ 2 ∷ []) ∷ []) (1 ∷ 0 ∷ 2 ∷ []) ≡ 5
cost_of_one = refl

sum_of_signed : total (pos 3 ∷ negsuc 1 ∷ pos 1 ∷ []) ≡ pos 2
sum_of_signed = refl
