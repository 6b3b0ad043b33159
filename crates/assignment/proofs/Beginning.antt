-- Each row and each column in the place of its number.
use Rattle.std.proofs.Common.{◌≡◌, ℕ, ◌<◌, List, slice_index, replicate, arith}
use Rattle.std.proofs.lemmas.List.{get_or-replicate}
use Rattle.assignment.specs.Pairings.{IsMatched}

pub IsMatched-new : (table : List (List ℕ)) (width : ℕ) (rows columns : List ℕ)
    → ((m : ℕ) → m < width → slice_index rows m ≡ m)
    → ((m : ℕ) → m < width → slice_index columns m ≡ m)
    → IsMatched table width (record { rows = rows; u = replicate width 0; columns = columns; prices = replicate width 0 }) 0
IsMatched-new table width rows columns in_rows in_columns =
    let zero_at : (m : ℕ) → m < width → slice_index (replicate width 0) m ≡ 0 = λ m lt. get_or-replicate width m 0 0 lt in
    record {
      sound = record {
        columns_below = λ m lt. let at = in_columns m lt in omega arith;
        columns_apart = λ m e lm le same. let at = in_columns m lm in let at_e = in_columns e le in omega arith;
        rows_apart = λ m e lm le same. let at = in_rows m lm in let at_e = in_rows e le in omega arith;
        columns_reached = λ j lt. (j, lt, in_columns j lt);
        rows_reached = λ j lt. (j, lt, in_rows j lt);
        fair = λ m e lm le. let u = zero_at m lm in omega arith;
        u_small = λ limit most m lm. let u = zero_at m lm in omega arith;
        prices_small = λ limit most m lm. let u = zero_at m lm in omega arith;
      };
      rows_below = λ m none. omega arith;
      met = λ m none. omega arith;
      rest = record {
        rows = λ m _ lt. in_rows m lt;
        u = λ m _ lt. zero_at m lt;
        prices = λ m _ lt. zero_at m lt;
      };
    }
