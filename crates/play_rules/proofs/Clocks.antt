-- The clock after one more move.
use Rattle.std.proofs.Common.{◌≡◌, ℕ, ◌+◌, ◌<◌, ◌≤◌, ◌⊎◌, Bool, true, false, cond, List, [], ◌∷◌, ◌++◌, inl, inr, refl, ap, sym, ◌∙◌, arith}
use Rattle.std.proofs.lemmas.Bool.{cases_lt, cond-true, cond-false, le-ltb, lt-ltb}
use Rattle.board_base.specs.Board.{Places, array_of}
use Rattle.board_base.specs.Play.{play}
use Rattle.std.specs.List.{fold}
use Rattle.board_base.specs.Game.{board_after}
use Rattle.board_base.specs.declared.moves.Move.{Move}
use Rattle.play_rules.specs.Clocks.{clock_after, clock_from, counted, resets}

from-more : (board : Places) (n : ℕ) (g : List Move) (m : Move) → clock_from board n (g ++ m ∷ []) ≡ cond (resets (fold play board g) m) 0 (clock_from board n g + 1)
from-more board n [] m = refl
from-more board n (a ∷ g) m = from-more (play board a) (cond (resets board a) 0 (n + 1)) g m

pub clock-more : (o : List Bool) (g : List Move) (m : Move) → clock_after o (g ++ m ∷ []) ≡ cond (resets (board_after o g) m) 0 (clock_after o g + 1)
clock-more o g m = from-more (array_of o) 0 g m

-- what is counted is the number, or the most
abbrev Counts : ℕ → Type 0
Counts n = ((n < 4294967295) × (counted n ≡ n)) ⊎ ((4294967295 ≤ n) × (counted n ≡ 4294967295))

counts : (n : ℕ) → Counts n
counts n = elim (cases_lt n 4294967295) [
  | inl low ↦ inl (low, cond-true _ n 4294967295 (lt-ltb n 4294967295 low))
  | inr high ↦ inr (high, cond-false _ n 4294967295 (le-ltb n 4294967295 high))
]

onward : (n : ℕ) → Counts n → Counts (n + 1) → counted (counted n + 1) ≡ counted (n + 1)
onward n (inl low) next = ap (λ (k : ℕ). counted (k + 1)) low.1
onward n (inr high) (inl low) = absurd (omega (arith, high.0, low.0))
onward n (inr high) (inr past) = ap (λ (k : ℕ). counted (k + 1)) high.1 ∙ sym past.1

-- what is counted of a clock goes on as the clock does
pub counted-more : (reset : Bool) (n : ℕ) → cond reset 0 (counted (counted n + 1)) ≡ counted (cond reset 0 (n + 1))
counted-more true n = refl
counted-more false n = onward n (counts n) (counts (n + 1))
