-- Inner: no public clause cites this file.
-- What comes of a value in some rounds.
use Rattle.std.specs.Prelude.{ℕ, zero, suc}

-- what comes of a value in n rounds
unfoldable pub after_rounds : {A : Type 0} → (A → A) → ℕ → A → A
after_rounds step zero x = x
after_rounds step (suc n) x = after_rounds step n (step x)
