-- Inner: no public clause cites this file.
-- The front of what passes through a source or a sink.
use Rattle.std.specs.Prelude.{ℕ, ◌≡◌, List, ◌++◌, take, Result, MatchResult}

-- a source or a sink, and the first bytes that passed through it
pub record Fronted (T : Type 0) : Type 0 where
  pub inner : T
  pub front : List ℕ

-- The front after a call: where so many of these bytes passed, longer by them, as far as there is room; where the call failed, as before.
abbrev pub KeepsFront : {E : Type 0} → ℕ → List ℕ → List ℕ → Result ℕ E → List ℕ → Type 0
KeepsFront room old new result bytes = MatchResult result (λ n. new ≡ take room (old ++ take n bytes)) (λ _. new ≡ old)
