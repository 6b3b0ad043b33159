-- Counts of calls and of faults.
use Rattle.std.specs.Prelude.{ℕ, ◌+◌, ◌-◌, ◌^◌, min, Result, is_err, if◌then◌else◌}

-- one more, up to the last value of the counters
abbrev pub counted : ℕ → ℕ
counted n = min (n + 1) (2 ^ 64 - 1)

-- the count of faults after a call: one more where it failed
abbrev pub faults_after : {T E : Type 0} → ℕ → Result T E → ℕ
faults_after faults result = if is_err result then counted faults else faults

-- a reader or a writer, and how many calls over it have failed
pub record Counted (T : Type 0) : Type 0 where
  pub inner : T
  pub faults : ℕ
