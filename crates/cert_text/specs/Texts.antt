-- Where lines go bad, for any relation between lines and what they are the text of.
use Rattle.std.specs.Prelude.{ℕ, ◌+◌, ◌-◌, ◌≡◌, ◌≤◌, ◌⊎◌, List, ◌++◌, length, take}
use Rattle.cert_text.specs.declared.faults.CertFault.{CertFault}
use Rattle.cert_text.specs.declared.faults.CertFault.TheVariants.{BadText, Memory}

module _ {C : Type 0} (AreLinesOf : List (List ℕ) → C → Type 0) where
  -- with some lines after them, these lines are the text of something
  abbrev pub Begins : List (List ℕ) → Type 0
  Begins lines = (rest : List (List ℕ)) × (value : C) × AreLinesOf (lines ++ rest) value

  -- The lines before line n begin such a text. With line n they begin none, or the text ends too early.
  pub record IsBadAt (lines : List (List ℕ)) (n : ℕ) : Type 0 where
    pub counted : 1 ≤ n
    pub front : Begins (take (n - 1) lines)
    pub bad : ((n ≤ length lines) × (Begins (take n lines) → ⊥)) ⊎ ((length lines + 1 ≡ n) × ((value : C) → AreLinesOf lines value → ⊥))

-- where the fault is bad text, this holds of its line
abbrev pub IfBadText : CertFault → (ℕ → Type 0) → Type 0
IfBadText (BadText n) P = P n
IfBadText Memory P = Unit {0}
