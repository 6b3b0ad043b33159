-- Where a text stops being FEN, with the field.
use Rattle.std.specs.Prelude.{ℕ, ◌≡◌, ◌+◌, ◌==◌, List, take, Option, Some, Result, Ok, Err}
use Rattle.std.specs.List.{count_by}
use Rattle.fen_text.specs.Faults.{IsFault}
use Rattle.fen_text.specs.declared.faults.FenFault.{FenFault}

-- how many spaces a text has
abbrev pub spaces : List ℕ → ℕ
spaces text = count_by (λ b. b == 32) text

-- the first fault.at bytes are the longest prefix that can be read on, and they reach into this field, counted from 1
pub record IsFenFault {V : Type 0} (decode : List ℕ → Option V) (text : List ℕ) (fault : FenFault) : Type 0 where
  pub place : IsFault decode text fault.at
  pub field : fault.field ≡ spaces (take fault.at text) + 1

-- what was read of a text: what it stands for, or the fault
abbrev pub Reads : {V : Type 0} → (List ℕ → Option V) → List ℕ → Result V FenFault → Type 0
Reads decode text (Ok x) = decode text ≡ Some x
Reads decode text (Err fault) = IsFenFault decode text fault
