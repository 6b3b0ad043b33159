-- Inner: no public clause cites this file.
-- Why a query wasn't refuted, by cases.
use Rattle.std.specs.Prelude.{◌≡◌, ◌++◌, ◌∷◌, []}
use Rattle.board_base.specs.declared.unmoves.Unmove.{Unmove}
use Rattle.retro_search.specs.declared.unrefuted.Unrefuted.{Unrefuted}
use Rattle.retro_search.specs.declared.unrefuted.Unrefuted.TheVariants as stop
use Rattle.retro_search.specs.declared.unrefuted.OpenLine.{OpenLine}

abbrev pub IfOpen : Unrefuted → (OpenLine → Type 0) → Type 0
IfOpen (stop.Open line) P = P line
IfOpen stop.Spent P = Unit {0}
IfOpen stop.TooLarge P = Unit {0}
IfOpen stop.Memory P = Unit {0}

abbrev pub IfSpent : Unrefuted → Type 0 → Type 0
IfSpent (stop.Open line) P = Unit {0}
IfSpent stop.Spent P = P
IfSpent stop.TooLarge P = Unit {0}
IfSpent stop.Memory P = Unit {0}

abbrev pub IfTooLarge : Unrefuted → Type 0 → Type 0
IfTooLarge (stop.Open line) P = Unit {0}
IfTooLarge stop.Spent P = Unit {0}
IfTooLarge stop.TooLarge P = P
IfTooLarge stop.Memory P = Unit {0}

-- what stopped the search of a predecessor, or want of memory, where this unmove leads to it
abbrev pub IsLengthened : Unrefuted → Unmove → Unrefuted → Type 0
IsLengthened (stop.Open line) u (stop.Open longer) = (longer.back.items ≡ line.back.items ++ u ∷ []) × (longer.at_array ≡ line.at_array)
IsLengthened stop.Spent u stop.Spent = Unit {0}
IsLengthened stop.TooLarge u stop.TooLarge = Unit {0}
IsLengthened before u stop.Memory = Unit {0}
IsLengthened before u after = ⊥
