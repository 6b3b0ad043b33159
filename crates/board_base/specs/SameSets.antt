-- When two sets of squares are one.
use Rattle.std.proofs.Common.{◌≡◌, Bool, List, refl}
use Rattle.std.proofs.lemmas.Slice.Eq.{slice_eq-Decides}
use Rattle.std.specs.Bool.{Decides, beq}
use Rattle.std.specs.Cmp.{booleans_Decides}
use Rattle.std.specs.Cmp.Lexicographic.{pointwise}

-- sets that agree square by square are equal
pub sets_decide : (a b : List Bool) → Decides (pointwise beq a b) (a ≡ b)
sets_decide a b = slice_eq-Decides booleans_Decides a b (pointwise beq a b) refl
