-- The order of the list.
use Rattle.std.specs.Prelude.{◌≡◌, List}
use Rattle.std.specs.List.{AllPairs}
use Rattle.std.specs.declared.cmp.Ordering.TheVariants.{Less}
use Rattle.board_base.specs.Texts.{unmove_order}
use Rattle.board_base.specs.declared.unmoves.Unmove.{Unmove}

-- each unmove comes before all that follow it, by target, then origin, then promotion, then captured man, as `cmp_unmove` compares
abbrev pub IsAscending : List Unmove → Type 0
IsAscending us = AllPairs (λ a b. unmove_order a b ≡ Less) us
