use Rattle.std.proofs.Common.{◌≤◌, ◌↔◌, ℕ, List, Option, Some, None}
use Rattle.std.specs.Prelude.{MatchOption}
use Rattle.retro_top.specs.Names.{MayStand}
use Rattle.retro_top.specs.Numbers.{Gives, IsNumber}
use Rattle.retro_top.specs.declared.numbers.Number.{Number}
use Rattle.retro_top.proofs.numbers.Number.read.Goals as goal

given : (number : Number) (word : List ℕ) (least most : ℕ) (read : Option ℕ) → ((n : ℕ) → MayStand number n ↔ (least ≤ n) × (n ≤ most)) → MatchOption read ((n : ℕ) → IsNumber word least most n → ⊥) (IsNumber word least most) → MatchOption read ((n : ℕ) → Gives number word n → ⊥) (Gives number word)
given number word least most (Some n) range is = record { text_is = is.text_is; may_stand = (range n).1 (is.low, is.high) }
given number word least most None range none = λ n gives. let within = (range n).0 gives.may_stand in none n (record { text_is = gives.text_is; low = within.0; high = within.1 })

pub returns : goal.returns
returns c = given c.args.self _ _ _ c.read_number.result c.range-least.ensures c.read_number.ensures
