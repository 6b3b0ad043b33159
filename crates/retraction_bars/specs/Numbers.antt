-- The bars in the order in which they are tried.
use Rattle.std.specs.Prelude.{ℕ, ◌-◌, cond, ◌==◌, nat_lt}
use Rattle.board_base.specs.declared.castles.Castle.TheVariants.{WhiteShort, WhiteLong, BlackShort, BlackLong}
use Rattle.board_base.specs.declared.men.Colour.TheVariants.{White, Black}
use Rattle.retraction_bars.specs.declared.bars.Bar.{Bar}
use Rattle.retraction_bars.specs.declared.bars.Bar.TheVariants.{Only, Check, Occupied, Itself, Held, Barred, Account, Clock, Passed, Otherwise}

-- the demands
abbrev pub given_at : ℕ → Bar
given_at n = cond (n == 0) Only (cond (n == 1) (Held WhiteShort) (cond (n == 2) (Held WhiteLong) (cond (n == 3) (Held BlackShort) (Held BlackLong))))

-- first those that may bar all of a man's ways at once: the demands, and checks from other squares
abbrev pub wide_at : ℕ → Bar
wide_at n = cond (nat_lt n 5) (given_at n) (Check (n - 5))

-- those that come last
abbrev pub rest_at : ℕ → Bar
rest_at n = cond (n == 0) Barred (cond (n == 1) (Account White) (cond (n == 2) (Account Black) (cond (n == 3) Clock (cond (n == 4) Passed Otherwise))))

-- those of one origin: it is occupied, from there he attacked the king, and then the others
abbrev pub narrow_at : ℕ → Bar
narrow_at n = cond (n == 0) Occupied (cond (n == 1) Itself (cond (nat_lt n 66) (Check (n - 2)) (cond (nat_lt n 71) (given_at (n - 66)) (rest_at (n - 71)))))

-- the bar with this number
unfoldable pub bar_at : ℕ → Bar
bar_at n = cond (nat_lt n 69) (wide_at n) (narrow_at (n - 69))
