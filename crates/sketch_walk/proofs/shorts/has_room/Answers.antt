use Rattle.std.proofs.Common.{ℕ, ◌||◌, not, ap}
use Rattle.std.specs.Prelude.{nat_lt}
use Rattle.sketch_walk.specs.Shorts.{has_room}
use Rattle.sketch_walk.proofs.shorts.has_room.Goals as goal

pub returns : goal.returns
unfolding has_room
returns c = ap (λ (n : ℕ). nat_lt n 32 || not (c.args.shorts.white || c.args.shorts.black)) c.len.ensures.value
