use Rattle.std.proofs.Common.{ℕ, take, arith}
use Rattle.std.proofs.lemmas.List.{length-take}
use Rattle.retro_ports.proofs.piecewise.read_piece.Goals as goal

pub returns-in-Ok-clause-too_long : goal.returns-in-Ok-clause-too_long
returns-in-Ok-clause-too_long g c _ = (take c.in-Ok.n c.read.new.buf, c.in-Ok.ensures.bytes.0, omega (arith, c.in-Ok.ensures.bound, length-take {A = ℕ}, c.if-n-room.true))
