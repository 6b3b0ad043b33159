use Rattle.std.proofs.Common.{◌≡◌}
use Rattle.board_base.specs.Squares.{squares_of}
use Rattle.cage_rules.specs.Sets.{union}
use Rattle.sketch_grounds.proofs.Backing.{backed-made}
use Rattle.sketch_grounds.proofs.zones.backed.Goals as goal

pub returns : goal.returns
returns c =
    let shut : c.either-shut.result ≡ union (squares_of 18374686479671623935) c.args.wall = cc c.from_bits.ensures.squares in
    let made = backed-made c.args.wall c.args.figure.now c.args.within c.either-shut.result shut in
    cc
