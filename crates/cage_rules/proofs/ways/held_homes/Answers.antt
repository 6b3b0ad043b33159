use Rattle.std.proofs.Common.{◌≡◌, ◌∙◌}
use Rattle.board_base.specs.declared.castles.Castle.TheVariants.{WhiteShort, WhiteLong, BlackShort, BlackLong}
use Rattle.cage_rules.specs.Sets.{squares_that, union}
use Rattle.cage_rules.proofs.Sorting.{homes-four, is_home}
use Rattle.cage_rules.proofs.ways.held_homes.Goals as goal

pub returns : goal.returns
returns c =
    let made : c.either.result ≡ union (union (squares_that (is_home c.args.held WhiteShort)) (squares_that (is_home c.args.held WhiteLong))) (union (squares_that (is_home c.args.held BlackShort)) (squares_that (is_home c.args.held BlackLong))) = cc in
    made ∙ homes-four c.args.held
