use Rattle.std.proofs.Common.{◌≡◌, rules, true}
use Rattle.std.specs.Bool.{beq}
use Rattle.std.specs.Cmp.Lexicographic.{pointwise}
use Rattle.board_base.specs.Board.{same_colour}
use Rattle.board_base.specs.SameSets.{sets_decide}
use Rattle.board_base.proofs.KindsOfMen.{colour_is}
use Rattle.price_search.proofs.flat_grounds.FlatSide.fits.Goals as goal

pub returns : goal.returns
returns c =
    let colours : same_colour c.args.self.now.side.side c.args.side ≡ true = search rules in
    let same : c.args.self.now.payers ≡ c.args.payers = search rules in
    let sets : pointwise beq c.args.self.now.side.frozen c.args.set ≡ true = search rules in
    λ yes. (colour_is c.args.self.now.side.side c.args.side colours, same, (sets_decide c.args.self.now.side.frozen c.args.set).0 sets, c.is_same.ensures.0 yes)
