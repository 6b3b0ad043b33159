use Rattle.std.proofs.Common.{◌≡◌, rules}
use Rattle.figures.specs.Frozen.{is_held_home}
use Rattle.figures.specs.Sets.{squares_that}
use Rattle.sketch_sets.proofs.terrain.ground_of.Goals as goal

pub returns : goal.returns
returns c =
    let h : c.squares_that.result ≡ squares_that (is_held_home c.args.held) = c.squares_that.ensures (is_held_home c.args.held) (λ s b low post. search rules) in
    cc
