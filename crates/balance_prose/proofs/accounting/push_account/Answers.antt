use Rattle.balance_prose.proofs.Known.{gates-inside}
use Rattle.balance_prose.proofs.Sums.{homes-enough}
use Rattle.board_base.specs.declared.men.Colour.TheVariants.{White, Black}
use Rattle.balance_prose.proofs.accounting.push_account.Goals as goal

pub push_end-requires : goal.push_end-requires
push_end-requires c = rw c.gates.ensures.value (gates-inside c.args.prices.now c.gates.ensures.range)

pub idle_of-requires : goal.idle_of-requires
idle_of-requires c = record {
  white = c.requires.white_men;
  black = c.requires.black_men;
  white_homes = homes-enough c.args.query.now c.args.prices.now c.args.set White c.args.white.now c.requires.white_men c.requires.white_least;
  black_homes = homes-enough c.args.query.now c.args.prices.now c.args.set Black c.args.black.now c.requires.black_men c.requires.black_least;
}
