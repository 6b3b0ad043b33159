use Rattle.std.proofs.Common.{ap, sym, ◌∙◌, subst}
use Rattle.std.specs.Prelude.{Option}
use Rattle.board_base.specs.declared.men.Man.{Man}
use Rattle.cage_rules.specs.Regions.{IsLeastFrom, region_from}
use Rattle.cage_rules.proofs.Spread.{home-officer}
use Rattle.cage_rules.proofs.roaming.region.Goals as goal

pub region_from-requires : goal.region_from-requires
region_from-requires c = home-officer c.args.home c.officer.result c.requires c.officer.ensures

pub returns-clause-squares : goal.returns-clause-squares
returns-clause-squares c = c.region_from.ensures.squares ∙ ap (λ (p : Option Man). region_from c.args.frozen p c.args.home) (sym c.officer.ensures)

pub returns-clause-least : goal.returns-clause-least
returns-clause-least c = subst (λ (p : Option Man). IsLeastFrom c.args.frozen p c.args.home c.region_from.result) (sym c.officer.ensures) c.region_from.ensures.least
