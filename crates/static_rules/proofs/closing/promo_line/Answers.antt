use Rattle.std.proofs.lemmas.Bool.{both_ways}
use Rattle.static_rules.proofs.Larger.{promo-decided}
use Rattle.static_rules.proofs.closing.promo_line.Goals as goal

pub returns-else-has_more : goal.returns-else-has_more
returns-else-has_more c = λ set h. both_ways _ c.if-has_more.false (c.has_more.ensures.1 (promo-decided c.args.query.now.odds c.args.query.now c.args.side c.args.settled c.requires set h))
