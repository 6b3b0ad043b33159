use Rattle.price_sharing.proofs.Children.{kid_listed}
use Rattle.price_sharing.proofs.serving.all_served.Goals as goal

pub pred-requires : goal.pred-requires
pred-requires c =
    kid_listed c.args.kids.now c.loop-i.i _ _ c.args.query.now c.requires (rw c.unwrap-kid.ensures at c.get.ensures.kid)
