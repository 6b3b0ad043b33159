-- The rules on promoted men and on captures close no query that a game reaches.
use Rattle.std.proofs.Common.{Bool, List}
use Rattle.std.specs.Prelude.{ℤ}
use Rattle.board_base.specs.declared.men.Colour.{Colour}
use Rattle.board_base.specs.declared.moves.Move.{Move}
use Rattle.query_base.specs.Asked.{Asked}
use Rattle.query_base.specs.Reach.{Reaches}
use Rattle.cage_rules.specs.Reach.{LeadsTo}
use Rattle.cage_rules.proofs.Histories.{reaches-leads, unreached}
use Rattle.cage_rules.proofs.Refuted.{promo-refuted, caps-refuted}
use Rattle.static_rules.specs.SetRules.{CapsSupports, FrozenSupports, PromoSupports}

pub frozen-closed : (o : List Bool) (q : Asked) (set : List Bool) → FrozenSupports o q set → (g : List Move) → LeadsTo o g q → ⊥
frozen-closed o q set h g leads = unreached o g q set h.frozen h.changed leads

pub frozen-unreached : (q : Asked) (set : List Bool) → FrozenSupports q.odds q set → (g : List Move) → Reaches g q → ⊥
frozen-unreached q set h g reaches = frozen-closed q.odds q set h g (reaches-leads g q reaches)

pub promo-closed : (o : List Bool) (q : Asked) (side : Colour) (set : List Bool) → PromoSupports o q side set → (g : List Move) → LeadsTo o g q → ⊥
promo-closed o q side set h = promo-refuted o q set side h.settled.frozen h.more

pub caps-closed : (o : List Bool) (q : Asked) (side : Colour) (set : List Bool) (u v : List ℤ) → CapsSupports o q side set u v → (g : List Move) → LeadsTo o g q → ⊥
caps-closed o q side set u v h = caps-refuted o q set side u v h.settled.frozen h.above.needs

pub promo-unreached : (q : Asked) (side : Colour) (set : List Bool) → PromoSupports q.odds q side set → (g : List Move) → Reaches g q → ⊥
promo-unreached q side set h g reaches = promo-closed q.odds q side set h g (reaches-leads g q reaches)

pub caps-unreached : (q : Asked) (side : Colour) (set : List Bool) (u v : List ℤ) → CapsSupports q.odds q side set u v → (g : List Move) → Reaches g q → ⊥
caps-unreached q side set u v h g reaches = caps-closed q.odds q side set u v h g (reaches-leads g q reaches)
