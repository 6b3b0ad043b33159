use Rattle.std.proofs.Common.{◌++◌, refl}
use Rattle.std.proofs.lemmas.Result.{IfOk-equal}
use Rattle.std.specs.Prelude.{codes}
use Rattle.prose_words.proofs.Squares.{thence}
use Rattle.board_base.specs.Texts.{square_text}
use Rattle.proof_prose.specs.Heads.{promotion_words}
use Rattle.proof_prose.proofs.heads.push_going.Goals as goal

pub returns : goal.returns
returns c =
    let h0 = c.in_ok-say.ensures in
    let h1 = thence c.args.out.now.items _ _ (codes "went from ") (square_text c.args.m.now.from) h0 (c.in_ok-push_square.ensures) in
    let h2 = thence c.args.out.now.items _ _ ((codes "went from ") ++ (square_text c.args.m.now.from)) (codes " to ") h1 (c.in_ok-say-2.ensures) in
    let h3 = thence c.args.out.now.items _ _ (((codes "went from ") ++ (square_text c.args.m.now.from)) ++ (codes " to ")) (square_text c.args.m.now.to) h2 (c.in_ok-push_square-2.ensures) in
    let h4 = thence c.args.out.now.items _ _ ((((codes "went from ") ++ (square_text c.args.m.now.from)) ++ (codes " to ")) ++ (square_text c.args.m.now.to)) (promotion_words c.args.m.now.promo) h3 (c.in_ok-push_promotion.ensures) in
    IfOk-equal c.say-3.result c.say-3.new.out.items _ _ (c.say-3.ensures) (thence c.args.out.now.items _ _ (((((codes "went from ") ++ (square_text c.args.m.now.from)) ++ (codes " to ")) ++ (square_text c.args.m.now.to)) ++ (promotion_words c.args.m.now.promo)) (codes ", capturing or not") h4 refl)
