use Rattle.std.proofs.Common.{◌++◌, ◌∷◌, [], refl}
use Rattle.std.proofs.lemmas.Result.{IfOk-equal}
use Rattle.std.specs.Prelude.{codes}
use Rattle.prose_words.proofs.Squares.{thence}
use Rattle.board_base.specs.Texts.{square_text}
use Rattle.proof_prose.specs.Heads.{both_stayed}
use Rattle.proof_prose.proofs.heads.push_both_stayed.Goals as goal

pub returns : goal.returns
unfolding both_stayed
returns c =
    let o = c.args.out.now.items in
    let king = square_text c.args.king in
    let long = square_text c.args.long in
    let short = square_text c.args.short in
    let first = codes "It is given that the king of " in
    let h1 = thence o _ _ first king c.in_ok-say.ensures c.in_ok-push_square.ensures in
    let h2 = thence o _ _ (first ++ king) (codes " and the rooks of ") h1 c.in_ok-say-2.ensures in
    let h3 = thence o _ _ (first ++ king ++ codes " and the rooks of ") long h2 c.in_ok-push_square-2.ensures in
    let h4 = thence o _ _ (first ++ king ++ codes " and the rooks of " ++ long) (codes " and ") h3 c.in_ok-say-3.ensures in
    let h5 = thence o _ _ (first ++ king ++ codes " and the rooks of " ++ long ++ codes " and ") short h4 c.in_ok-push_square-3.ensures in
    IfOk-equal c.say-4.result c.say-4.new.out.items _ _ c.say-4.ensures
    (thence o _ _ (first ++ king ++ codes " and the rooks of " ++ long ++ codes " and " ++ short) (codes " never moved, and neither rook was taken." ++ 10 ∷ []) h5 refl)
