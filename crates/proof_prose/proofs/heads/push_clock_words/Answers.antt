use Rattle.std.proofs.Common.{◌++◌, ◌∷◌, [], refl}
use Rattle.std.proofs.lemmas.Result.{IfOk-equal}
use Rattle.std.specs.Prelude.{codes}
use Rattle.prose_words.proofs.Squares.{thence}
use Rattle.std.specs.Fmt.{decimal}
use Rattle.proof_prose.proofs.heads.push_clock_words.Goals as goal

pub returns : goal.returns
returns c =
    let h0 = c.in_ok-say.ensures in
    let h1 = thence c.args.out.now.items _ _ (codes "Half-moves since the last capture or move of a pawn: ") (decimal c.args.n) h0 c.in_ok-push_number.ensures in
    IfOk-equal c.say-2.result c.say-2.new.out.items _ _ c.say-2.ensures (thence c.args.out.now.items _ _ ((codes "Half-moves since the last capture or move of a pawn: ") ++ (decimal c.args.n)) (codes "." ++ 10 ∷ []) h1 refl)
