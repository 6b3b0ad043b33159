use Rattle.std.proofs.Common.{◌++◌, ◌∷◌, [], refl}
use Rattle.std.proofs.lemmas.Result.{IfOk-equal}
use Rattle.std.specs.Prelude.{codes}
use Rattle.prose_words.proofs.Squares.{thence}
use Rattle.proof_prose.specs.Heads.{upper_text, lower_text, diagram_text}
use Rattle.proof_prose.proofs.heads.push_diagram.Goals as goal

pub returns : goal.returns
unfolding diagram_text
returns c =
    let h0 = c.in_ok-say.ensures in
    let h1 = thence c.args.out.now.items _ _ (codes "  a b c d e f g h" ++ 10 ∷ []) (upper_text c.args.board.now) h0 c.in_ok-push_upper.ensures in
    IfOk-equal c.push_lower.result c.push_lower.new.out.items _ _ c.push_lower.ensures (thence c.args.out.now.items _ _ ((codes "  a b c d e f g h" ++ 10 ∷ []) ++ (upper_text c.args.board.now)) (lower_text c.args.board.now c.args.turn) h1 refl)
