use Rattle.std.proofs.Common.{◌++◌, []}
use Rattle.std.specs.Prelude.{codes}
use Rattle.std.specs.Fmt.{decimal}
use Rattle.prose_words.proofs.Squares.{thence}
use Rattle.balance_prose.proofs.pricing.gates_end.Goals as goal

pub returns : goal.returns
returns c =
    let h0 = rw c.new-end.ensures.items at c.in_ok-say.ensures in
    let h1 = thence [] _ _ (codes ". Of the two pawns that began on a file at most one paid for a square, or they would have passed each other: all pay at most ") (decimal c.args.most) h0 (c.in_ok-push_number.ensures) in
    let h2 = thence [] _ _ ((codes ". Of the two pawns that began on a file at most one paid for a square, or they would have passed each other: all pay at most ") ++ (decimal c.args.most)) (codes " for squares. ") h1 (c.in_ok-say-2.ensures) in
    h2
