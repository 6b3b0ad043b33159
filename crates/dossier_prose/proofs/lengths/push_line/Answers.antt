use Rattle.std.proofs.Common.{◌++◌}
use Rattle.std.specs.Prelude.{codes}
use Rattle.prose_words.proofs.Squares.{thence}
use Rattle.prose_words.proofs.Behind.{behind}
use Rattle.std.specs.List.{range_with_len}
use Rattle.length_bound.specs.SideBounds.{holds_some}
use Rattle.prose_words.specs.Words.{side_word}
use Rattle.dossier_prose.specs.Lengths.{counted, saved_words, ways_words}
use Rattle.dossier_prose.proofs.lengths.push_line.Goals as goal

pub returns : goal.returns
returns c =
    let h0 = rw c.side_word.ensures at c.in_ok-say.ensures in
    let h1 = thence c.args.out.now.items _ _ (side_word c.args.side) (codes ": ") h0 (c.in_ok-say-2.ensures) in
    let h2 = thence c.args.out.now.items _ _ ((side_word c.args.side) ++ (codes ": ")) (ways_words c.args.query.now.odds c.args.side c.args.query.now.board (range_with_len 0 64) c.args.homes.now) h1 (c.in_ok-push_query_ways.ensures) in
    let h3 = thence c.args.out.now.items _ _ (((side_word c.args.side) ++ (codes ": ")) ++ (ways_words c.args.query.now.odds c.args.side c.args.query.now.board (range_with_len 0 64) c.args.homes.now)) (codes "in all ") h2 (c.in_ok-say-3.ensures) in
    let h4 = thence c.args.out.now.items _ _ ((((side_word c.args.side) ++ (codes ": ")) ++ (ways_words c.args.query.now.odds c.args.side c.args.query.now.board (range_with_len 0 64) c.args.homes.now)) ++ (codes "in all ")) (counted c.args.sum (codes "move")) h3 (c.in_ok-push_counted.ensures) in
    let h5 = thence c.args.out.now.items _ _ (((((side_word c.args.side) ++ (codes ": ")) ++ (ways_words c.args.query.now.odds c.args.side c.args.query.now.board (range_with_len 0 64) c.args.homes.now)) ++ (codes "in all ")) ++ (counted c.args.sum (codes "move"))) (saved_words (holds_some c.args.side c.args.query.now.held) c.args.sum) h4 (rw (c.saved_words.ensures, c.keeps_some.ensures) at c.in_ok-say-4.ensures) in
    let h6 = thence c.args.out.now.items _ _ ((((((side_word c.args.side) ++ (codes ": ")) ++ (ways_words c.args.query.now.odds c.args.side c.args.query.now.board (range_with_len 0 64) c.args.homes.now)) ++ (codes "in all ")) ++ (counted c.args.sum (codes "move"))) ++ (saved_words (holds_some c.args.side c.args.query.now.held) c.args.sum)) (codes ". So each game has at least ") h5 (c.in_ok-say-5.ensures) in
    let h7 = thence c.args.out.now.items _ _ (((((((side_word c.args.side) ++ (codes ": ")) ++ (ways_words c.args.query.now.odds c.args.side c.args.query.now.board (range_with_len 0 64) c.args.homes.now)) ++ (codes "in all ")) ++ (counted c.args.sum (codes "move"))) ++ (saved_words (holds_some c.args.side c.args.query.now.held) c.args.sum)) ++ (codes ". So each game has at least ")) (counted c.args.half_moves (codes "half-move")) h6 (c.in_ok-push_counted-2.ensures) in
    behind c.say-6.result c.args.out.now.items _ _ ((((((((side_word c.args.side) ++ (codes ": ")) ++ (ways_words c.args.query.now.odds c.args.side c.args.query.now.board (range_with_len 0 64) c.args.homes.now)) ++ (codes "in all ")) ++ (counted c.args.sum (codes "move"))) ++ (saved_words (holds_some c.args.side c.args.query.now.held) c.args.sum)) ++ (codes ". So each game has at least ")) ++ (counted c.args.half_moves (codes "half-move"))) (codes ".") h7 (c.say-6.ensures)
