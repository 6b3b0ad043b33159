use Rattle.std.proofs.Common.{length, ap, arith}
use Rattle.length_bound.proofs.Written.{written}
use Rattle.length_bound.proofs.writing.write_length.Goals as goal

pub returns-clause-text : goal.returns-clause-text
returns-clause-text c =
    let query = c.write_query_lines.ensures in
    written (record { query = c.args.query.now; at_least = c.args.n; side = c.args.side; potentials = c.args.p.now }) c.args.out.now.items _ _ _ _
    (record { free = c.requires.free; odds = query.odds; fen = query.fen; small = c.requires.small; potentials = c.push_moves.ensures.known })
    c.requires.empty c.push_text.ensures.text query.lines c.push_at_least.ensures.text c.push_moves.ensures.text

pub returns-clause-short : goal.returns-clause-short
returns-clause-short c =
    let query = c.write_query_lines.ensures.free c.requires.free in
    omega (arith, c.push_text.ensures.longer, query, c.push_at_least.ensures.short, c.push_moves.ensures.short, ap length c.requires.empty)
