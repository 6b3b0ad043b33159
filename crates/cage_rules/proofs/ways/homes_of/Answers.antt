use Rattle.std.proofs.Common.{◌≡◌, true, set, sym, ◌∙◌}
use Rattle.board_base.specs.Play.{king_home, rook_home}
use Rattle.board_base.specs.Squares.{squares_of}
use Rattle.cage_rules.proofs.Sorting.{homes-held, homes-lost}
use Rattle.cage_rules.proofs.ways.homes_of.Goals as goal

pub returns-then-has : goal.returns-then-has
returns-then-has c =
    let made : c.with-then-has.result ≡ set (set (squares_of 0) (king_home c.args.castle) true) (rook_home c.args.castle) true = cc in
    made ∙ homes-held c.args.held c.args.castle (sym c.has.ensures ∙ c.if-has.true)

pub returns-else-has : goal.returns-else-has
returns-else-has c = c.from_bits-none.ensures.squares ∙ homes-lost c.args.held c.args.castle (sym c.has.ensures ∙ c.if-has.false)
