use Rattle.std.proofs.Common.{◌≡◌, ap, sym, ◌∙◌}
use Rattle.board_base.specs.Board.{array_of}
use Rattle.cage_rules.specs.SetSteps.{both}
use Rattle.cage_rules.specs.Tests.{squares_alike}
use Rattle.cage_rules.proofs.Greatest.{alike-answer}
use Rattle.cage_rules.proofs.arrays.as_array.Goals as goal

pub returns : goal.returns
returns c =
    let made : c.both.result ≡ both c.args.set (squares_alike c.args.board.now (array_of c.args.odds)) = c.both.ensures ∙ ap (both c.args.set) (c.squares_alike.ensures ∙ ap (squares_alike c.args.board.now) c.array_of.ensures) in
    alike-answer c.args.odds c.is_same.result c.args.board.now c.args.set (λ h. sym made ∙ c.is_same.ensures.0 h, λ same. c.is_same.ensures.1 (made ∙ same)) c.is_whole.ensures
